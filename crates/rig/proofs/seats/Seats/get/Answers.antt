use Rattle.std.proofs.Common.{ap, ◌∙◌, arith}
use Rattle.std.specs.Option.{option_map}
use Rattle.numbers.specs.Names.{named}
use Rattle.rig.proofs.SeatLaws.{named_none, lent_before}
use Rattle.rig.proofs.seats.Seats.get.Goals as goal

pub returns-in_err-checked_sub : goal.returns-in_err-checked_sub
returns-in_err-checked_sub g c = record { value = ap (option_map (λ x. x.now)) c.from_residual.ensures ∙ named_none _ _ (omega (arith, c.in_err-checked_sub.ensures)) }

pub returns : goal.returns
returns g c = record {
  value = lent_before (λ x. x.now) c.deref.result.now c.args.k _ c.get.result c.in_ok-checked_sub.ensures c.get.ensures.lookup ∙ ap (λ xs. named xs c.args.k) c.deref.ensures.value;
}
