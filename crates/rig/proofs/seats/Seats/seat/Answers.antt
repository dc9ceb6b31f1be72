use Rattle.std.proofs.Common.{is_some, set, sym, refl, ap, ◌∙◌, arith}
use Rattle.std.proofs.lemmas.Bool.{true≢false}
use Rattle.std.specs.Option.{option_map, ghost_name_of as name_of}
use Rattle.rig.specs.Seating.{seated_in}
use Rattle.rig.proofs.SeatLaws.{named_none, lent_before}
use Rattle.rig.proofs.seats.Seats.seat.Goals as goal

pub returns-in_err-checked_sub : goal.returns-in_err-checked_sub
returns-in_err-checked_sub g c = (
  (sym (ap name_of c.from_residual.ensures), (λ w e. absurd (true≢false (sym e ∙ ap is_some c.from_residual.ensures))), refl),
  record { lent = tt; found = ap (option_map (λ x. x.now)) c.from_residual.ensures ∙ named_none _ _ (omega (arith, c.in_err-checked_sub.ensures)) },
)

pub returns : goal.returns
returns g c = (
  (refl, (λ w e. ap (λ i. set (seated_in c.args.self.now) i w) c.in_ok-checked_sub.ensures.1), refl),
  record { lent = tt; found = lent_before (λ x. x.now) _ _ _ _ c.in_ok-checked_sub.ensures c.get_mut.ensures.item },
)
