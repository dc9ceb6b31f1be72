use Rattle.std.proofs.Common.{Err, sym, ap, ◌∙◌}
use Rattle.std.proofs.lemmas.Result.{err_from_is_err_and}
use Rattle.rig.specs.Seating.{seated_in}
use Rattle.rig.specs.Worlds.{rig_of}
use Rattle.rig.proofs.QuestionLaws.{section_there, section_missing, seat_there, seat_missing}
use Rattle.rig.proofs.SeatLaws.{named_map_some, named_map_none}
use Rattle.rig.proofs.rig.Rig.section.Goals as goal

pub returns-in_err-seat : goal.returns-in_err-seat
returns-in_err-seat g c =
    let p = err_from_is_err_and c.from_residual.result c.from_residual.ensures.1 in
    let none = seat_missing (λ x. x.now) (seated_in c.args.self.now.seats) c.args.k c.get.result c.ok_or.result _ c.get.ensures.value c.ok_or.ensures.value c.in_err-seat.was in
    record { value = p.1 ∙ ap Err (p.2 ∙ none.1) ∙ sym (section_missing (rig_of c.args.self.now) _ (named_map_none _ _ _ none.0)) }

pub returns : goal.returns
returns g c =
    let here = seat_there (λ x. x.now) (seated_in c.args.self.now.seats) c.args.k c.get.result c.ok_or.result _ c.get.ensures.value c.ok_or.ensures.ok_part c.in_ok-seat.was in
    record { value = sym (section_there (rig_of c.args.self.now) _ _ (named_map_some _ _ _ _ here)) }
