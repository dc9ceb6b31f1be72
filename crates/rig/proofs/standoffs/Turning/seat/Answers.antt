use Rattle.std.proofs.Common.{refl}
use Rattle.model.specs.Meanings.{meaning_of}
use Rattle.rig.proofs.SeatingLaws.{seat_made, seat_fresh}
use Rattle.rig.proofs.standoffs.Turning.seat.Goals as goal

pub returns : goal.returns
returns g c =
    let R = meaning_of g.R.Rule in
    record {
      value = seat_made R c.new_seat.result _ c.args.agent c.args.self.now.cells _ _ c.new_seat.ensures.value refl c.table.ensures.value;
      fresh = seat_fresh _ c.new_seat.result _ _ c.new_seat.ensures.value;
    }
