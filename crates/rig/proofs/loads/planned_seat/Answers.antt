use Rattle.std.proofs.Common.{sym, ◌∙◌}
use Rattle.model.specs.Meanings.{meaning_of}
use Rattle.rig.proofs.SeatingLaws.{seat_made, seat_fresh, identity_planned}
use Rattle.rig.proofs.loads.planned_seat.Goals as goal

pub returns : goal.returns
returns g c =
    let p = c.args.plan.now in
    let R = meaning_of g.R.Rule in
    record {
      value = seat_made R c.new_seat.result _ _ p.draft.header.cells _ _ c.new_seat.ensures.value (identity_planned p.draft.header p.draft.file.now c.args.agent _ c.requires.first c.requires.last (sym c.unwrap-identity.ensures ∙ c.identity.ensures.value)) c.table_of.ensures.value;
      fresh = seat_fresh _ c.new_seat.result _ _ c.new_seat.ensures.value;
    }
