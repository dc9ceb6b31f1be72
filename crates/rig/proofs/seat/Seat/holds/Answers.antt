use Rattle.std.proofs.Common.{◌∙◌}
use Rattle.rig.proofs.SectionLaws.{eq_holding}
use Rattle.rig.proofs.seat.Seat.holds.Goals as goal

pub returns : goal.returns
returns g c = record { value = c.eq.ensures ∙ eq_holding _ }
