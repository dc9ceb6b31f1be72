use Rattle.std.proofs.Common.{◌∙◌}
use Rattle.rig.proofs.SectionLaws.{eq_asking}
use Rattle.rig.proofs.seat.Seat.asks.Goals as goal

pub returns : goal.returns
returns g c = record { value = c.eq.ensures ∙ eq_asking _ }
