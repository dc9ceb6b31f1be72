use Rattle.std.proofs.Common.{refl, ◌∙◌}
use Rattle.rig.specs.Seating.{seated_in}
use Rattle.rig.specs.Worlds.{rig_of}
use Rattle.rig.proofs.QuestionLaws.{asking_placed}
use Rattle.rig.proofs.rig.Rig.asking.Goals as goal

pub returns : goal.returns
returns g c = let old = c.args.self.now in record { value = c.asking.ensures.value ∙ asking_placed old.cells (seated_in old.seats) (rig_of old) refl }
