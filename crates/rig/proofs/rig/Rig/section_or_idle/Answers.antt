use Rattle.std.proofs.Common.{rules}
use Rattle.rig.specs.Seating.{seated_in}
use Rattle.rig.proofs.QuestionLaws.{section_lent}
use Rattle.rig.proofs.rig.Rig.section_or_idle.Goals as goal

pub returns : goal.returns
returns g c =
    let old = c.args.self.now in
    record { value = section_lent (λ x. x.now) (seated_in old.seats) old.cells c.args.k c.get.result c.map_or.result c.get.ensures.value (search rules) }
