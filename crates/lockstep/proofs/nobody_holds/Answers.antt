use Rattle.model.specs.Meanings.{meaning_of}
use Rattle.runs.proofs.Lawfulness.{steady_of, blind_of}
use Rattle.lockstep.proofs.Standing.{nobody_holds}
use Rattle.lockstep.proofs.nobody_holds.Goals as goal

pub returns : goal.returns
returns g c = record {
  nobody_holds =
      nobody_holds (meaning_of g.R.Rule) (steady_of g.row.R g.row.R-Phase g.R.Rule g.R.Rule-dict g.R.Phase.Clone g.R.Phase.Clone-dict g.world g.met.R.Rule)
      (blind_of g.row.R g.row.R-Phase g.R.Rule g.R.Rule-dict g.R.Phase.Clone g.R.Phase.Clone-dict g.world g.met.R.Rule) g.met.R.ExclusiveRule.excludes;
}
