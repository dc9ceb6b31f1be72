use Rattle.model.specs.Meanings.{meaning_of}
use Rattle.runs.proofs.Lawfulness.{steady_of, blind_of}
use Rattle.lockstep.proofs.Standing.{stands_off, same_section}
use Rattle.lockstep.proofs.same_section.Goals as goal

pub returns : goal.returns
returns g c = record {
  stands_off = stands_off (meaning_of g.R.Rule);
  same_section =
      same_section (meaning_of g.R.Rule) (steady_of g.row.R g.row.R-Phase g.R.Rule g.R.Rule-dict g.R.Phase.Clone g.R.Phase.Clone-dict g.world g.met.R.Rule)
      (blind_of g.row.R g.row.R-Phase g.R.Rule g.R.Rule-dict g.R.Phase.Clone g.R.Phase.Clone-dict g.world g.met.R.Rule);
}
