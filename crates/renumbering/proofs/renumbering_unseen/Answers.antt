use Rattle.model.specs.Meanings.{meaning_of}
use Rattle.runs.proofs.Lawfulness.{steady_of, blind_of}
use Rattle.renumbering.proofs.Invisible.{invisible}
use Rattle.renumbering.proofs.renumbering_unseen.Goals as goal

pub returns : goal.returns
returns g c = record {
  invisible =
      invisible (meaning_of g.R.Rule) (steady_of g.row.R g.row.R-Phase g.R.Rule g.R.Rule-dict g.R.Phase.Clone g.R.Phase.Clone-dict g.world g.met.R.Rule)
      (blind_of g.row.R g.row.R-Phase g.R.Rule g.R.Rule-dict g.R.Phase.Clone g.R.Phase.Clone-dict g.world g.met.R.Rule);
}
