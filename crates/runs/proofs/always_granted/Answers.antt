use Rattle.model.specs.Meanings.{meaning_of}
use Rattle.runs.proofs.Lawfulness.{steady_of}
use Rattle.runs.proofs.Serving.{always}
use Rattle.runs.proofs.always_granted.Goals as goal

pub returns : goal.returns
returns g c = record { always = always (meaning_of g.R.Rule) (steady_of g.row.R g.row.R-Phase g.R.Rule g.R.Rule-dict g.R.Phase.Clone g.R.Phase.Clone-dict g.world g.met.R.Rule) }
