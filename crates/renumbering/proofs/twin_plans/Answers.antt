use Rattle.renumbering.proofs.Example.{example}
use Rattle.renumbering.proofs.twin_plans.Goals as goal

pub returns : goal.returns
returns c = record { twins = example }
