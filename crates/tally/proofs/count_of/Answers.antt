use Rattle.std.proofs.Common.{◌∙◌}
use Rattle.tally.proofs.EqualLaws.{times_is}
use Rattle.tally.proofs.count_of.Goals as goal

pub returns : goal.returns
returns c = record { value = c.count.ensures.value ∙ times_is c.args.marks.now c.args.mark }
