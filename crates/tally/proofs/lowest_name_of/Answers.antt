use Rattle.std.proofs.Common.{◌∙◌}
use Rattle.tally.proofs.EqualLaws.{lowest_mark}
use Rattle.tally.proofs.lowest_name_of.Goals as goal

pub returns : goal.returns
returns c = record { value = c.lowest_name.ensures.value ∙ lowest_mark c.args.marks.now c.args.mark }
