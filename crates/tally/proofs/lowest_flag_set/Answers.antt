use Rattle.std.proofs.Common.{◌∙◌}
use Rattle.tally.proofs.EqualLaws.{lowest_set}
use Rattle.tally.proofs.lowest_flag_set.Goals as goal

pub returns : goal.returns
returns c = record { value = c.lowest_name.ensures.value ∙ lowest_set c.args.flags.now }
