use Rattle.std.proofs.Common.{◌∙◌}
use Rattle.tally.proofs.EqualLaws.{flags_are}
use Rattle.tally.proofs.count_flags.Goals as goal

pub returns : goal.returns
returns c = record { value = c.count.ensures.value ∙ flags_are c.args.flags.now }
