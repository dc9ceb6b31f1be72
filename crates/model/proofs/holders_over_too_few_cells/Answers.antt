use Rattle.std.proofs.Common.{refl}
use Rattle.numbers.specs.Factors.{smallest_common_factor, common_factor, gcd}
use Rattle.numbers.specs.First.{first_of}
use Rattle.numbers.specs.Names.{named, listed}
use Rattle.tally.specs.Counts.{count_names, largest}
use Rattle.model.proofs.holders_over_too_few_cells.Goals as goal

pub returns : goal.returns
unfolding first_of named listed count_names largest smallest_common_factor common_factor gcd
returns c = record { outcome = record { refused = refl; holds = refl; holds_too = refl } }
