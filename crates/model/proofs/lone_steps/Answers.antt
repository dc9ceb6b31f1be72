use Rattle.std.proofs.Common.{refl}
use Rattle.numbers.specs.First.{first_of}
use Rattle.numbers.specs.Names.{named, listed}
use Rattle.tally.specs.Counts.{count_names, largest}
use Rattle.model.proofs.lone_steps.Goals as goal

pub returns : goal.returns
unfolding first_of named listed count_names largest
returns c = record { by_registers = (refl, refl); by_majority = (refl, refl); by_ladder = (refl, refl) }
