use Rattle.std.proofs.Common.{refl}
use Rattle.numbers.specs.First.{first_of}
use Rattle.numbers.specs.Names.{named, listed}
use Rattle.tally.specs.Counts.{count_names, largest}
use Rattle.model.proofs.holder_after_two_requests.Goals as goal

pub returns : goal.returns
unfolding first_of named listed count_names largest
returns c = record {
  outcome = record {
    first = record { section = refl; steps = refl; entries = refl; refused = refl };
    second = record { section = refl; steps = refl; entries = refl; refused = refl };
    cells = refl;
    crowd = refl;
    held = refl;
    again = refl;
  };
}
