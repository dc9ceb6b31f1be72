-- Accepted plans, one with its report, and stand-offs, by computing. Assumes nothing.
use Rattle.std.proofs.Common.{refl}
use Rattle.std.specs.Fmt.{digits}
use Rattle.numbers.specs.Factors.{smallest_common_factor, common_factor, gcd}
use Rattle.numbers.specs.First.{first_of}
use Rattle.numbers.specs.Names.{named, listed}
use Rattle.numbers.specs.Rows.{first_misfit, misfit, repeats}
use Rattle.tally.specs.Counts.{count_names, largest}
use Rattle.model.specs.Meanings.{Meaning}
use Rattle.report.specs.Reports.{lines}
use Rattle.worked.specs.Worked.{Accepted, ExamplePlan, NoStandoffOverThree, StandoffOverFour, AfterFiveRounds}

pub accepted_over_five : Accepted 5
unfolding first_of listed smallest_common_factor common_factor gcd first_misfit misfit repeats
accepted_over_five = refl

pub accepted_over_twenty_five : Accepted 25
unfolding first_of listed smallest_common_factor common_factor gcd first_misfit misfit repeats
accepted_over_twenty_five = refl

pub example_plan : ExamplePlan
unfolding digits first_of named listed count_names largest lines smallest_common_factor common_factor gcd first_misfit misfit repeats
example_plan = record { says = refl; loads = refl; report = refl }

module _ {P : Type 0} (R : Meaning P) where
  pub over_three : NoStandoffOverThree R
  unfolding first_of smallest_common_factor common_factor gcd
  over_three ms = refl

  pub over_four : StandoffOverFour R
  unfolding first_of listed smallest_common_factor common_factor gcd
  over_four = record { loads = refl; turned = refl }

pub five_rounds : AfterFiveRounds
unfolding first_of named listed count_names largest smallest_common_factor common_factor gcd
five_rounds = record { cells = refl; first = refl; second = refl }
