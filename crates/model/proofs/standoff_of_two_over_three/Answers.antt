use Rattle.std.proofs.Common.{refl}
use Rattle.numbers.specs.Factors.{smallest_common_factor, common_factor, gcd}
use Rattle.numbers.specs.First.{first_of}
use Rattle.model.proofs.standoff_of_two_over_three.Goals as goal

pub returns : goal.returns
unfolding first_of smallest_common_factor common_factor gcd
returns c = record { value = refl }
