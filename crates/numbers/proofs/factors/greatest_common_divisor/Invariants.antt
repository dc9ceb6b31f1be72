use Rattle.std.proofs.Common.{◌≡◌}
use Rattle.numbers.specs.Factors.{gcd}
use Rattle.numbers.proofs.factors.greatest_common_divisor.Given as goal

abbrev pub invariant-loop-y : goal.invariant-loop-y
invariant-loop-y l = gcd l.x l.y ≡ gcd l.a l.b

abbrev pub decreases-loop-y : goal.decreases-loop-y
decreases-loop-y l = l.y
