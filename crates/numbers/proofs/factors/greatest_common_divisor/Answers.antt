use Rattle.std.proofs.Common.{sym, ◌∙◌, subst, arith}
use Rattle.numbers.specs.Factors.{GreatestCommonDivisor}
use Rattle.numbers.proofs.FactorLaws.{gcd_by_zero, gcd_by_turn, gcd_greatest}
use Rattle.numbers.proofs.factors.greatest_common_divisor.Goals as goal

pub loop-y-preserved : goal.loop-y-preserved
loop-y-preserved c = gcd_by_turn c.loop-y.x c.loop-y.y (omega arith) ∙ c.loop-y.invariant

pub returns : goal.returns
returns c =
    let is = sym (gcd_by_zero c.loop-y.x c.loop-y.y (omega arith)) ∙ c.loop-y.invariant in
    record { value = is; greatest = subst (λ d. GreatestCommonDivisor d c.args.a c.args.b) (sym is) (gcd_greatest c.args.a c.args.b) }
