use Rattle.std.proofs.Common.{◌-◌, rules, tests, arith}
use Rattle.numbers.specs.Factors.{common_factor, smallest_common_factor}
use Rattle.numbers.proofs.FactorLaws.{answered}
use Rattle.numbers.proofs.SearchLaws.{find_inclusive}
use Rattle.numbers.proofs.factors.smallest_common_factor.Goals as goal

pub returns : goal.returns
unfolding smallest_common_factor common_factor
returns c =
    let n = c.args.sizes.agents in
    let m = c.args.sizes.cells in
    let h =
    answered n m c.find.result
    (find_inclusive (λ l. common_factor l m) c.new.result _ _ c.find.result 2 n (n - 1) c.find.ensures.ran c.new.ensures.start c.new.ensures.end c.new.ensures.exhausted (omega arith) (λ x y q k. search (rules, tests)))
    in
    record { value = h.value; passes = h.passes; smallest = h.smallest }
