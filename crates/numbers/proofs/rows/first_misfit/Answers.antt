use Rattle.std.proofs.Common.{◌≡◌, ◌∙◌, rules, tests, arith}
use Rattle.numbers.specs.Rows.{misfit, first_misfit}
use Rattle.numbers.proofs.RowLaws.{answered}
use Rattle.numbers.proofs.SearchLaws.{find_inclusive}
use Rattle.numbers.proofs.rows.first_misfit.Goals as goal

pub returns : goal.returns
unfolding first_misfit misfit
returns g c =
    let row = g.R.Row.numbers c.args.row.now in
    let most = c.args.most in
    let n = c.args.count in
    let found =
    find_inclusive (misfit row most) c.new.result _ _ c.find.result 1 n n c.find.ensures.ran c.new.ensures.start c.new.ensures.end c.new.ensures.exhausted (omega arith) (λ x y q k. search (rules, tests))
    in
    let same : c.map.result ≡ c.find.result = search rules in
    let h = answered row most n c.map.result (same ∙ found) in
    record { value = h.value; passes = h.passes; complete = h.complete; first = h.first }
