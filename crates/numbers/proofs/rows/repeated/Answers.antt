use Rattle.std.proofs.Common.{◌-◌, eqb, rules, tests, refl}
use Rattle.numbers.specs.Rows.{repeats}
use Rattle.numbers.proofs.SearchLaws.{any_range}
use Rattle.numbers.proofs.rows.repeated.Goals as goal

pub returns : goal.returns
unfolding repeats
returns g c =
    let row = g.R.Row.numbers c.args.row.now in
    record {
      value = any_range (λ j. eqb (row j) (row c.args.place)) _ _ _ c.any.result 1 c.args.place (c.args.place - 1) c.any.ensures.ran refl refl (λ x y q k. search (rules, tests));
    }
