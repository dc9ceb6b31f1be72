use Rattle.std.proofs.Common.{◌≡◌, cond, length, is_ok, Ok, refl, ap, ◌∙◌, subst, arith, rules}
use Rattle.numbers.specs.Rows.{Distinct}
use Rattle.renumbered.specs.Renumberings.{entry, renumbered_marks}
use Rattle.renumbered.specs.Stores.{by_table, stands_for, marks_above, row_answer}
use Rattle.renumbered.proofs.RenumberingLaws.{renumbered_same}
use Rattle.renumbered.proofs.TableLaws.{table_in}
use Rattle.renumbered.proofs.renumbered.Renumbered.renumber.Goals as goal

pub returns : goal.returns
returns g c =
    let s = c.args.self.now in
    let marks = g.S.CellStore.marks in
    let ms = marks s.store in
    let row = c.args.row.now in
    let n = c.from_row-self.result in
    let is : Ok tt ≡ row_answer marks s row = search rules in
    let c0 = c.count-count.ensures.value in
    let distinct : Distinct (entry row) (length ms) (length ms) = subst (λ k. Distinct (entry row) k k) c0 (c.in_default.ensures.passes.0 refl) in
    let names = table_in n (length ms) (entry row) (c.from_row-self.ensures.count ∙ c.count-count.ensures.value) (λ y a b. c.from_row-self.ensures.names y a (omega arith)) distinct in
    record {
      value = is;
      names = λ y a b. names y a b ∙ ap (λ r. cond (is_ok r) (entry row y) (stands_for marks s y)) is;
      after = renumbered_same (by_table n (length ms)) (entry row) ms names ∙ ap (λ r. cond (is_ok r) (renumbered_marks (entry row) ms) (marks_above marks s)) is;
      below = refl;
      same = refl;
    }
