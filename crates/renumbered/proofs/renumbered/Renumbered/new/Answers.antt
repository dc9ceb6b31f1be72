use Rattle.std.proofs.Common.{◌≡◌, ℕ, length, refl, ◌∙◌, arith}
use Rattle.numbers.proofs.RowLaws.{distinct_places}
use Rattle.renumbered.specs.Stores.{by_table}
use Rattle.renumbered.proofs.RenumberingLaws.{renumbered_not}
use Rattle.renumbered.proofs.TableLaws.{table_all}
use Rattle.renumbered.proofs.renumbered.Renumbered.new.Goals as goal

pub returns : goal.returns
returns g c =
    let ms = g.S.CellStore.marks c.args.store in
    let n = c.from_row-numbering.result in
    let stay : (y : ℕ) → by_table n (length ms) y ≡ y =
    table_all n (length ms) (λ y. y) (c.from_row-numbering.ensures.count ∙ c.count.ensures.value) (λ y a b. c.from_row-numbering.ensures.names y a (omega arith)) (distinct_places (length ms)) (λ y out. refl)
    in
    record { store = refl; names = stay; marks = renumbered_not (by_table n (length ms)) ms (λ y a b. stay y); same = refl }
