use Rattle.std.proofs.Common.{◌≡◌, ℕ, length, sym, refl, ap, ◌∙◌, subst}
use Rattle.renumbered.specs.Stores.{by_table, marks_above}
use Rattle.renumbered.proofs.RenumberingLaws.{length_renumbered, renumbered_same, renumbered_twice}
use Rattle.renumbered.proofs.TableLaws.{table_distinct, both}
use Rattle.renumbered.proofs.pile.flattened.Goals as goal

pub returns : goal.returns
returns g c =
    let p = c.args.pile in
    let marks = g.S.CellStore.marks in
    let ms = marks p.store.store in
    let mid = marks_above marks p.store in
    let n = c.over-numbering.result in
    let σ = by_table p.numbering (length mid) in
    let τ = by_table p.store.numbering (length ms) in
    let names : (y : ℕ) → by_table n (length ms) y ≡ τ (σ y) =
    λ y.
    subst (λ m. by_table n m y ≡ both p.numbering p.store.numbering m y) c.count.ensures.value (c.over-numbering.ensures.names y)
    ∙ ap (λ m. τ (by_table p.numbering m y)) (sym (length_renumbered τ ms))
    in
    record {
      store = refl;
      names = names;
      marks = renumbered_same (by_table n (length ms)) (λ y. τ (σ y)) ms (λ y a b. names y) ∙ sym (renumbered_twice σ τ ms (table_distinct p.numbering (length mid)));
      same = refl;
    }
