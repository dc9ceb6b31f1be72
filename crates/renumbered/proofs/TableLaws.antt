-- Laws of a numbering's table. Assumes nothing.
use Rattle.std.proofs.Common.{◌≡◌, ℕ, ◌≤◌, length, true, false, sym, ap, ◌∙◌, subst, ⊎_elim}
use Rattle.std.proofs.lemmas.Bool.{cases_Bool}
use Rattle.numbers.specs.Rows.{within, Distinct}
use Rattle.numbers.proofs.RowLaws.{within_true, within_from, distinct_same, distinct_composed}
use Rattle.renumbered.specs.Renumberings.{entry, arranged}
use Rattle.renumbered.specs.Stores.{by_table}
use Rattle.renumbered.specs.declared.numbering.Numbering.{Numbering}
use Rattle.renumbered.proofs.RenumberingLaws.{distinct_arranged, sigma_in, sigma_out, sigma_distinct}

pub table_distinct : (n : Numbering) (c : ℕ) → Distinct (by_table n c) c c
table_distinct n c = sigma_distinct n (length n) c

module _ (n : Numbering) (c : ℕ) (τ : ℕ → ℕ) (full : length n ≡ c) (same : (y : ℕ) → 1 ≤ y → y ≤ c → entry n y ≡ τ y) (distinct : Distinct τ c c) where
  pub table_arranged : arranged n (length n) ≡ true
  table_arranged = distinct_arranged n (length n) (subst (λ k. Distinct (entry n) k k) (sym full) (distinct_same τ (entry n) c c (λ y a b. sym (same y a b)) distinct))

  pub table_in : (y : ℕ) → 1 ≤ y → y ≤ c → by_table n c y ≡ τ y
  table_in y a b = sigma_in n (length n) c y full (within_from 1 c y a b) table_arranged ∙ same y a b

  -- where the names that are none stay
  pub table_all : ((y : ℕ) → within 1 c y ≡ false → τ y ≡ y) → (y : ℕ) → by_table n c y ≡ τ y
  table_all stay y =
      ⊎_elim
      (λ in'. let w = within_true 1 c y in' in table_in y w.0 w.1)
      (λ out. sigma_out n (length n) c y out ∙ sym (stay y out))
      (cases_Bool (within 1 c y))

-- one table over another
module _ (upper lower : Numbering) (c : ℕ) where
  abbrev pub both : ℕ → ℕ
  both y = by_table lower c (by_table upper c y)

  pub both_distinct : Distinct both c c
  both_distinct = distinct_composed (by_table upper c) (by_table lower c) c (table_distinct upper c) (table_distinct lower c)

  pub both_stay : (y : ℕ) → within 1 c y ≡ false → both y ≡ y
  both_stay y out = ap (by_table lower c) (sigma_out upper (length upper) c y out) ∙ sigma_out lower (length lower) c y out
