-- Cells that all but one of some agents cover are fewer than those agents. Assumes nothing.
use Rattle.std.specs.Prelude.{◌≡◌, ℕ, ◌+◌, ◌<◌, ◌≤◌, ◌⊎◌, ◌≢◌}
use Rattle.std.proofs.Common.{sym, ap, ◌∙◌, inl, inr, ⊎_elim, arith}
use Rattle.std.proofs.lemmas.Bool.{cases_lt}
use Rattle.numbers.specs.Rows.{Distinct}
use Rattle.numbers.proofs.Pigeonhole.{pigeonhole}

-- one of the agents 1 to q, and not i, is given cell y
abbrev pub Elsewhere : (ℕ → ℕ) → ℕ → ℕ → ℕ → Type 0
Elsewhere cell_of i q y = (j : ℕ) × (1 ≤ j) × (j ≤ q) × (j ≢ i) × (cell_of j ≡ y)

pub cover : (cell_of : ℕ → ℕ) (i q m : ℕ) → 1 ≤ i → i ≤ q → ((y : ℕ) → 1 ≤ y → y ≤ m → Elsewhere cell_of i q y) → m + 1 ≤ q
cover cell_of i q m low high found = pigeonhole q row (m + 1) distinct
  where
    place : (y : ℕ) → ((1 ≤ y) × (y ≤ m)) ⊎ ((1 ≤ y) × (y ≤ m) → ⊥)
    place y =
        ⊎_elim
        (λ a. inr (λ b. omega arith))
        (λ a. ⊎_elim (λ b. inr (λ c. omega arith)) (λ b. inl (a, b)) (cases_lt m y))
        (cases_lt y 1)

    -- who has a cell; at a place that is no cell stands i
    who : (y : ℕ) → ((1 ≤ y) × (y ≤ m)) ⊎ ((1 ≤ y) × (y ≤ m) → ⊥) → ℕ
    who y (inl a) = (found y a.0 a.1).0
    who y (inr a) = i

    row : ℕ → ℕ
    row y = who y (place y)

    inside_by : (y : ℕ) (c : ((1 ≤ y) × (y ≤ m)) ⊎ ((1 ≤ y) × (y ≤ m) → ⊥)) → (1 ≤ who y c) × (who y c ≤ q)
    inside_by y (inl a) = let f = found y a.0 a.1 in (f.1, f.2)
    inside_by y (inr a) = (low, high)

    apart_by : (y z : ℕ) (c : ((1 ≤ y) × (y ≤ m)) ⊎ ((1 ≤ y) × (y ≤ m) → ⊥)) (d : ((1 ≤ z) × (z ≤ m)) ⊎ ((1 ≤ z) × (z ≤ m) → ⊥)) → 1 ≤ y → y < z → z ≤ m + 1 → who y c ≢ who z d
    apart_by y z (inl a) (inl b) one less most same =
        let f = found y a.0 a.1 in
        let g = found z b.0 b.1 in
        let e : y ≡ z = sym f.4 ∙ ap cell_of same ∙ g.4 in
        omega arith
    apart_by y z (inl a) (inr b) one less most same = (found y a.0 a.1).3 same
    apart_by y z (inr a) d one less most same = a (one, omega arith)

    distinct : Distinct row q (m + 1)
    distinct = record {
      inside = λ y a b. inside_by y (place y);
      apart = λ y z a b c e. apart_by y z (place y) (place z) a b c e;
    }
