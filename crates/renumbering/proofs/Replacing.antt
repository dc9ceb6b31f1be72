-- Identities exchanged: every replacement of some distinct identities by others extends to a permutation of all; and a numbering has a way back. Assumes nothing.
use Rattle.std.proofs.Common.{◌≡◌, ℕ, zero, suc, ◌≤◌, cond, eqb, ◌⊎◌, sym, refl, ap, ◌∙◌, subst, inl, inr, ⊎_elim, arith}
use Rattle.std.proofs.lemmas.Bool.{cases_eq, eq-eqb, ne_eqb, cond-true, cond-false}
use Rattle.numbers.specs.Rows.{Distinct}
use Rattle.numbers.proofs.Pigeonhole.{apart_both, find_number, pigeonhole, every_number}
use Rattle.numbers.proofs.RowLaws.{distinct_places, distinct_composed}
use Rattle.rules.specs.Lawful.{LawfulIdentity, Permutes}
use Rattle.renumbering.proofs.Twins.{Numbering}

-- u and v exchanged, and all else kept
abbrev pub exchange : ℕ → ℕ → ℕ → ℕ
exchange u v i = cond (eqb i u) v (cond (eqb i v) u i)

module _ (u v : ℕ) where
  pub exchange_first : (i : ℕ) → i ≡ u → exchange u v i ≡ v
  exchange_first i e = cond-true (eqb i u) v (cond (eqb i v) u i) (eq-eqb i u e)

  pub exchange_second : (i : ℕ) → i ≡ v → exchange u v i ≡ u
  exchange_second i e =
      ⊎_elim
      (λ same. exchange_first i same ∙ sym e ∙ same)
      (λ other. cond-false (eqb i u) v (cond (eqb i v) u i) (ne_eqb i u other) ∙ cond-true (eqb i v) u i (eq-eqb i v e))
      (cases_eq i u)

  pub exchange_other : (i : ℕ) → (i ≡ u → ⊥) → (i ≡ v → ⊥) → exchange u v i ≡ i
  exchange_other i a b = cond-false (eqb i u) v (cond (eqb i v) u i) (ne_eqb i u a) ∙ cond-false (eqb i v) u i (ne_eqb i v b)

  -- twice is not at all
  exchange_twice : (i : ℕ) → exchange u v (exchange u v i) ≡ i
  exchange_twice i =
      ⊎_elim
      (λ first. ap (exchange u v) (exchange_first i first) ∙ exchange_second v refl ∙ sym first)
      (λ a.
      ⊎_elim
      (λ second. ap (exchange u v) (exchange_second i second) ∙ exchange_first u refl ∙ sym second)
      (λ b. let same = exchange_other i a b in ap (exchange u v) same ∙ same)
      (cases_eq i v))
      (cases_eq i u)

  pub exchange_permutes : LawfulIdentity u → LawfulIdentity v → Permutes (exchange u v)
  exchange_permutes low high = record {
    inside = λ i a b.
        ⊎_elim
        (λ first. subst LawfulIdentity (sym (exchange_first i first)) high)
        (λ n.
        ⊎_elim
        (λ second. subst LawfulIdentity (sym (exchange_second i second)) low)
        (λ l. subst LawfulIdentity (sym (exchange_other i n l)) (a, b))
        (cases_eq i v))
        (cases_eq i u);
    apart = λ j k a b l e. let same : j ≡ k = sym (exchange_twice j) ∙ ap (exchange u v) e ∙ exchange_twice k in omega arith;
  }

-- n distinct identities can be replaced by any n distinct ones
pub extended : (n : ℕ) (a b : ℕ → ℕ) → Distinct a 65535 n → Distinct b 65535 n → (π : ℕ → ℕ) × Permutes π × ((k : ℕ) → 1 ≤ k → k ≤ n → π (a k) ≡ b k)
extended zero a b f g = (λ i. i, distinct_places 65535, λ k low high. absurd (omega arith))
extended (suc n) a b f g =
    let fewer : (c : ℕ → ℕ) → Distinct c 65535 (suc n) → Distinct c 65535 n = λ c d. record { inside = λ k low high. d.inside k low (omega arith); apart = λ j k low less high. d.apart j k low less (omega arith) } in
    let before = extended n a b (fewer a f) (fewer b g) in
    let π = before.0 in
    let last = suc n in
    let u = π (a last) in
    let v = b last in
    let at = f.inside last (omega arith) (omega arith) in (
      λ i. exchange u v (π i),
      distinct_composed π (exchange u v) 65535 before.1 (exchange_permutes u v (before.1.inside (a last) at.0 at.1) (g.inside last (omega arith) (omega arith))),
      λ k low high.
          ⊎_elim
          (λ same. ap (λ j. exchange u v (π (a j))) same ∙ exchange_first u v u refl ∙ ap b (sym same))
          (λ earlier.
          let here = before.2 k low (omega arith) in
          let there = f.inside k low high in
          ap (exchange u v) here
          ∙ exchange_other u v (b k)
          (λ e. f.apart k last low (omega arith) (omega arith) (apart_both π 65535 65535 (a k) (a last) before.1 there.0 there.1 at.0 at.1 (here ∙ e)))
          (λ e. g.apart k last low (omega arith) (omega arith) e))
          (cases_eq k last),
    )

-- the place of a number in a row

abbrev Found : (ℕ → ℕ) → ℕ → ℕ → Type 0
Found row count v = (k : ℕ) × (1 ≤ k) × (k ≤ count) × (row k ≡ v)

abbrev Missing : (ℕ → ℕ) → ℕ → ℕ → Type 0
Missing row count v = (k : ℕ) → 1 ≤ k → k ≤ count → row k ≡ v → ⊥

abbrev pub place : (ℕ → ℕ) → ℕ → ℕ → ℕ
place row count v = ⊎_elim (λ h. h.0) (λ n. 0) (find_number row count v)

place_found : (row : ℕ → ℕ) (count v : ℕ) → Found row count v → (1 ≤ place row count v) × (place row count v ≤ count) × (row (place row count v) ≡ v)
place_found row count v h = go (find_number row count v)
  where
    go : (o : Found row count v ⊎ Missing row count v) → let p = ⊎_elim (λ h. h.0) (λ n. 0) o in (1 ≤ p) × (p ≤ count) × (row p ≡ v)
    go (inl f) = (f.1, f.2, f.3)
    go (inr n) = absurd (n h.0 h.1 h.2 h.3)

-- a new numbering, with its way back
pub numbering : (σ : ℕ → ℕ) (m : ℕ) → Distinct σ m m → Numbering σ (place σ m) m
numbering σ m d =
    let at : (y : ℕ) → 1 ≤ y → y ≤ m → (1 ≤ place σ m y) × (place σ m y ≤ m) × (σ (place σ m y) ≡ y) = λ y a b. place_found σ m y (every_number σ m y d a b) in
    record {
      forth = d;
      back = record {
        inside = λ y a b. let h = at y a b in (h.0, h.1);
        apart = λ j k a b l e.
            let same : j ≡ k = sym (at j a (omega arith)).2 ∙ ap σ e ∙ (at k (omega arith) l).2 in
            omega arith;
      };
      round = λ y a b. (at y a b).2;
      home = λ y a b.
          let e = d.inside y a b in
          let h = at (σ y) e.0 e.1 in
          apart_both σ m m (place σ m (σ y)) y d h.0 h.1 a b h.2;
    }

-- the cells keep their numbers
pub same_numbering : (m : ℕ) → Numbering (λ y. y) (λ y. y) m
same_numbering m = record { forth = distinct_places m; back = distinct_places m; round = λ y a b. refl; home = λ y a b. refl }

-- some number from 1 to count + 1 stands at none of count places
search_missing : (row : ℕ → ℕ) (count n : ℕ) → ((v : ℕ) × (1 ≤ v) × (v ≤ n) × Missing row count v) ⊎ ((v : ℕ) → 1 ≤ v → v ≤ n → Found row count v)
search_missing row count zero = inr (λ v a b. absurd (omega arith))
search_missing row count (suc n) =
    ⊎_elim
    (λ h. inl (h.0, h.1, omega (arith, h.2), h.3))
    (λ all.
    ⊎_elim
    (λ found. inr (λ v a b. ⊎_elim (λ same. subst (Found row count) (sym same) found) (λ other. all v a (omega arith)) (cases_eq v (suc n))))
    (λ none. inl (suc n, omega arith, omega arith, none))
    (find_number row count (suc n)))
    (search_missing row count n)

pub missing_number : (row : ℕ → ℕ) (count : ℕ) → (v : ℕ) × (1 ≤ v) × (v ≤ suc count) × ((k : ℕ) → 1 ≤ k → k ≤ count → row k ≡ v → ⊥)
missing_number row count =
    ⊎_elim
    (λ h. h)
    (λ all.
    let full : Distinct (place row count) count (suc count) =
    record {
      inside = λ v a b. let h = place_found row count v (all v a b) in (h.0, h.1);
      apart = λ j k a b l e.
          let same : j ≡ k = sym (place_found row count j (all j a (omega arith))).2 ∙ ap row e ∙ (place_found row count k (all k (omega arith) l)).2 in
          omega arith;
    }
    in
    let less = pigeonhole count (place row count) (suc count) full in absurd (omega arith))
    (search_missing row count (suc count))
