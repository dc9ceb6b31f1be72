-- Laws of rows without repeats. Assumes nothing.
use Rattle.std.proofs.Common.{◌≡◌, ℕ, ◌+◌, ◌-◌, ◌<◌, ◌≤◌, Bool, true, false, not, eqb, leb, ◌↔◌, is_some, IfSome, Some, None, Option, sym, refl, ap, ◌∙◌, subst, ⊎_elim, arith}
use Rattle.std.proofs.lemmas.Bool.{true≢false, cases_Bool, eqb-true, eqb-false, ne_eqb, not-false, not_from_true, not_from_false, or_cases, or_parts, or_from, or_left, or_right, and_parts, and_from, leb-true, le-leb}
use Rattle.numbers.specs.Rows.{within, repeats, misfit, first_misfit, Distinct, EveryNumber, FirstMisfit}
use Rattle.numbers.proofs.Pigeonhole.{apart_both, every_number}
use Rattle.numbers.proofs.FirstLaws.{first_cases, first_none, first_found, first_tells_none, first_tells_some}

-- within, as an order
pub within_true : (low high x : ℕ) → within low high x ≡ true → (low ≤ x) × (x ≤ high)
within_true low high x e =
    let p = and_parts (leb low x) (leb x high) e in
    (leb-true low x p.0, leb-true x high p.1)

pub within_from : (low high x : ℕ) → low ≤ x → x ≤ high → within low high x ≡ true
within_from low high x a b = and_from (leb low x) (leb x high) (le-leb low x a) (le-leb x high b)

pub within_false : (low high x : ℕ) → within low high x ≡ false → low ≤ x → x ≤ high → ⊥
within_false low high x e a b = true≢false (sym (within_from low high x a b) ∙ e)

module _ (row : ℕ → ℕ) where
  same : ℕ → ℕ → Bool
  same k j = eqb (row j) (row k)

  pub repeats_here : (k j : ℕ) → 1 ≤ j → j < k → row j ≡ row k → repeats row k ≡ true
  unfolding repeats
  repeats_here k j a b e =
      ⊎_elim
      (λ n. absurd (eqb-false (row j) (row k) (n.1 j a (omega arith)) e))
      (λ s. ap is_some s.1)
      (first_cases (λ j. eqb (row j) (row k)) 1 (k - 1) (1 + (k - 1)) refl)

  pub repeats_not : (k : ℕ) → ((j : ℕ) → 1 ≤ j → j < k → row j ≡ row k → ⊥) → repeats row k ≡ false
  unfolding repeats
  repeats_not k h = ap is_some (first_none (λ j. eqb (row j) (row k)) 1 (k - 1) (1 + (k - 1)) refl (λ j a b. ne_eqb (row j) (row k) (h j a (omega arith))))

  pub repeats_tells : (k : ℕ) → repeats row k ≡ true → (j : ℕ) × (1 ≤ j) × (j < k) × (row j ≡ row k)
  unfolding repeats
  repeats_tells k e =
      ⊎_elim
      (λ n. absurd (true≢false (sym e ∙ ap is_some n.0)))
      (λ s. (s.0, s.2.from, omega (arith, s.2.below, s.2.from), eqb-true (row s.0) (row k) s.2.passes))
      (first_cases (λ j. eqb (row j) (row k)) 1 (k - 1) (1 + (k - 1)) refl)

  pub repeats_tells_not : (k : ℕ) → repeats row k ≡ false → (j : ℕ) → 1 ≤ j → j < k → row j ≡ row k → ⊥
  repeats_tells_not k e j a b s = true≢false (sym (repeats_here k j a b s) ∙ e)

  module _ (most : ℕ) where
    -- the number at k is in range and new
    pub record Fits (k : ℕ) : Type 0 where
      pub low : 1 ≤ row k
      pub high : row k ≤ most
      pub new : repeats row k ≡ false

    pub misfit_false : (k : ℕ) → misfit row most k ≡ false → Fits k
    unfolding misfit
    misfit_false k e =
        let p = or_parts (not (within 1 most (row k))) (repeats row k) e in
        let w = within_true 1 most (row k) (not-false (within 1 most (row k)) p.0) in
        record { low = w.0; high = w.1; new = p.1 }

    pub fits_no_misfit : (k : ℕ) → Fits k → misfit row most k ≡ false
    unfolding misfit
    fits_no_misfit k h =
        or_from (not (within 1 most (row k))) (repeats row k) (not_from_true (within 1 most (row k)) (within_from 1 most (row k) h.low h.high)) h.new

    pub misfit_true : (k : ℕ) → ((1 ≤ row k) × (row k ≤ most) → repeats row k ≡ true) → misfit row most k ≡ true
    unfolding misfit
    misfit_true k h =
        ⊎_elim
        (λ y. let w = within_true 1 most (row k) y in or_right (not (within 1 most (row k))) (repeats row k) (h w))
        (λ n. or_left (not (within 1 most (row k))) (repeats row k) (not_from_false (within 1 most (row k)) n))
        (cases_Bool (within 1 most (row k)))

    pub misfit_tells : (k : ℕ) → misfit row most k ≡ true → (1 ≤ row k) × (row k ≤ most) → repeats row k ≡ true
    unfolding misfit
    misfit_tells k e w =
        ⊎_elim
        (λ out. absurd (true≢false (sym out ∙ not_from_true (within 1 most (row k)) (within_from 1 most (row k) w.0 w.1))))
        (λ again. again)
        (or_cases (not (within 1 most (row k))) (repeats row k) e)

    pub distinct_from : (count : ℕ) → ((k : ℕ) → 1 ≤ k → k ≤ count → Fits k) → Distinct row most count
    distinct_from count h = record {
      inside = λ k a b. ((h k a b).low, (h k a b).high);
      apart = λ j k a b l. repeats_tells_not k (h k (omega arith) l).new j a b;
    }

    pub distinct_fits : (count : ℕ) → Distinct row most count → (k : ℕ) → 1 ≤ k → k ≤ count → Fits k
    distinct_fits count d k a b = record {
      low = (d.inside k a b).0;
      high = (d.inside k a b).1;
      new = repeats_not k (λ j low less. d.apart j k low less b);
    }

    pub first_misfit_none : (count : ℕ) → ((k : ℕ) → 1 ≤ k → k ≤ count → Fits k) → first_misfit row most count ≡ None
    unfolding first_misfit
    first_misfit_none count h = first_none (misfit row most) 1 count (1 + count) refl (λ k a b. fits_no_misfit k (h k a (omega arith)))

    pub first_misfit_some : (count k : ℕ) → 1 ≤ k → k ≤ count → misfit row most k ≡ true → ((j : ℕ) → 1 ≤ j → j < k → Fits j) → first_misfit row most count ≡ Some k
    unfolding first_misfit
    first_misfit_some count k a b bad before =
        first_found (misfit row most) 1 count (1 + count) k refl
        (record { from = a; below = omega arith; passes = bad; first = λ j low less. fits_no_misfit j (before j low less) })

    pub first_misfit_tells_none : (count : ℕ) → first_misfit row most count ≡ None → Distinct row most count
    unfolding first_misfit
    first_misfit_tells_none count e =
        distinct_from count (λ k a b. misfit_false k (first_tells_none (misfit row most) 1 count (1 + count) refl e k a (omega arith)))

    pub first_misfit_tells_some : (count k : ℕ) → first_misfit row most count ≡ Some k → FirstMisfit row most count k
    unfolding first_misfit
    first_misfit_tells_some count k e =
        let h = first_tells_some (misfit row most) 1 count (1 + count) k refl e in
        record {
          from_one = h.from;
          up_to = omega (arith, h.below);
          before = distinct_from (k - 1) (λ j a b. misfit_false j (h.first j a (omega (arith, h.from))));
          here = λ w. repeats_tells k (misfit_tells k h.passes w);
        }

    -- the four clauses of the search, from the first
    pub record Answered (count : ℕ) (r : Option ℕ) : Type 0 where
      pub value : r ≡ first_misfit row most count
      pub passes : (is_some r ≡ false) ↔ Distinct row most count
      pub complete : is_some r ≡ false → most ≡ count → EveryNumber row count
      pub first : IfSome r (FirstMisfit row most count)

    pub answered : (count : ℕ) (r : Option ℕ) → r ≡ first_misfit row most count → Answered count r
    answered count None is =
        let d = first_misfit_tells_none count (sym is) in
        record { value = is; passes = (λ _. d, λ _. refl); complete = λ _ full v. every_number row count v (subst (λ n. Distinct row n count) full d); first = tt }
    answered count (Some k) is =
        let h = first_misfit_tells_some count k (sym is) in
        record {
          value = is;
          passes = (
            λ e. absurd (true≢false e),
            λ d.
                let m = h.here (d.inside k h.from_one h.up_to) in
                absurd (d.apart m.0 k m.1 m.2 h.up_to m.3),
          );
          complete = λ e. absurd (true≢false e);
          first = h;
        }

    -- a first misfit is what the search finds
    pub misfit_from_first : (count k : ℕ) → FirstMisfit row most count k → first_misfit row most count ≡ Some k
    misfit_from_first count k h =
        first_misfit_some count k h.from_one h.up_to (misfit_true k (λ w. let m = h.here w in repeats_here k m.0 m.1 m.2 m.3)) (λ j a b. distinct_fits (k - 1) h.before j a (omega arith))

    -- a row passes exactly if it has no misfit
    pub passes : (count : ℕ) → (is_some (first_misfit row most count) ≡ false) ↔ Distinct row most count
    passes count = (
      λ e. first_misfit_tells_none count (none_from (first_misfit row most count) e),
      λ d. ap is_some (first_misfit_none count (distinct_fits count d)),
    )
      where
        none_from : (o : Option ℕ) → is_some o ≡ false → o ≡ None
        none_from None e = refl
        none_from (Some k) e = absurd (true≢false e)

-- the numbers from 1 on, each at its place
pub distinct_places : (count : ℕ) → Distinct (λ k. k) count count
distinct_places count = record { inside = λ k a b. (a, b); apart = λ j k a b l e. omega arith }

-- a row with the same numbers
pub distinct_same : (row other : ℕ → ℕ) (most count : ℕ) → ((k : ℕ) → 1 ≤ k → k ≤ count → row k ≡ other k) → Distinct row most count → Distinct other most count
distinct_same row other most count same d = record {
  inside = λ k a b. subst (λ v. (1 ≤ v) × (v ≤ most)) (same k a b) (d.inside k a b);
  apart = λ j k a b l e. d.apart j k a b l (same j a (omega arith) ∙ e ∙ sym (same k (omega arith) l));
}

-- one row after another
pub distinct_composed : (row other : ℕ → ℕ) (count : ℕ) → Distinct row count count → Distinct other count count → Distinct (λ k. other (row k)) count count
distinct_composed row other count d f = record {
  inside = λ k a b. let w = d.inside k a b in f.inside (row k) w.0 w.1;
  apart = λ j k a b l e.
      let v = d.inside j a (omega arith) in
      let w = d.inside k (omega arith) l in
      d.apart j k a b l (apart_both other count count (row j) (row k) f v.0 v.1 w.0 w.1 e);
}
