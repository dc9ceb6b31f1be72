-- Laws of `first_of`. Assumes nothing.
use Rattle.std.proofs.Common.{◌≡◌, ℕ, zero, suc, ◌+◌, ◌<◌, ◌≤◌, Bool, true, false, cond, ◌⊎◌, Some, None, sym, refl, ap, ◌∙◌, subst, inl, inr, ⊎_elim, le_refl, add-zero, arith}
use Rattle.std.proofs.lemmas.Bool.{cond-true, cond-false, cases_Bool, cases_eq, cases_order, true≢false}
use Rattle.numbers.specs.First.{first_of, NonePasses, IsFirst}

-- one that fails first, and then none
none_more : (test : ℕ → Bool) (start end : ℕ) → test start ≡ false → NonePasses test (start + 1) end → NonePasses test start end
none_more test start end here later k a b =
    ⊎_elim (λ same. subst (λ n. test n ≡ false) same here) (λ other. later k (omega arith) b) (cases_eq start k)

first_more : (test : ℕ → Bool) (start end i : ℕ) → test start ≡ false → IsFirst test (start + 1) end i → IsFirst test start end i
first_more test start end i here h = record {
  from = omega (arith, h.from);
  below = h.below;
  passes = h.passes;
  first = none_more test start i here h.first;
}

-- either no number passes, or there is a first one
pub first_cases : (test : ℕ → Bool) (start count end : ℕ) → start + count ≡ end → ((first_of test start count ≡ None) × NonePasses test start end) ⊎ ((i : ℕ) × (first_of test start count ≡ Some i) × IsFirst test start end i)
unfolding first_of
first_cases test start zero end e = inl (refl, λ k a b. absurd (omega (arith, add-zero start)))
first_cases test start (suc count) end e =
    ⊎_elim
    (λ yes'.
    inr (
      start,
      cond-true (test start) _ _ yes',
      record { from = le_refl start; below = omega arith; passes = yes'; first = λ k a b. absurd (omega arith) },
    ))
    (λ no'.
    ⊎_elim
    (λ h. inl (cond-false (test start) _ _ no' ∙ h.0, none_more test start end no' h.1))
    (λ h. inr (h.0, cond-false (test start) _ _ no' ∙ h.1, first_more test start end h.0 no' h.2))
    (first_cases test (start + 1) count end (omega arith)))
    (cases_Bool (test start))

pub first_none : (test : ℕ → Bool) (start count end : ℕ) → start + count ≡ end → NonePasses test start end → first_of test start count ≡ None
first_none test start count end e h =
    ⊎_elim
    (λ n. n.0)
    (λ s. let z : ◌≡◌ {A = Bool} true false = sym s.2.passes ∙ h s.0 s.2.from s.2.below in absurd (true≢false z))
    (first_cases test start count end e)

-- two firsts are the same
same_first : (test : ℕ → Bool) (start end i j : ℕ) → IsFirst test start end i → IsFirst test start end j → i ≡ j
same_first test start end i j f g =
    ⊎_elim
    (λ same. same)
    (⊎_elim
    (λ less. absurd (true≢false (sym f.passes ∙ g.first i f.from less)))
    (λ more. absurd (true≢false (sym g.passes ∙ f.first j g.from more))))
    (cases_order i j)

pub first_found : (test : ℕ → Bool) (start count end i : ℕ) → start + count ≡ end → IsFirst test start end i → first_of test start count ≡ Some i
first_found test start count end i e h =
    ⊎_elim
    (λ n. absurd (true≢false (sym h.passes ∙ n.1 i h.from h.below)))
    (λ s. s.1 ∙ ap Some (same_first test start end s.0 i s.2 h))
    (first_cases test start count end e)

-- what the answer tells
pub first_tells_none : (test : ℕ → Bool) (start count end : ℕ) → start + count ≡ end → first_of test start count ≡ None → NonePasses test start end
first_tells_none test start count end e none =
    ⊎_elim (λ n. n.1) (λ s. let z : ◌≡◌ {A = ℕ} 0 1 = cc (none, s.1) in absurd (omega arith)) (first_cases test start count end e)

pub first_tells_some : (test : ℕ → Bool) (start count end i : ℕ) → start + count ≡ end → first_of test start count ≡ Some i → IsFirst test start end i
first_tells_some test start count end i e some =
    ⊎_elim
    (λ n. let z : ◌≡◌ {A = ℕ} 0 1 = cc (some, n.0) in absurd (omega arith))
    (λ s. let same : s.0 ≡ i = cc (some, s.1) in subst (IsFirst test start end) same s.2)
    (first_cases test start count end e)

-- one more that fails, at the end
pub none_push : (test : ℕ → Bool) (start i : ℕ) → test i ≡ false → NonePasses test start i → NonePasses test start (i + 1)
none_push test start i here before k a b =
    ⊎_elim (λ same. subst (λ n. test n ≡ false) (sym same) here) (λ other. before k a (omega arith)) (cases_eq k i)

-- the same over the numbers 1 to n
pub none_up_to : (test : ℕ → Bool) (n : ℕ) → ((k : ℕ) → 1 ≤ k → k ≤ n → test k ≡ false) → first_of test 1 n ≡ None
none_up_to test n h = first_none test 1 n (1 + n) refl (λ k a b. h k a (omega arith))

pub first_up_to : (test : ℕ → Bool) (n i : ℕ) → 1 ≤ i → i ≤ n → test i ≡ true → NonePasses test 1 i → first_of test 1 n ≡ Some i
first_up_to test n i a b here before =
    first_found test 1 n (1 + n) i refl (record { from = a; below = omega arith; passes = here; first = before })

-- tests that agree find the same
pub first_same : (test other : ℕ → Bool) (start count end : ℕ) → start + count ≡ end → ((k : ℕ) → start ≤ k → k < end → test k ≡ other k) → first_of test start count ≡ first_of other start count
unfolding first_of
first_same test other start zero end e h = refl
first_same test other start (suc count) end e h =
    let here = h start (le_refl start) (omega arith) in
    let later = first_same test other (start + 1) count end (omega arith) (λ k a b. h k (omega arith) b) in
    λ i. cond (here i) (Some start) (later i)
