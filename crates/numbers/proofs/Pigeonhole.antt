-- Distinct numbers from 1 to most have at most `most` places, and where they fill them all, each number stands somewhere.
-- Assumes nothing.
use Rattle.std.proofs.Common.{◌≡◌, ℕ, zero, suc, ◌+◌, ◌≤◌, cond, eqb, ◌⊎◌, sym, refl, ◌∙◌, subst, inl, inr, ⊎_elim, arith}
use Rattle.std.proofs.lemmas.Bool.{cases_eq, cases_order, eqb-true, eqb-false, eq-eqb, ne_eqb, cond-true, cond-false}
use Rattle.numbers.specs.Rows.{Distinct}
use Rattle.numbers.proofs.FirstLaws.{first_cases}

-- the row with v at place k
abbrev pub changed : (ℕ → ℕ) → ℕ → ℕ → ℕ → ℕ
changed row k v j = cond (eqb j k) v (row j)

pub changed_here : (row : ℕ → ℕ) (k v j : ℕ) → j ≡ k → changed row k v j ≡ v
changed_here row k v j e = cond-true (eqb j k) v (row j) (eq-eqb j k e)

pub changed_other : (row : ℕ → ℕ) (k v j : ℕ) → (j ≡ k → ⊥) → changed row k v j ≡ row j
changed_other row k v j e = cond-false (eqb j k) v (row j) (ne_eqb j k e)

-- distinct the other way round too
pub apart_both : (row : ℕ → ℕ) (most count j k : ℕ) → Distinct row most count → 1 ≤ j → j ≤ count → 1 ≤ k → k ≤ count → row j ≡ row k → j ≡ k
apart_both row most count j k d a b c e s =
    ⊎_elim
    (λ same. same)
    (⊎_elim (λ less. absurd (d.apart j k a less e s)) (λ more. absurd (d.apart k j c more b (sym s))))
    (cases_order j k)

-- a place that holds v, or none does
pub find_number : (row : ℕ → ℕ) (count v : ℕ) → ((k : ℕ) × (1 ≤ k) × (k ≤ count) × (row k ≡ v)) ⊎ ((k : ℕ) → 1 ≤ k → k ≤ count → row k ≡ v → ⊥)
find_number row count v =
    ⊎_elim
    (λ n. inr (λ k a b. eqb-false (row k) v (n.1 k a (omega arith))))
    (λ s. inl (s.0, s.2.from, omega (arith, s.2.below), eqb-true (row s.0) v s.2.passes))
    (first_cases (λ k. eqb (row k) v) 1 count (1 + count) refl)

-- the highest number left out: the last place takes over its place
without : (row : ℕ → ℕ) (most count k : ℕ) → Distinct row (suc most) (suc count) → 1 ≤ k → k ≤ suc count → row k ≡ suc most → Distinct (changed row k (row (suc count))) most count
without row most count k d a b top =
    let last = suc count in
    let low : (j : ℕ) → 1 ≤ j → j ≤ last → (j ≡ k → ⊥) → row j ≤ most =
    λ j c e n.
    let w = (d.inside j c e).1 in
    ⊎_elim
    (λ same. absurd (n (apart_both row (suc most) last j k d c e a b (same ∙ sym top))))
    (λ other. omega arith)
    (cases_eq (row j) (suc most))
    in
    record {
      inside = λ j c e.
          ⊎_elim
          (λ same.
          let other : last ≡ k → ⊥ = λ s. omega arith in
          subst (λ v. (1 ≤ v) × (v ≤ most)) (sym (changed_here row k (row last) j same)) ((d.inside last (omega arith) (omega arith)).0, low last (omega arith) (omega arith) other))
          (λ other.
          subst (λ v. (1 ≤ v) × (v ≤ most)) (sym (changed_other row k (row last) j other)) ((d.inside j c (omega arith)).0, low j c (omega arith) other))
          (cases_eq j k);
      apart = λ i j c l e s.
          ⊎_elim
          (λ same.
          let other : j ≡ k → ⊥ = λ t. omega arith in
          let z : row last ≡ row j = sym (changed_here row k (row last) i same) ∙ s ∙ changed_other row k (row last) j other in
          d.apart j last (omega arith) (omega arith) (omega arith) (sym z))
          (λ other.
          ⊎_elim
          (λ same.
          let z : row i ≡ row last = sym (changed_other row k (row last) i other) ∙ s ∙ changed_here row k (row last) j same in
          d.apart i last c (omega arith) (omega arith) z)
          (λ also.
          let z : row i ≡ row j = sym (changed_other row k (row last) i other) ∙ s ∙ changed_other row k (row last) j also in
          d.apart i j c l (omega arith) z)
          (cases_eq j k))
          (cases_eq i k);
    }

-- no more places than numbers
pub pigeonhole : (most : ℕ) (row : ℕ → ℕ) (count : ℕ) → Distinct row most count → count ≤ most
pigeonhole zero row zero d = omega arith
pigeonhole zero row (suc count) d = let w = d.inside 1 (omega arith) (omega arith) in absurd (omega (arith, w.0, w.1))
pigeonhole (suc most) row zero d = omega arith
pigeonhole (suc most) row (suc count) d =
    ⊎_elim
    (λ h. let less = pigeonhole most (changed row h.0 (row (suc count))) count (without row most count h.0 d h.1 h.2 h.3) in omega arith)
    (λ none.
    let all : Distinct row most (suc count) =
    record {
      inside = λ j a b.
          let w = d.inside j a b in
          let n : row j ≡ suc most → ⊥ = none j a b in
          (w.0, omega (arith, w.1, n));
      apart = d.apart;
    }
    in
    let less = pigeonhole most row (suc count) all in omega arith)
    (find_number row (suc count) (suc most))

-- where the places are as many as the numbers, every number has a place
pub every_number : (row : ℕ → ℕ) (count v : ℕ) → Distinct row count count → 1 ≤ v → v ≤ count → (k : ℕ) × (1 ≤ k) × (k ≤ count) × (row k ≡ v)
every_number row count v d a b =
    ⊎_elim
    (λ h. h)
    (λ none.
    let last = suc count in
    let more : Distinct (changed row last v) count last =
    record {
      inside = λ j c e.
          ⊎_elim
          (λ same. subst (λ w. (1 ≤ w) × (w ≤ count)) (sym (changed_here row last v j same)) (a, b))
          (λ other. subst (λ w. (1 ≤ w) × (w ≤ count)) (sym (changed_other row last v j other)) (d.inside j c (omega arith)))
          (cases_eq j last);
      apart = λ i j c l e s.
          let first : i ≡ last → ⊥ = λ t. omega arith in
          ⊎_elim
          (λ same. none i c (omega arith) (sym (changed_other row last v i first) ∙ s ∙ changed_here row last v j same))
          (λ other. d.apart i j c l (omega arith) (sym (changed_other row last v i first) ∙ s ∙ changed_other row last v j other))
          (cases_eq j last);
    }
    in
    let less = pigeonhole count (changed row last v) last more in absurd (omega arith))
    (find_number row count v)
