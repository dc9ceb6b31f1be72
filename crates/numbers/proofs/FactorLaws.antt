-- Euclid's algorithm gives the greatest common divisor, and the smallest common factor divides. Assumes nothing.
use Rattle.std.proofs.Common.{◌≡◌, ℕ, zero, suc, ◌+◌, ◌-◌, ◌%◌, ◌<◌, ◌≤◌, true, false, eqb, ◌↔◌, is_some, IfSome, Some, None, Option, sym, refl, ◌∙◌, subst, ⊎_elim, le_refl, mod-lt, arith}
use Prim.Native.Nat.{◌∣◌}
use native.Mathlib.Nat.{dvd_refl, dvd-zero, dvd-mod_iff, le_of_dvd, pos_of_dvd_of_pos}
use Rattle.std.proofs.lemmas.Bool.{cond-true, cond-false, cases_Bool, cases_eq, eqb-true, eqb-false, eq-eqb, ne_eqb, not-true, not-false, not_from_true, not_from_false, true≢false}
use Rattle.numbers.specs.Factors.{euclid, gcd, GreatestCommonDivisor, common_factor, smallest_common_factor, CoprimeUpTo, SmallestCommonFactor}
use Rattle.numbers.proofs.FirstLaws.{first_tells_none, first_tells_some, first_none, first_found}

abbrev Gcd : ℕ → ℕ → ℕ → Type 0
Gcd = GreatestCommonDivisor

gcd_zero : (a b : ℕ) → b ≡ 0 → Gcd a a b
gcd_zero a b e = record { divides_first = dvd_refl a; divides_second = subst (λ n. a ∣ n) (sym e) (dvd-zero a); greatest = λ k h _. h }

gcd_turn : (d a b : ℕ) → Gcd d b (a % b) → Gcd d a b
gcd_turn d a b h = record {
  divides_first = (dvd-mod_iff d h.divides_first).0 h.divides_second;
  divides_second = h.divides_first;
  greatest = λ e f s. h.greatest e s ((dvd-mod_iff e s).1 f);
}

euclid_greatest : (k a b : ℕ) → b ≤ k → Gcd (euclid k a b) a b
euclid_greatest zero a b h = gcd_zero a b (omega arith)
euclid_greatest (suc k) a b h =
    ⊎_elim
    (λ yes'. subst (λ d. Gcd d a b) (sym (cond-true (eqb b 0) _ _ yes')) (gcd_zero a b (eqb-true b 0 yes')))
    (λ no'.
    let some : 0 < b = omega (arith, eqb-false b 0 no') in
    let less : a % b < b = mod-lt a some in
    subst (λ d. Gcd d a b) (sym (cond-false (eqb b 0) _ _ no')) (gcd_turn _ a b (euclid_greatest k b (a % b) (omega arith))))
    (cases_Bool (eqb b 0))

-- more turns than needed change nothing
euclid_turns : (j k a b : ℕ) → b ≤ j → b ≤ k → euclid j a b ≡ euclid k a b
euclid_turns zero zero a b f g = refl
euclid_turns zero (suc k) a b f g = sym (cond-true (eqb b 0) _ _ (eq-eqb b 0 (omega arith)))
euclid_turns (suc j) zero a b f g = cond-true (eqb b 0) _ _ (eq-eqb b 0 (omega arith))
euclid_turns (suc j) (suc k) a b f g =
    ⊎_elim
    (λ yes'. cond-true (eqb b 0) _ _ yes' ∙ sym (cond-true (eqb b 0) _ _ yes'))
    (λ no'.
    let some : 0 < b = omega (arith, eqb-false b 0 no') in
    let less : a % b < b = mod-lt a some in
    cond-false (eqb b 0) _ _ no' ∙ euclid_turns j k b (a % b) (omega arith) (omega arith) ∙ sym (cond-false (eqb b 0) _ _ no'))
    (cases_Bool (eqb b 0))

pub gcd_greatest : (a b : ℕ) → GreatestCommonDivisor (gcd a b) a b
unfolding gcd
gcd_greatest a b = euclid_greatest b a b (le_refl b)

pub gcd_by_zero : (a b : ℕ) → b ≡ 0 → gcd a b ≡ a
unfolding gcd
gcd_by_zero a b e = subst (λ n. euclid n a n ≡ a) (sym e) refl

pub gcd_by_turn : (a b : ℕ) → 0 < b → gcd b (a % b) ≡ gcd a b
unfolding gcd
gcd_by_turn a b some =
    let less : a % b < b = mod-lt a some in
    euclid_turns (a % b) b b (a % b) (le_refl _) (omega arith) ∙ sym (cond-false (eqb b 0) _ _ (ne_eqb b 0 (λ e. omega arith))) ∙ euclid_turns (suc b) b a b (omega arith) (le_refl b)

-- the test and what it says
pub common_factor_true : (a b : ℕ) → common_factor a b ≡ true → gcd a b ≡ 1 → ⊥
unfolding common_factor
common_factor_true a b h = eqb-false (gcd a b) 1 (not-true (eqb (gcd a b) 1) h)

pub common_factor_false : (a b : ℕ) → common_factor a b ≡ false → gcd a b ≡ 1
unfolding common_factor
common_factor_false a b h = eqb-true (gcd a b) 1 (not-false (eqb (gcd a b) 1) h)

pub shares : (a b : ℕ) → (gcd a b ≡ 1 → ⊥) → common_factor a b ≡ true
unfolding common_factor
shares a b h = not_from_false (eqb (gcd a b) 1) (ne_eqb (gcd a b) 1 h)

pub shares_not : (a b : ℕ) → gcd a b ≡ 1 → common_factor a b ≡ false
unfolding common_factor
shares_not a b h = not_from_true (eqb (gcd a b) 1) (eq-eqb (gcd a b) 1 h)

-- d = gcd l m is itself a number from 2 to l with a common factor with m, so it is l
smallest_divides : (m l : ℕ) → 2 ≤ l → (gcd l m ≡ 1 → ⊥) → ((k : ℕ) → 2 ≤ k → k < l → gcd k m ≡ 1) → l ∣ m
smallest_divides m l two shared smallest =
    let d = gcd l m in
    let h = gcd_greatest l m in
    let some : 0 < l = omega arith in
    let low : d ≤ l = le_of_dvd some h.divides_first in
    let pos : 0 < d = pos_of_dvd_of_pos h.divides_first some in
    ⊎_elim
    (λ same. subst (λ n. n ∣ m) same h.divides_second)
    (λ other.
    let one : gcd d m ≡ 1 = smallest d (omega (arith, shared)) (omega arith) in
    let through : d ∣ 1 = subst (λ n. d ∣ n) one ((gcd_greatest d m).greatest d (dvd_refl d) h.divides_second) in
    absurd (shared (omega (arith, le_of_dvd {m = d} {n = 1} (omega arith) through))))
    (cases_eq d l)

pub smallest_none : (n m : ℕ) → CoprimeUpTo n m → smallest_common_factor n m ≡ None
unfolding smallest_common_factor
smallest_none n m h = first_none (λ l. common_factor l m) 2 (n - 1) (2 + (n - 1)) refl (λ k a b. shares_not k m (h k a (omega arith)))

pub smallest_some : (n m l : ℕ) → 2 ≤ l → l ≤ n → (gcd l m ≡ 1 → ⊥) → ((k : ℕ) → 2 ≤ k → k < l → gcd k m ≡ 1) → smallest_common_factor n m ≡ Some l
unfolding smallest_common_factor
smallest_some n m l two low shared smaller =
    first_found (λ l. common_factor l m) 2 (n - 1) (2 + (n - 1)) l refl
    (record { from = two; below = omega arith; passes = shares l m shared; first = λ k a b. shares_not k m (smaller k a b) })

pub smallest_tells_none : (n m : ℕ) → smallest_common_factor n m ≡ None → CoprimeUpTo n m
unfolding smallest_common_factor
smallest_tells_none n m e l a b = common_factor_false l m (first_tells_none (λ l. common_factor l m) 2 (n - 1) (2 + (n - 1)) refl e l a (omega arith))

pub smallest_tells_some : (n m l : ℕ) → smallest_common_factor n m ≡ Some l → SmallestCommonFactor n m l
unfolding smallest_common_factor
smallest_tells_some n m l e =
    let h = first_tells_some (λ l. common_factor l m) 2 (n - 1) (2 + (n - 1)) l refl e in
    let shared = common_factor_true l m h.passes in
    let smaller : (k : ℕ) → 2 ≤ k → k < l → gcd k m ≡ 1 = λ k a b. common_factor_false k m (h.first k a b) in
    record {
      from_two = h.from;
      up_to = omega (arith, h.below, h.from);
      shared = shared;
      smallest = smaller;
      divides = smallest_divides m l h.from shared smaller;
    }

-- the three clauses of the search, from the first
pub record Answered (n m : ℕ) (r : Option ℕ) : Type 0 where
  pub value : r ≡ smallest_common_factor n m
  pub passes : (is_some r ≡ false) ↔ CoprimeUpTo n m
  pub smallest : IfSome r (SmallestCommonFactor n m)

pub answered : (n m : ℕ) (r : Option ℕ) → r ≡ smallest_common_factor n m → Answered n m r
answered n m None is = let none = smallest_tells_none n m (sym is) in record { value = is; passes = (λ _. none, λ _. refl); smallest = tt }
answered n m (Some l) is =
    let h = smallest_tells_some n m l (sym is) in
    record {
      value = is;
      passes = (λ e. absurd (true≢false e), λ all. absurd (h.shared (all l h.from_two h.up_to)));
      smallest = h;
    }
