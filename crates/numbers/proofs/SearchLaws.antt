-- What `find`, `any` and `all` answer over a range of numbers, in the word `first_of`. Assumes nothing.
use Rattle.std.proofs.Common.{◌≡◌, ℕ, zero, suc, ◌+◌, ◌-◌, Bool, false, cond, not, ◌||◌, ◌&&◌, List, ◌∷◌, length, is_some, Some, None, Option, sym, refl, ap, ◌∙◌, subst, ⊎_elim, add-one, arith, Bor}
use denote.Param.Members.{Mut}
use Rattle.std.specs.declared.ops.Range.{Range}
use Rattle.std.specs.declared.ops.RangeInclusive.{RangeInclusive}
use Rattle.std.specs.Fn.{Called, CalledAt}
use Rattle.std.specs.Iterator.{FindsItem, ChecksAny, ChecksAll}
use Rattle.std.specs.Option.{option_map}
use Rattle.std.specs.List.{find, list_any, list_all, range_with_len}
use Rattle.std.specs.Range.{range_inclusive_start, range_inclusive_end, range_inclusive_exhausted, range_inclusive_left, range_inclusive_len}
use Rattle.std.proofs.iter.Yields.{nat_range_steps}
use Rattle.std.proofs.iter.runs.Sources.{nat_range_inclusive_steps}
use Rattle.std.proofs.lemmas.Bool.{cases_Bool, cond-true, cond-false}
use Rattle.std.proofs.lemmas.Iterator.{YieldsList, YieldsList-from_range}
use Rattle.std.proofs.lemmas.Iterator.Consumers.{YieldsList-from_shown}
use Rattle.std.proofs.lemmas.Iterator.Search.{find_from_yields_List, any_from_yields_List, all_from_yields_List}
use Rattle.numbers.specs.First.{first_of}

-- the first in a list of numbers that follow one another
find_first : (test : ℕ → Bool) (start count : ℕ) → find test (range_with_len start count) ≡ first_of test start count
unfolding first_of
find_first test start zero = refl
find_first test start (suc count) = ap (cond (test start) (Some start)) (find_first test (start + 1) count)

pub any_first : (test : ℕ → Bool) (start count : ℕ) → list_any test (range_with_len start count) ≡ is_some (first_of test start count)
unfolding first_of
any_first test start zero = refl
any_first test start (suc count) =
    ⊎_elim
    (λ yes'. ap (λ b. b || list_any test (range_with_len (start + 1) count)) yes' ∙ sym (ap is_some (cond-true (test start) _ _ yes')))
    (λ no'. ap (λ b. b || list_any test (range_with_len (start + 1) count)) no' ∙ any_first test (start + 1) count ∙ sym (ap is_some (cond-false (test start) _ _ no')))
    (cases_Bool (test start))

all_first : (test : ℕ → Bool) (start count : ℕ) → list_all test (range_with_len start count) ≡ not (is_some (first_of (λ k. not (test k)) start count))
unfolding first_of
all_first test start zero = refl
all_first test start (suc count) =
    ⊎_elim
    (λ yes'. ap (λ b. b && list_all test (range_with_len (start + 1) count)) yes' ∙ all_first test (start + 1) count ∙ sym (ap (λ (o : Option ℕ). not (is_some o)) (cond-false (not (test start)) _ _ (ap not yes'))))
    (λ no'. ap (λ b. b && list_all test (range_with_len (start + 1) count)) no' ∙ sym (ap (λ (o : Option ℕ). not (is_some o)) (cond-true (not (test start)) _ _ (ap not no'))))
    (cases_Bool (test start))

-- the numbers that `a..=b` has left
abbrev left : RangeInclusive ℕ → ℕ
left s = range_inclusive_left (λ x y. y - x) s

abbrev shown : RangeInclusive ℕ → List ℕ
shown s = range_with_len (range_inclusive_start s) (left s)

tail : (s t : RangeInclusive ℕ) → (range_inclusive_exhausted t ≡ false → range_inclusive_start t ≡ range_inclusive_start s + 1) → range_with_len (range_inclusive_start s + 1) (left t) ≡ shown t
tail s t follows =
    ⊎_elim
    (λ spent.
    let none : left t ≡ 0 = ap (range_inclusive_len (λ x y. y - x) (range_inclusive_start t) (range_inclusive_end t)) spent in
    ap (range_with_len (range_inclusive_start s + 1)) none ∙ sym (ap (range_with_len (range_inclusive_start t)) none))
    (λ fresh. ap (λ a. range_with_len a (left t)) (sym (follows fresh)))
    (cases_Bool (range_inclusive_exhausted t))

more : (s : RangeInclusive ℕ) (x : ℕ) (t : RangeInclusive ℕ) → nat_range_inclusive_steps s (Some x) t → shown s ≡ x ∷ shown t
more s x t step =
    ap (range_with_len (range_inclusive_start s)) (sym step.1.1 ∙ add-one (left t))
    ∙ ap (λ xs. range_inclusive_start s ∷ xs) (tail s t step.1.2)
    ∙ ap (λ y. y ∷ shown t) (sym step.1.0)

yields : (s : RangeInclusive ℕ) → YieldsList nat_range_inclusive_steps (λ x. x) s (shown s)
yields = YieldsList-from_shown nat_range_inclusive_steps (λ x. x) shown (λ s t step. ap (λ n. length (range_with_len (range_inclusive_start s) n)) step.1.0) more

-- `a..=b` gives the numbers from a to b
pub YieldsList-from_inclusive : (s : RangeInclusive ℕ) (a b n : ℕ) → range_inclusive_start s ≡ a → range_inclusive_end s ≡ b → range_inclusive_exhausted s ≡ false → b + 1 - a ≡ n → YieldsList nat_range_inclusive_steps (λ x. x) s (range_with_len a n)
YieldsList-from_inclusive s a b n from to fresh e =
    let long : left s ≡ n = ap (range_inclusive_len (λ x y. y - x) (range_inclusive_start s) (range_inclusive_end s)) fresh ∙ omega arith in
    subst (λ xs. YieldsList nat_range_inclusive_steps (λ x. x) s xs) (ap (λ k. range_with_len (range_inclusive_start s) k) long ∙ ap (λ k. range_with_len k n) from) (yields s)

same_item : (r : Option ℕ) → option_map (λ x. x) r ≡ r
same_item None = refl
same_item (Some x) = refl

-- `(a..=b).find(f)`, where f computes a test
pub find_inclusive : {F : Type 0} {g : Mut F (Bor ℕ × Unit {0}) Bool} (test : ℕ → Bool) (s u : RangeInclusive ℕ) (f : F) (r : Option ℕ) (a b n : ℕ) → FindsItem nat_range_inclusive_steps g s f r u → range_inclusive_start s ≡ a → range_inclusive_end s ≡ b → range_inclusive_exhausted s ≡ false → b + 1 - a ≡ n → ((x : ℕ) (y : Bool) (q : F) → CalledAt g f x y q → (q ≡ f) × (y ≡ test x)) → r ≡ first_of test a n
find_inclusive test s u f r a b n ran from to fresh e computes =
    sym (same_item r)
    ∙ find_from_yields_List test u f r ran (YieldsList-from_inclusive s a b n from to fresh e) computes
    ∙ find_first test a n

-- `(a..b).any(f)`, where f computes a test
pub any_range : {F : Type 0} {g : Mut F (ℕ × Unit {0}) Bool} (test : ℕ → Bool) (s u : Range ℕ) (f : F) (r : Bool) (a b n : ℕ) → ChecksAny nat_range_steps g s f r u → s ≡ record { start = a; end = b } → b - a ≡ n → ((x : ℕ) (y : Bool) (q : F) → Called g f (x, tt) y q → (q ≡ f) × (y ≡ test x)) → r ≡ is_some (first_of test a n)
any_range test s u f r a b n ran is e computes =
    any_from_yields_List test u f r ran (YieldsList-from_range a b n is e) computes
    ∙ any_first test a n

-- `(1..=n).any(f)` and `(1..=n).all(f)`, where f computes a test
module _ {F : Type 0} {g : Mut F (ℕ × Unit {0}) Bool} (test : ℕ → Bool) (s u : RangeInclusive ℕ) (f : F) (r : Bool) (n : ℕ) where
  pub any_inclusive : ChecksAny nat_range_inclusive_steps g s f r u → range_inclusive_start s ≡ 1 → range_inclusive_end s ≡ n → range_inclusive_exhausted s ≡ false → ((x : ℕ) (y : Bool) (q : F) → Called g f (x, tt) y q → (q ≡ f) × (y ≡ test x)) → r ≡ is_some (first_of test 1 n)
  any_inclusive ran from to fresh computes = any_from_yields_List test u f r ran (YieldsList-from_inclusive s 1 n n from to fresh (omega arith)) computes ∙ any_first test 1 n

  pub all_inclusive : ChecksAll nat_range_inclusive_steps g s f r u → range_inclusive_start s ≡ 1 → range_inclusive_end s ≡ n → range_inclusive_exhausted s ≡ false → ((x : ℕ) (y : Bool) (q : F) → Called g f (x, tt) y q → (q ≡ f) × (y ≡ test x)) → r ≡ not (is_some (first_of (λ k. not (test k)) 1 n))
  all_inclusive ran from to fresh computes = all_from_yields_List test u f r ran (YieldsList-from_inclusive s 1 n n from to fresh (omega arith)) computes ∙ all_first test 1 n
