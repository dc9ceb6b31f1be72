-- Laws of counts. Assumes nothing.
use Rattle.std.proofs.Common.{◌≡◌, ℕ, zero, suc, ◌+◌, ◌-◌, ◌≤◌, ◌<◌, max, Bool, true, false, cond, List, length, get_or, take, take_all, sym, refl, ap, ◌∙◌, add-one, arith, Some, None, ⊎_elim}
use Rattle.std.specs.Option.{is_some, option_map}
use Rattle.std.specs.List.{fold, count_by, position_or_len, enumerate_from, list_any}
use Rattle.std.proofs.lemmas.Bool.{cond_both, lt-ltb, le-ltb}
use Rattle.std.proofs.lemmas.List.{get_or_default}
use Rattle.std.proofs.lemmas.List.Folds.{list_any_none, list_any_at}
use Rattle.std.proofs.lemmas.List.FromFn.{get_or-enumerate_from, length-enumerate_from}
use Rattle.std.proofs.lemmas.List.Sums.{fold_more, position_or_len_is}
use Rattle.numbers.specs.First.{first_of}
use Rattle.numbers.proofs.FirstLaws.{first_cases}
use Rattle.tally.specs.Counts.{count_names, largest}
use Rattle.tally.specs.Names.{lowest_name}

-- one name more
pub count_yes : (test : ℕ → Bool) (n : ℕ) → test (n + 1) ≡ true → count_names test (n + 1) ≡ count_names test n + 1
unfolding count_names
count_yes test n yes' =
    ap (count_names test) (add-one n) ∙ ap (λ b. count_names test n + cond b 1 0) (ap test (sym (add-one n)) ∙ yes')

pub count_no : (test : ℕ → Bool) (n : ℕ) → test (n + 1) ≡ false → count_names test (n + 1) ≡ count_names test n
unfolding count_names
count_no test n no' =
    ap (count_names test) (add-one n) ∙ ap (λ b. count_names test n + cond b 1 0) (ap test (sym (add-one n)) ∙ no') ∙ omega arith

pub count_at_most : (test : ℕ → Bool) (n : ℕ) → count_names test n ≤ n
unfolding count_names
count_at_most test zero = omega arith
count_at_most test (suc n) =
    let less = count_at_most test n in
    cond_both (test (suc n)) 1 0 (λ k. count_names test n + k ≤ suc n) (λ _. omega arith) (λ _. omega arith)

-- tests that agree on the names count the same
pub count_same : (test other : ℕ → Bool) (n : ℕ) → ((y : ℕ) → 1 ≤ y → y ≤ n → test y ≡ other y) → count_names test n ≡ count_names other n
unfolding count_names
count_same test other zero e = refl
count_same test other (suc n) e =
    let before = count_same test other n (λ y a b. e y a (omega arith)) in
    let here = e (suc n) (omega arith) (omega arith) in
    λ i. before i + cond (here i) 1 0

-- where no name passes, none counts
pub count_none : (test : ℕ → Bool) (n : ℕ) → ((y : ℕ) → 1 ≤ y → y ≤ n → test y ≡ false) → count_names test n ≡ 0
unfolding count_names
count_none test zero none = refl
count_none test (suc n) none =
    let before = count_none test n (λ y a b. none y a (omega arith)) in
    let here = none (suc n) (omega arith) (omega arith) in
    λ i. before i + cond (here i) 1 0

pub largest_same : (number other : ℕ → ℕ) (n : ℕ) → ((y : ℕ) → 1 ≤ y → y ≤ n → number y ≡ other y) → largest number n ≡ largest other n
unfolding largest
largest_same number other zero e = refl
largest_same number other (suc n) e =
    let before = largest_same number other n (λ y a b. e y a (omega arith)) in
    let here = e (suc n) (omega arith) (omega arith) in
    λ i. max (before i) (here i)

-- the words of the library, by names: the element at index i has name i + 1

abbrev pub at_name : {X : Type 0} → List X → X → ℕ → X
at_name xs d y = get_or xs (y - 1) d

module _ {X : Type 0} (xs : List X) (d : X) where
  here : (n : ℕ) → at_name xs d (suc n) ≡ get_or xs n d
  here n = let same : suc n - 1 ≡ n = omega arith in ap (λ i. get_or xs i d) same

  count_taken : (p : X → Bool) (n : ℕ) → n ≤ length xs → count_by p (take n xs) ≡ count_names (λ y. p (at_name xs d y)) n
  unfolding count_names
  count_taken p zero fits = refl
  count_taken p (suc n) fits =
      ap (λ k. count_by p (take k xs)) (sym (add-one n))
      ∙ fold_more (λ a x. a + cond (p x) 1 0) 0 xs n d (omega arith)
      ∙ (λ i. count_taken p n (omega arith) i + cond (p (sym (here n) i)) 1 0)

  pub count_is : (p : X → Bool) → count_by p xs ≡ count_names (λ y. p (at_name xs d y)) (length xs)
  count_is p = ap (count_by p) (sym (take_all (length xs) xs (omega arith))) ∙ count_taken p (length xs) (omega arith)

  largest_taken : (f : X → ℕ) (n : ℕ) → n ≤ length xs → fold (λ a x. max a (f x)) 0 (take n xs) ≡ largest (λ y. f (at_name xs d y)) n
  unfolding largest
  largest_taken f zero fits = refl
  largest_taken f (suc n) fits =
      ap (λ k. fold (λ a x. max a (f x)) 0 (take k xs)) (sym (add-one n))
      ∙ fold_more (λ a x. max a (f x)) 0 xs n d (omega arith)
      ∙ (λ i. max (largest_taken f n (omega arith) i) (f (sym (here n) i)))

  pub largest_is : (f : X → ℕ) → fold (λ a x. max a (f x)) 0 xs ≡ largest (λ y. f (at_name xs d y)) (length xs)
  largest_is f = ap (fold (λ a x. max a (f x)) 0) (sym (take_all (length xs) xs (omega arith))) ∙ largest_taken f (length xs) (omega arith)

  -- where the first that passes is the element at index i, or where none passes
  found_at : (p : X → Bool) (i : ℕ) → i < length xs → position_or_len p xs ≡ i → lowest_name p xs ≡ Some (i + 1)
  found_at p i less is =
      (λ j. option_map (λ k. k + 1) (cond (lt-ltb (position_or_len p xs) (length xs) (omega arith) j) (Some (is j)) None))

  found_none : (p : X → Bool) → position_or_len p xs ≡ length xs → lowest_name p xs ≡ None
  found_none p is =
      (λ j. option_map (λ k. k + 1) (cond (le-ltb (position_or_len p xs) (length xs) (omega arith) j) (Some (position_or_len p xs)) None))

  pub lowest_is : (p : X → Bool) → lowest_name p xs ≡ first_of (λ y. p (at_name xs d y)) 1 (length xs)
  lowest_is p =
      ⊎_elim
      (λ n.
      found_none p (position_or_len_is p xs (length xs) d (omega arith) (λ k less. ap p (sym (here k)) ∙ n.1 (suc k) (omega arith) (omega arith)) (λ less. absurd (omega arith)))
      ∙ sym n.0)
      (λ s.
      let first = s.2 in
      let from = first.from in
      let below = first.below in
      found_at p (s.0 - 1) (omega arith) (position_or_len_is p xs (s.0 - 1) d (omega arith) (λ k less. ap p (sym (here k)) ∙ first.first (suc k) (omega arith) (omega arith)) (λ less. first.passes))
      ∙ ap Some (omega arith)
      ∙ sym s.1)
      (first_cases (λ y. p (at_name xs d y)) 1 (length xs) (1 + length xs) refl)

  pub any_is : (p : X → Bool) → list_any p xs ≡ is_some (first_of (λ y. p (at_name xs d y)) 1 (length xs))
  any_is p =
      ⊎_elim
      (λ n.
      list_any_none p xs (λ k e less. ap p (get_or_default xs k e d less ∙ sym (here k)) ∙ n.1 (suc k) (omega arith) (omega arith))
      ∙ ap is_some (sym n.0))
      (λ s.
      let from = s.2.from in
      let below = s.2.below in
      list_any_at p xs (s.0 - 1) d (omega arith) s.2.passes ∙ ap is_some (sym s.1))
      (first_cases (λ y. p (at_name xs d y)) 1 (length xs) (1 + length xs) refl)

-- how many pass a test of an index and the element there
pub enumerated_is : {X : Type 0} (xs : List X) (d : X) (f : ℕ → X → Bool) → count_by (λ q. f q.0 q.1) (enumerate_from 0 xs) ≡ count_names (λ y. f (y - 1) (at_name xs d y)) (length xs)
enumerated_is xs d f =
    let test : ℕ → Bool = λ y. f (at_name (enumerate_from 0 xs) (0, d) y).0 (at_name (enumerate_from 0 xs) (0, d) y).1 in
    count_is (enumerate_from 0 xs) (0, d) (λ q. f q.0 q.1)
    ∙ ap (count_names test) (length-enumerate_from 0 xs)
    ∙ count_same test (λ y. f (y - 1) (at_name xs d y)) (length xs) (λ y a b.
    let there = get_or-enumerate_from 0 xs (y - 1) (0, d) (omega arith) in
    let same : 0 + (y - 1) ≡ y - 1 = omega arith in
    ap (λ q. f q.0 q.1) there ∙ ap (λ i. f i (at_name xs d y)) same)
