-- Names of a list's elements, and what chains over the list and over its names find and count. Assumes nothing.
use Rattle.std.proofs.Common.{◌≡◌, ℕ, suc, ◌+◌, Bool, true, false, cond, List, [], ◌∷◌, map, length, Some, Option, refl, sym, ap, ◌∙◌, add-one, add-zero, zero-add, add_assoc, arith}
use Rattle.std.specs.List.{position, position_from, count_by, slice_get}
use Rattle.std.specs.Option.{option_map}
use Rattle.std.proofs.lemmas.Iterator.Adapters.{position_from-zero}
use Rattle.std.proofs.lemmas.List.Sums.{sum_by-cons}
use Rattle.std.proofs.lemmas.Option.{slice_get-map}
use Rattle.numbers.specs.First.{first_of}
use Rattle.numbers.specs.Names.{named}
use Rattle.tally.specs.Counts.{count_names}

module _ {A : Type 0} (p : A → Bool) (test : ℕ → Bool) where
  -- an element's name passes where the element does; the first name is a + 1
  abbrev pub Named : List A → ℕ → Type 0
  Named xs a = (i k : ℕ) (x : A) → k ≡ a + i + 1 → slice_get xs i ≡ Some x → test k ≡ p x

  later : (x : A) (xs : List A) (a : ℕ) → Named (x ∷ xs) a → Named xs (a + 1)
  later x xs a h i k y e at = h (suc i) k y (omega arith) at

  -- the first name that passes follows the first place that does
  first_from : (xs : List A) (a : ℕ) → Named xs a → option_map (λ i. i + 1) (position_from p a xs) ≡ first_of test (a + 1) (length xs)
  unfolding first_of
  first_from [] a h = refl
  first_from (x ∷ xs) a h =
      let here : test (a + 1) ≡ p x = h 0 (a + 1) x (omega arith) refl in
      let rest = first_from xs (a + 1) (later x xs a h) in
      elim (p x) as (λ b. option_map (λ i. i + 1) (cond b (Some a) (position_from p (a + 1) xs)) ≡ cond b (Some (a + 1)) (first_of test (a + 1 + 1) (length xs))) [ true ↦ refl | false ↦ rest ]
      ∙ ap (λ b. cond b (Some (a + 1)) (first_of test (a + 1 + 1) (length xs))) (sym here)

  pub first_placed : (xs : List A) → Named xs 0 → option_map (λ i. i + 1) (position p xs) ≡ first_of test 1 (length xs)
  first_placed xs h = ap (option_map (λ i. i + 1)) (position_from-zero p xs) ∙ first_from xs 0 h

  -- as many names pass as elements
  count_from : (xs : List A) (a : ℕ) → Named xs a → count_names test (a + length xs) ≡ count_names test a + count_by p xs
  unfolding count_names
  count_from [] a h = let e : a + 0 ≡ a = omega arith in ap (count_names test) e ∙ sym (add-zero (count_names test a))
  count_from (x ∷ xs) a h =
      let here : test (a + 1) ≡ p x = h 0 (a + 1) x (omega arith) refl in
      let step : count_names test (a + 1) ≡ count_names test a + cond (p x) 1 0 = ap (count_names test) (add-one a) ∙ ap (λ b. count_names test a + cond b 1 0) (ap test (sym (add-one a)) ∙ here) in
      let along : count_names test (a + suc (length xs)) ≡ count_names test (a + 1 + length xs) = let e : a + suc (length xs) ≡ a + 1 + length xs = omega arith in ap (count_names test) e in
      let rest = count_from xs (a + 1) (later x xs a h) in
      let split : count_by p (x ∷ xs) ≡ cond (p x) 1 0 + count_by p xs = sum_by-cons (λ y. cond (p y) 1 0) x xs in
      along ∙ rest ∙ ap (λ n. n + count_by p xs) step ∙ add_assoc (count_names test a) (cond (p x) 1 0) (count_by p xs) ∙ ap (λ n. count_names test a + n) (sym split)

  pub count_placed : (xs : List A) → Named xs 0 → count_names test (length xs) ≡ count_by p xs
  unfolding count_names
  count_placed xs h = ap (count_names test) (sym (zero-add (length xs))) ∙ count_from xs 0 h ∙ zero-add (count_by p xs)

-- the same list as the model has it, its elements tested by what they become
pub named_as : {A B : Type 0} (f : A → B) (p : A → Bool) (q : Option B → Bool) (xs : List A) → ((x : A) → q (Some (f x)) ≡ p x) → Named p (λ k. q (named (map f xs) k)) xs 0
unfolding named
named_as f p q xs h i k x e at =
    let next : k ≡ suc i = omega arith in
    let there : slice_get (map f xs) i ≡ Some (f x) = slice_get-map f xs i ∙ ap (option_map f) at in
    ap (λ j. q (named (map f xs) j)) next ∙ ap q there ∙ h x
