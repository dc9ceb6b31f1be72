-- Laws of lists with names from 1 on, as seats are lent from them. Assumes nothing.
use Rattle.std.proofs.Common.{◌≡◌, ℕ, zero, suc, ◌-◌, ◌≤◌, true, false, List, [], ◌∷◌, map, length, get_or, Some, None, Option, sym, refl, ap, ◌∙◌, ⊎_elim, subst, arith}
use Rattle.std.proofs.lemmas.Option.{slice_get-get_or}
use Rattle.std.proofs.lemmas.Bool.{cases_lt, cases_Bool}
use Rattle.std.specs.Option.{option_map}
use Rattle.std.specs.List.{ItemBy}
use Rattle.numbers.specs.Names.{named}
use Rattle.numbers.specs.Rows.{within}
use Rattle.numbers.proofs.NameLaws.{named_zero, named_past}
use Rattle.numbers.proofs.RowLaws.{within_true, within_from}

pub named_there : {A : Type 0} (xs : List A) (k : ℕ) (d : A) → 1 ≤ k → k ≤ length xs → named xs k ≡ Some (get_or xs (k - 1) d)
unfolding named
named_there xs zero d a b = absurd (omega arith)
named_there xs (suc k) d a b =
    let same : suc k - 1 ≡ k = omega arith in
    slice_get-get_or xs k d (omega arith) ∙ ap (λ i. Some (get_or xs i d)) (sym same)

-- no element has name 0
pub named_none : {A : Type 0} (xs : List A) (k : ℕ) → k ≡ 0 → None ≡ named xs k
named_none xs k e = sym (ap (named xs) e ∙ named_zero xs)

-- an element that is lent by its place is the one with the next name
pub lent_named : {R A : Type 0} (now' : R → A) (xs : List A) (k : ℕ) (r : Option R) → 1 ≤ k → ItemBy now' xs (k - 1) (k - 1) r → option_map now' r ≡ named xs k
lent_named now' xs k None a i = sym (named_past xs k (omega (arith, i.3)))
lent_named now' xs k (Some x) a i = ap Some (i.3.1 (now' x)) ∙ sym (named_there xs k (now' x) a (omega (arith, i.3.0)))

pub named_some : {A : Type 0} (xs : List A) (k : ℕ) (x : A) → named xs k ≡ Some x → (1 ≤ k) × (k ≤ length xs)
named_some xs zero x e = let z : ◌≡◌ {A = ℕ} 0 1 = cc (e, named_zero xs) in absurd (omega arith)
named_some xs (suc k) x e =
    ⊎_elim
    (λ past. let z : ◌≡◌ {A = ℕ} 0 1 = cc (e, named_past xs (suc k) past) in absurd (omega arith))
    (λ low. (omega arith, low))
    (cases_lt (length xs) (suc k))

-- the test whether an element has the name
pub within_some : {A : Type 0} (xs : List A) (k : ℕ) (x : A) → named xs k ≡ Some x → within 1 (length xs) k ≡ true
within_some xs k x e = let b = named_some xs k x e in within_from 1 (length xs) k b.0 b.1

pub within_none : {A : Type 0} (xs : List A) (k : ℕ) → named xs k ≡ None → within 1 (length xs) k ≡ false
within_none [] k e =
    ⊎_elim
    (λ yes'. let b = within_true 1 0 k yes' in absurd (omega (arith, b.0, b.1)))
    (λ no'. no')
    (cases_Bool (within 1 0 k))
within_none (x ∷ xs) k e =
    ⊎_elim
    (λ yes'.
    let b = within_true 1 (length (x ∷ xs)) k yes' in
    let z : ◌≡◌ {A = ℕ} 0 1 = cc (e, named_there (x ∷ xs) k x b.0 b.1) in
    absurd (omega arith))
    (λ no'. no')
    (cases_Bool (within 1 (length (x ∷ xs)) k))

-- names of a mapped list
pub named_map : {A B : Type 0} (f : A → B) (xs : List A) (k : ℕ) → named (map f xs) k ≡ option_map f (named xs k)
unfolding named
named_map f xs zero = refl
named_map f [] (suc k) = refl
named_map f (x ∷ xs) (suc zero) = refl
named_map f (x ∷ xs) (suc (suc k)) = named_map f xs (suc k)

pub named_map_some : {A B : Type 0} (f : A → B) (xs : List A) (k : ℕ) (x : A) → Some x ≡ named xs k → named (map f xs) k ≡ Some (f x)
named_map_some f xs k x e = named_map f xs k ∙ ap (option_map f) (sym e)

pub named_map_none : {A B : Type 0} (f : A → B) (xs : List A) (k : ℕ) → None ≡ named xs k → named (map f xs) k ≡ None
named_map_none f xs k e = named_map f xs k ∙ ap (option_map f) (sym e)

-- the same at the place before the name
pub lent_before : {R A : Type 0} (now' : R → A) (xs : List A) (k i : ℕ) (r : Option R) → (1 ≤ k) × (i ≡ k - 1) → ItemBy now' xs i i r → option_map now' r ≡ named xs k
lent_before now' xs k i r at item = lent_named now' xs k r at.0 (subst (λ j. ItemBy now' xs j j r) at.1 item)
