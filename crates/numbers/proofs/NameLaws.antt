-- Laws of lists with names from 1 on. Assumes nothing.
use Rattle.std.proofs.Common.{◌≡◌, ℕ, zero, suc, ◌+◌, ◌-◌, ◌<◌, ◌≤◌, true, false, ◌⊎◌, List, ◌∷◌, length, get_or, set, drop, replicate, Some, None, sym, refl, ap, ◌∙◌, subst, inl, inr, ⊎_elim, add-one, arith}
use Rattle.std.proofs.Math.Seq.{drop-cons}
use Rattle.std.specs.List.{slice_get}
use Rattle.std.proofs.lemmas.List.FromFn.{length-map-range_with_len, get_or-map-range_with_len}
use Rattle.std.proofs.lemmas.List.{ext_get_or, length-set, length-replicate, get_or-set_same, get_or-set_other, get_or-replicate}
use Rattle.std.proofs.lemmas.Option.{slice_get-get_or, slice_get_past, slice_get_within, get_or_from_slice_get}
use Rattle.std.proofs.lemmas.Bool.{cases_lt, cases_eq}
use Rattle.numbers.specs.Names.{named, listed}
use Rattle.numbers.specs.Rows.{within}
use Rattle.numbers.proofs.RowLaws.{within_true, within_false}

pub length_listed : {A : Type 0} (g : ℕ → A) (n : ℕ) → length (listed g n) ≡ n
unfolding listed
length_listed g n = length-map-range_with_len g 1 n

pub getD_listed : {A : Type 0} (g : ℕ → A) (n k : ℕ) (d : A) → 1 ≤ k → k ≤ n → get_or (listed g n) (k - 1) d ≡ g k
unfolding listed
getD_listed g n k d a b = get_or-map-range_with_len g 1 n (k - 1) k d (omega arith) (omega arith)

-- a list with these elements is that list
pub listed_from : {A : Type 0} (g : ℕ → A) (n : ℕ) (d : A) (xs : List A) → length xs ≡ n → ((k : ℕ) → 1 ≤ k → k ≤ n → get_or xs (k - 1) d ≡ g k) → xs ≡ listed g n
listed_from g n d xs long h =
    ext_get_or d xs (listed g n) (long ∙ sym (length_listed g n))
    (λ i less.
    let back : i + 1 - 1 ≡ i = omega arith in
    subst (λ j. get_or xs j d ≡ get_or (listed g n) j d) back (h (i + 1) (omega arith) (omega arith) ∙ sym (getD_listed g n (i + 1) d (omega arith) (omega arith))))

pub named_listed : {A : Type 0} (g : ℕ → A) (n k : ℕ) → 1 ≤ k → k ≤ n → named (listed g n) k ≡ Some (g k)
unfolding named listed
named_listed g n zero a b = absurd (omega arith)
named_listed g n (suc k) a b =
    let long = length-map-range_with_len g 1 n in
    slice_get-get_or _ k (g (suc k)) (omega arith) ∙ ap Some (get_or-map-range_with_len g 1 n k (suc k) (g (suc k)) (omega arith) (omega arith))

pub named_zero : {A : Type 0} (xs : List A) → named xs 0 ≡ None
unfolding named
named_zero xs = refl

pub named_past : {A : Type 0} (xs : List A) (k : ℕ) → length xs < k → named xs k ≡ None
unfolding named
named_past xs zero h = refl
named_past xs (suc k) h = slice_get_past xs k (omega arith)

-- the element with a name begins what is left before it
pub named_next : {A : Type 0} (xs : List A) (i : ℕ) (x : A) → named xs (i + 1) ≡ Some x → (i < length xs) × (drop i xs ≡ x ∷ drop (i + 1) xs)
unfolding named
named_next xs i x e =
    let at : slice_get xs i ≡ Some x = rw add-one at e in
    let inside = slice_get_within xs i x at in
    (inside, rw add-one (drop-cons xs i x inside ∙ ap (λ y. y ∷ drop (suc i) xs) (get_or_from_slice_get xs i x x at)))

pub named_listed_past : {A : Type 0} (g : ℕ → A) (n k : ℕ) → n < k → named (listed g n) k ≡ None
named_listed_past g n k h = let long = length_listed g n in named_past (listed g n) k (omega arith)

-- in and out of range, by the test
pub named_in : {A : Type 0} (g : ℕ → A) (n k : ℕ) → within 1 n k ≡ true → named (listed g n) k ≡ Some (g k)
named_in g n k e = let w = within_true 1 n k e in named_listed g n k w.0 w.1

pub named_out : {A : Type 0} (g : ℕ → A) (n k : ℕ) → within 1 n k ≡ false → named (listed g n) k ≡ None
named_out g n k e =
    ⊎_elim
    (λ low. let z : k ≡ 0 = omega arith in ap (named (listed g n)) z ∙ named_zero (listed g n))
    (λ high. ⊎_elim (λ in'. absurd (within_false 1 n k e high in')) (λ out. named_listed_past g n k out) (cases_le k n))
    (cases_lt k 1)
  where
    cases_le : (a b : ℕ) → (a ≤ b) ⊎ (b < a)
    cases_le a b = ⊎_elim inr inl (cases_lt b a)

-- elements that agree make the same list
pub listed_same : {A : Type 0} (g h : ℕ → A) (n : ℕ) → ((z : ℕ) → 1 ≤ z → z ≤ n → g z ≡ h z) → listed g n ≡ listed h n
listed_same g h n e = listed_from h n (g 1) (listed g n) (length_listed g n) (λ z a b. getD_listed g n z (g 1) a b ∙ e z a b)

-- a change at one name
pub listed_set : {A : Type 0} (g h : ℕ → A) (n y : ℕ) (k : A) → 1 ≤ y → y ≤ n → h y ≡ k → ((z : ℕ) → 1 ≤ z → z ≤ n → (z ≡ y → ⊥) → h z ≡ g z) → listed h n ≡ set (listed g n) (y - 1) k
listed_set g h n y k a b here other =
    let long = length_listed g n in
    sym
    (listed_from h n k (set (listed g n) (y - 1) k) (length-set (listed g n) (y - 1) k ∙ length_listed g n)
    (λ z c d.
    ⊎_elim
    (λ same. ap (λ j. get_or (set (listed g n) (y - 1) k) (j - 1) k) same ∙ get_or-set_same (listed g n) (y - 1) k k (omega arith) ∙ sym here ∙ ap h (sym same))
    (λ apart. get_or-set_other (listed g n) (y - 1) (z - 1) k k (λ e. apart (omega arith)) ∙ getD_listed g n z k c d ∙ sym (other z c d apart))
    (cases_eq z y)))

pub listed_constant : {A : Type 0} (x : A) (n : ℕ) → listed (λ _. x) n ≡ replicate n x
listed_constant x n = sym (listed_from (λ _. x) n x (replicate n x) (length-replicate n x) (λ z a b. get_or-replicate n (z - 1) x x (omega arith)))
