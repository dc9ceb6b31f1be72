-- Tables that are filled entry by entry, and the tables of a plan. Assumes nothing.
use Rattle.std.proofs.Common.{◌≡◌, ℕ, zero, suc, ◌+◌, ◌-◌, ◌<◌, ◌≤◌, List, [], length, get_or, take, set, unwrap_or, sym, ap, ◌∙◌, ⊎_elim, subst, arith}
use Rattle.std.proofs.lemmas.List.{get_or-take, get_or-set_same, get_or-set_other, length-take}
use Rattle.std.proofs.lemmas.Bool.{cases_eq}
use Rattle.std.specs.Array.{IsFromFnResultFrom}
use Rattle.std.specs.Fn.{Mut, Called}
use Rattle.numbers.specs.Names.{listed}
use Rattle.numbers.proofs.NameLaws.{listed_from, getD_listed, named_listed}
use Rattle.plan.specs.Plans.{entry_at, entry_in, entry_named, plan_at}
use Rattle.plan.specs.declared.header.Header.{Header}

module _ (f : ℕ → ℕ) where
  -- the entries at the names 1 to i are those of f
  abbrev pub Filled : List ℕ → ℕ → Type 0
  Filled t i = (x : ℕ) → 1 ≤ x → x ≤ i → get_or t (x - 1) 0 ≡ f x

  -- one more
  pub filled_more : (t : List ℕ) (i v : ℕ) → i < length t → v ≡ f (i + 1) → Filled t i → Filled (set t i v) (i + 1)
  filled_more t i v room here before x a b =
      ⊎_elim
      (λ same.
      let back : x - 1 ≡ i = omega arith in
      ap (λ j. get_or (set t i v) j 0) back ∙ get_or-set_same t i v 0 room ∙ here ∙ ap f (sym same))
      (λ other. get_or-set_other t i (x - 1) v 0 (λ e. other (omega arith)) ∙ before x a (omega arith))
      (cases_eq x (i + 1))

  -- all of them
  pub filled_front : (t : List ℕ) (m : ℕ) → m ≤ length t → Filled t m → take m t ≡ listed f m
  filled_front t m long at =
      let size : length (take m t) ≡ m = let l = length-take m t in omega arith in
      listed_from f m 0 (take m t) size (λ k a b. get_or-take m t (k - 1) 0 (omega arith) ∙ at k a b)

module _ (h : Header) (file : List ℕ) (k : ℕ) (a : 1 ≤ k) (b : k ≤ h.agents) where
  -- what a plan says of an agent's table
  pub entry_planned : (x v : ℕ) → 1 ≤ x → x ≤ h.cells → v ≡ unwrap_or (entry_named (plan_at h file) k x) 0 → v ≡ entry_at h file k x
  entry_planned x v c d e =
      e
      ∙ ap (λ o. unwrap_or (entry_in o x) 0) (named_listed (λ j. listed (entry_at h file j) h.cells) h.agents k a b)
      ∙ ap (λ o. unwrap_or o 0) (named_listed (entry_at h file k) h.cells x c d)

  pub table_planned : (t : List ℕ) → h.cells ≤ length t → Filled (entry_at h file k) t h.cells → take h.cells t ≡ get_or (plan_at h file).tables (k - 1) []
  table_planned t long at = filled_front (entry_at h file k) t h.cells long at ∙ sym (getD_listed (λ j. listed (entry_at h file j) h.cells) h.agents k [] a b)

-- what a closure that stays as it is makes of the places before m
pub made_each : {F B : Type 0} (g : Mut F (ℕ × Unit {0}) B) (h : ℕ → B) (m : ℕ) (f : F) (ys : List B) (i n : ℕ) (d : B) → ((x : ℕ) (y : B) (q : F) → x < m → Called g f (x, tt) y q → (q ≡ f) × (y ≡ h x)) → IsFromFnResultFrom g f ys i n → (k : ℕ) → i ≤ k → k < i + n → k < m → get_or ys k d ≡ h k
made_each g h m f ys i zero d says made k a b c = absurd (omega arith)
made_each g h m f ys i (suc n) d says (q, y, at, called, rest) k a b c =
    let is = says i y q (omega arith) called in
    ⊎_elim
    (λ same. ap (λ j. get_or ys j d) same ∙ at.1 d ∙ is.1 ∙ sym (ap h same))
    (λ other. made_each g h m f ys (i + 1) n d says (subst (λ p. IsFromFnResultFrom g p ys (i + 1) n) is.0 rest) k (omega arith) (omega arith) c)
    (cases_eq k i)

-- so it fills a table
pub made_filled : {F : Type 0} (g : Mut F (ℕ × Unit {0}) ℕ) (h : ℕ → ℕ) (f : F) (t : List ℕ) (n m : ℕ) → m ≤ n → length t ≡ n → ((i v : ℕ) (q : F) → i < m → Called g f (i, tt) v q → (q ≡ f) × (v ≡ h (i + 1))) → IsFromFnResultFrom g f t 0 n → Filled h t m
made_filled g h f t n m few long says made x a b =
    let next : x - 1 + 1 ≡ x = omega arith in
    made_each g (λ i. h (i + 1)) m f t 0 n 0 says made (x - 1) (omega arith) (omega arith) (omega arith) ∙ ap h next
