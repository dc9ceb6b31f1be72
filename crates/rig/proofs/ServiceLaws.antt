-- What the store answers an agent through its table. Assumes nothing.
use Rattle.std.proofs.Common.{◌≡◌, ℕ, ◌+◌, ◌-◌, ◌<◌, ◌≤◌, Bool, true, false, not, List, length, get_or, take, set, IfOk, Ok, Err, Result, sym, ap, ◌∙◌, subst, ⊎_elim, arith}
use Rattle.std.proofs.lemmas.List.{get_or-take, get_or_past, get_or-set_same, get_or-set_other, length-take}
use Rattle.std.proofs.lemmas.Bool.{cases_Bool, cases_eq}
use Rattle.numbers.specs.First.{NonePasses}
use Rattle.numbers.specs.Names.{listed}
use Rattle.numbers.specs.Rows.{within}
use Rattle.numbers.proofs.FirstLaws.{none_up_to, first_up_to}
use Rattle.numbers.proofs.NameLaws.{listed_from}
use Rattle.refusal.specs.Checks.{◌then◌, Check, refuse_if, refuse_at}
use Rattle.refusal.specs.declared.Refusal.{Refusal}
use Rattle.refusal.specs.declared.Refusal.TheVariants.{NoSuchCell}
use Rattle.cells.specs.Marks.{mark_at, same_mark, name_check, mark_check, read_answer, swap_answer}
use Rattle.cells.specs.declared.mark.Mark.{Mark}
use Rattle.cells.specs.declared.mark.Mark.TheVariants.{Empty}
use Rattle.rules.specs.declared.want.Want.TheVariants.{Look}
use Rattle.model.specs.Rigs.{Seat, entry, store_check}

-- an entry of a table of which the first m count
pub entry_there : (t : List ℕ) (m i x : ℕ) → i ≡ x - 1 → i < m → get_or t i 0 ≡ get_or (take m t) (x - 1) 0
entry_there t m i x e h = sym (get_or-take m t i 0 h) ∙ ap (λ j. get_or (take m t) j 0) e

pub entry_none : (t : List ℕ) (m i x : ℕ) → i ≡ x - 1 → m ≤ i → 0 ≡ get_or (take m t) (x - 1) 0
entry_none t m i x e h = sym (get_or_past (take m t) (x - 1) 0 (let long = length-take m t in omega arith))

-- a read that the store refused, and one that it answered
pub read_refused : (ms : List Mark) (y : ℕ) (e : Refusal) → Err e ≡ read_answer ms y → (within 1 (length ms) y ≡ false) × (e ≡ NoSuchCell y)
read_refused ms y e h =
    ⊎_elim
    (λ yes'.
    let ok : read_answer ms y ≡ Ok (mark_at ms y) = ap (λ b. refuse_if (not b) (NoSuchCell y) then Ok (mark_at ms y)) yes' in
    let z : ◌≡◌ {A = ℕ} 0 1 = cc (h, ok) in
    absurd (omega arith))
    (λ no'.
    let err : read_answer ms y ≡ Err (NoSuchCell y) = ap (λ b. refuse_if (not b) (NoSuchCell y) then Ok (mark_at ms y)) no' in
    (no', cc (h, err)))
    (cases_Bool (within 1 (length ms) y))

pub read_gave : (ms : List Mark) (y : ℕ) (k : Mark) → Ok k ≡ read_answer ms y → (within 1 (length ms) y ≡ true) × (k ≡ mark_at ms y)
read_gave ms y k h =
    ⊎_elim
    (λ yes'.
    let ok : read_answer ms y ≡ Ok (mark_at ms y) = ap (λ b. refuse_if (not b) (NoSuchCell y) then Ok (mark_at ms y)) yes' in
    (yes', cc (h, ok)))
    (λ no'.
    let err : read_answer ms y ≡ Err (NoSuchCell y) = ap (λ b. refuse_if (not b) (NoSuchCell y) then Ok (mark_at ms y)) no' in
    let z : ◌≡◌ {A = ℕ} 0 1 = cc (h, err) in
    absurd (omega arith))
    (cases_Bool (within 1 (length ms) y))

-- of what was refused nothing is claimed
pub made_none : {A : Type 0} (r : Result A Refusal) (e : Refusal) (Q : A → Type 0) → r ≡ Err e → IfOk r Q
made_none r e Q h = subst (λ t. IfOk t Q) (sym h) tt

-- three checks before an answer that is never refused
three_checks : {A : Type 0} (a b c : Check) (v : A) (e : Refusal) → Err e ≡ (a then b then c then Ok v) → (a then b then c) ≡ Err e
three_checks (Ok u) (Ok v) (Ok w) x e h = let z : ◌≡◌ {A = ℕ} 0 1 = cc h in absurd (omega arith)
three_checks (Ok u) (Ok v) (Err c) x e h = cc h
three_checks (Ok u) (Err b) c x e h = cc h
three_checks (Err a) b c x e h = cc h

pub swap_refused : (ms : List Mark) (y : ℕ) (old new : Mark) (e : Refusal) → Err e ≡ swap_answer ms y old new → (name_check (length ms) y then mark_check old then mark_check new) ≡ Err e
swap_refused ms y old new e h = three_checks (name_check (length ms) y) (mark_check old) (mark_check new) (same_mark (mark_at ms y) old) e h

module _ {P : Type 0} (m : ℕ) (ms : List Mark) (s : Seat P) where
  -- the store has not the cell of a local name
  abbrev pub lacks : ℕ → Bool
  lacks x = not (within 1 (length ms) (entry s x))

  -- a look that is refused at a local name, and one that is not
  pub look_refused : (x : ℕ) (e : Refusal) → 1 ≤ x → x ≤ m → NonePasses lacks 1 x → Err e ≡ read_answer ms (entry s x) → store_check m ms s Look ≡ Err e
  look_refused x e a b before h =
      let r = read_refused ms (entry s x) e h in
      ap (refuse_at (λ z. NoSuchCell (entry s z))) (first_up_to lacks m x a b (ap not r.0) before) ∙ ap Err (sym r.1)

  pub look_granted : NonePasses lacks 1 (m + 1) → store_check m ms s Look ≡ Ok tt
  look_granted before = ap (refuse_at (λ z. NoSuchCell (entry s z))) (none_up_to lacks m (λ k a b. before k a (omega arith)))

  -- the marks of a look that came to the end
  pub looked : (seen : List Mark) → m ≤ length seen → ((x : ℕ) → 1 ≤ x → x ≤ m → get_or seen (x - 1) Empty ≡ mark_at ms (entry s x)) → take m seen ≡ listed (λ x. mark_at ms (entry s x)) m
  looked seen long at =
      let size : length (take m seen) ≡ m = let l = length-take m seen in omega arith in
      listed_from (λ x. mark_at ms (entry s x)) m Empty (take m seen) size (λ k a b. get_or-take m seen (k - 1) Empty (omega arith) ∙ at k a b)

  -- one more mark that a look has seen
  pub looked_more : (seen : List Mark) (i : ℕ) (k : Mark) → i < length seen → k ≡ mark_at ms (entry s (i + 1)) → ((x : ℕ) → 1 ≤ x → x ≤ i → get_or seen (x - 1) Empty ≡ mark_at ms (entry s x)) → (x : ℕ) → 1 ≤ x → x ≤ i + 1 → get_or (set seen i k) (x - 1) Empty ≡ mark_at ms (entry s x)
  looked_more seen i k room here before x a b =
      ⊎_elim
      (λ same.
      let back : x - 1 ≡ i = omega arith in
      ap (λ j. get_or (set seen i k) j Empty) back ∙ get_or-set_same seen i k Empty room ∙ here ∙ ap (λ z. mark_at ms (entry s z)) (sym same))
      (λ other. get_or-set_other seen i (x - 1) k Empty (λ e. other (omega arith)) ∙ before x a (omega arith))
      (cases_eq x (i + 1))
