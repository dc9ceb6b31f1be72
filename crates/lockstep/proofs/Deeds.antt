-- What the cells answer a want and become, by the marks that an agent meets, and under replaced identities. Assumes nothing.
use Rattle.std.proofs.Common.{◌≡◌, ℕ, zero, suc, ◌-◌, ◌≤◌, Bool, true, false, cond, not, List, map, length, is_ok, Ok, sym, refl, ap, ◌∙◌, subst, ⊎_elim, arith}
use Rattle.std.proofs.lemmas.List.{length-map, get_or-map, get_or_past, get_or-set_same, get_or-set_other}
use Rattle.std.proofs.lemmas.Bool.{cases_lt, false≢true, true≢false, not_from_true}
use Rattle.numbers.specs.Names.{listed}
use Rattle.numbers.specs.Rows.{within}
use Rattle.numbers.proofs.FirstLaws.{none_up_to}
use Rattle.numbers.proofs.NameLaws.{length_listed, getD_listed, listed_from}
use Rattle.numbers.proofs.RowLaws.{within_from}
use Rattle.refusal.specs.Checks.{◌then◌, refuse_at}
use Rattle.refusal.specs.declared.Refusal.TheVariants.{NoSuchCell}
use Rattle.cells.specs.Marks.{lawful, same_mark, mark_at, put, mark_check, says_yes}
use Rattle.cells.specs.declared.mark.Mark.{Mark}
use Rattle.cells.specs.declared.mark.Mark.TheVariants.{Empty}
use Rattle.rules.specs.Records.{Reply, marks, cell, done, went}
use Rattle.rules.specs.Lawful.{AllLawful, Name, Proper, Fits, Permutes, replaced, replaced_want, replaced_reply}
use Rattle.rules.specs.declared.want.Want.{Want}
use Rattle.rules.specs.declared.want.Want.TheVariants.{Look, Read, Write, Swap}
use Rattle.rules.proofs.ReplaceLaws.{same_replaced}
use Rattle.model.specs.Rigs.{Seat, entry, served, store_after, store_check}
use Rattle.runs.proofs.Effects.{name_granted, mark_granted, write_granted, swap_granted}

-- what the cells answer to a want of an agent that meets the mark `met x` at its local name x
abbrev pub reply_to : ℕ → (ℕ → Mark) → Want → Reply
reply_to m met Look = marks (listed met m)
reply_to m met (Read x) = cell (met x)
reply_to m met (Write x k) = done
reply_to m met (Swap x old new) = went (same_mark (met x) old)

-- the marks afterwards, through the table t
abbrev pub marks_after : List Mark → (ℕ → ℕ) → Want → List Mark
marks_after ms t Look = ms
marks_after ms t (Read x) = ms
marks_after ms t (Write x k) = put ms (t x) k
marks_after ms t (Swap x old new) = cond (same_mark (mark_at ms (t x)) old) (put ms (t x) new) ms

-- the one local name that a want may change, what becomes of the mark there, and whether it changes none
abbrev pub touched : Want → ℕ
touched Look = 1
touched (Read x) = x
touched (Write x k) = x
touched (Swap x old new) = x

abbrev pub mark_after : Want → Mark → Mark
mark_after Look k = k
mark_after (Read x) k = k
mark_after (Write x c) k = c
mark_after (Swap x old new) k = cond (same_mark k old) new k

abbrev pub is_quiet : Want → Bool
is_quiet Look = true
is_quiet (Read x) = true
is_quiet (Write x k) = false
is_quiet (Swap x old new) = false

pub touched_inside : (m : ℕ) (a : Want) → 1 ≤ m → Proper m a → Name m (touched a)
touched_inside m Look some p = (omega arith, some)
touched_inside m (Read x) some p = p
touched_inside m (Write x k) some p = (p.0.0, p.0.1)
touched_inside m (Swap x old new) some p = (p.0.0, p.0.1)

pub after_here : (ms : List Mark) (t : ℕ → ℕ) (a : Want) → 1 ≤ t (touched a) → t (touched a) ≤ length ms → mark_at (marks_after ms t a) (t (touched a)) ≡ mark_after a (mark_at ms (t (touched a)))
after_here ms t Look low high = refl
after_here ms t (Read x) low high = refl
after_here ms t (Write x k) low high = get_or-set_same ms (t x - 1) k Empty (omega arith)
after_here ms t (Swap x old new) low high = go (same_mark (mark_at ms (t x)) old)
  where
    go : (b : Bool) → mark_at (cond b (put ms (t x) new) ms) (t x) ≡ cond b new (mark_at ms (t x))
    go true = get_or-set_same ms (t x - 1) new Empty (omega arith)
    go false = refl

pub after_other : (ms : List Mark) (t : ℕ → ℕ) (a : Want) (y : ℕ) → 1 ≤ t (touched a) → 1 ≤ y → (y ≡ t (touched a) → ⊥) → mark_at (marks_after ms t a) y ≡ mark_at ms y
after_other ms t Look y low from other = refl
after_other ms t (Read x) y low from other = refl
after_other ms t (Write x k) y low from other = get_or-set_other ms (t x - 1) (y - 1) k Empty (λ e. other (omega arith))
after_other ms t (Swap x old new) y low from other = go (same_mark (mark_at ms (t x)) old)
  where
    go : (b : Bool) → mark_at (cond b (put ms (t x) new) ms) y ≡ mark_at ms y
    go true = get_or-set_other ms (t x - 1) (y - 1) new Empty (λ e. other (omega arith))
    go false = refl

pub quiet_same : (ms : List Mark) (t : ℕ → ℕ) (a : Want) → is_quiet a ≡ true → marks_after ms t a ≡ ms
quiet_same ms t Look e = refl
quiet_same ms t (Read x) e = refl
quiet_same ms t (Write x k) e = absurd (false≢true e)
quiet_same ms t (Swap x old new) e = absurd (false≢true e)

-- the answer to a want that may change a mark turns on that mark
pub reply_same : (m : ℕ) (f g : ℕ → Mark) (a : Want) → is_quiet a ≡ false → f (touched a) ≡ g (touched a) → reply_to m f a ≡ reply_to m g a
reply_same m f g Look e same = absurd (true≢false e)
reply_same m f g (Read x) e same = absurd (true≢false e)
reply_same m f g (Write x k) e same = refl
reply_same m f g (Swap x old new) e same = ap (λ k. went (same_mark k old)) same

-- with identities replaced

pub touched_replaced : (π : ℕ → ℕ) (a : Want) → touched (replaced_want π a) ≡ touched a
touched_replaced π Look = refl
touched_replaced π (Read x) = refl
touched_replaced π (Write x k) = refl
touched_replaced π (Swap x old new) = refl

pub quiet_replaced : (π : ℕ → ℕ) (a : Want) → is_quiet (replaced_want π a) ≡ is_quiet a
quiet_replaced π Look = refl
quiet_replaced π (Read x) = refl
quiet_replaced π (Write x k) = refl
quiet_replaced π (Swap x old new) = refl

replaced_cond : (π : ℕ → ℕ) (b : Bool) (k l : Mark) → cond b (replaced π k) (replaced π l) ≡ replaced π (cond b k l)
replaced_cond π true k l = refl
replaced_cond π false k l = refl

pub after_replaced : (π : ℕ → ℕ) → Permutes π → (m : ℕ) (a : Want) (k : Mark) → Proper m a → lawful k ≡ true → mark_after (replaced_want π a) (replaced π k) ≡ replaced π (mark_after a k)
after_replaced π perm m Look k p good = refl
after_replaced π perm m (Read x) k p good = refl
after_replaced π perm m (Write x c) k p good = refl
after_replaced π perm m (Swap x old new) k p good =
    ap (λ b. cond b (replaced π new) (replaced π k)) (same_replaced π perm k old good p.1) ∙ replaced_cond π (same_mark k old) new k

pub listed_replaced : (π : ℕ → ℕ) (m : ℕ) (f g : ℕ → Mark) → ((x : ℕ) → 1 ≤ x → x ≤ m → g x ≡ replaced π (f x)) → listed g m ≡ map (replaced π) (listed f m)
listed_replaced π m f g same =
    let long = length_listed f m in
    sym
    (listed_from g m Empty (map (replaced π) (listed f m)) (length-map (listed f m) (replaced π) ∙ long)
    (λ x low high. get_or-map (replaced π) (listed f m) (x - 1) Empty Empty (omega arith) ∙ ap (replaced π) (getD_listed f m x Empty low high) ∙ sym (same x low high)))

pub reply_replaced : (π : ℕ → ℕ) → Permutes π → (m : ℕ) (f g : ℕ → Mark) (a : Want) → ((x : ℕ) → 1 ≤ x → x ≤ m → g x ≡ replaced π (f x)) → ((x : ℕ) → lawful (f x) ≡ true) → Proper m a → reply_to m g (replaced_want π a) ≡ replaced_reply π (reply_to m f a)
reply_replaced π perm m f g Look same good p = ap marks (listed_replaced π m f g same)
reply_replaced π perm m f g (Read x) same good p = ap cell (same x p.0 p.1)
reply_replaced π perm m f g (Write x k) same good p = refl
reply_replaced π perm m f g (Swap x old new) same good p =
    ap (λ k. went (same_mark k (replaced π old))) (same x p.0.0 p.0.1) ∙ ap went (same_replaced π perm (f x) old (good x) p.1)

listed_lawful_from : (m : ℕ) (f : ℕ → Mark) → ((x : ℕ) → lawful (f x) ≡ true) → (y : ℕ) → 1 ≤ y → lawful (mark_at (listed f m) y) ≡ true
listed_lawful_from m f good y low =
    let long = length_listed f m in
    ⊎_elim
    (λ past. subst (λ k. lawful k ≡ true) (sym (get_or_past (listed f m) (y - 1) Empty (omega arith))) refl)
    (λ less. subst (λ k. lawful k ≡ true) (sym (getD_listed f m y Empty low less)) (good y))
    (cases_lt m y)

listed_lawful : (m : ℕ) (f : ℕ → Mark) → ((x : ℕ) → lawful (f x) ≡ true) → AllLawful (listed f m)
listed_lawful m f good zero = listed_lawful_from m f good 1 (omega arith)
listed_lawful m f good (suc y) = listed_lawful_from m f good (suc y) (omega arith)

pub reply_fits : (m : ℕ) (f : ℕ → Mark) (a : Want) → ((x : ℕ) → lawful (f x) ≡ true) → Fits m a (reply_to m f a)
reply_fits m f Look good = (length_listed f m, listed_lawful m f good)
reply_fits m f (Read x) good = good x
reply_fits m f (Write x k) good = tt
reply_fits m f (Swap x old new) good = tt

-- what the model serves and stores is that, where names and marks are proper

module _ {P : Type 0} (m : ℕ) (ms : List Mark) (s : Seat P) (inside : (x : ℕ) → 1 ≤ x → x ≤ m → (1 ≤ entry s x) × (entry s x ≤ length ms)) where
  pub check_passes : (a : Want) → Proper m a → store_check m ms s a ≡ Ok tt
  check_passes Look p = ap (refuse_at (λ x. NoSuchCell (entry s x))) (none_up_to (λ x. not (within 1 (length ms) (entry s x))) m (λ x low high. not_from_true _ (within_from 1 (length ms) (entry s x) (inside x low high).0 (inside x low high).1)))
  check_passes (Read x) p = let e = inside x p.0 p.1 in name_granted (length ms) (entry s x) e.0 e.1
  check_passes (Write x k) p = let e = inside x p.0.0 p.0.1 in write_granted ms (entry s x) k e.0 e.1 p.1
  check_passes (Swap x old new) p =
      let e = inside x p.0.0 p.0.1 in
      ap (λ c. c then mark_check old then mark_check new) (name_granted (length ms) (entry s x) e.0 e.1)
      ∙ ap (λ c. c then mark_check new) (mark_granted old p.1)
      ∙ mark_granted new p.2

  pub served_is : (a : Want) → Proper m a → served m ms s a ≡ reply_to m (λ x. mark_at ms (entry s x)) a
  served_is Look p = refl
  served_is (Read x) p = refl
  served_is (Write x k) p = refl
  served_is (Swap x old new) p = let e = inside x p.0.0 p.0.1 in ap (λ r. went (says_yes r)) (swap_granted ms (entry s x) old new e.0 e.1 p.1 p.2)

  pub stored_is : (a : Want) → Proper m a → store_after ms s a ≡ marks_after ms (λ x. entry s x) a
  stored_is Look p = refl
  stored_is (Read x) p = refl
  stored_is (Write x k) p = let e = inside x p.0.0 p.0.1 in ap (λ r. cond (is_ok r) (put ms (entry s x) k) ms) (write_granted ms (entry s x) k e.0 e.1 p.1)
  stored_is (Swap x old new) p = let e = inside x p.0.0 p.0.1 in ap (λ r. cond (says_yes r) (put ms (entry s x) new) ms) (swap_granted ms (entry s x) old new e.0 e.1 p.1 p.2)
