-- What a store owes where a call is accepted: one lemma for each way out. Assumes nothing.
use Rattle.std.proofs.Common.{◌≡◌, ℕ, ◌≤◌, Bool, true, false, cond, not, List, length, is_ok, Ok, Result, sym, refl, ap, ◌∙◌, subst}
use Rattle.std.proofs.lemmas.Bool.{true≢false, not-false}
use Rattle.numbers.specs.Rows.{within}
use Rattle.numbers.proofs.RowLaws.{within_true}
use Rattle.refusal.specs.Checks.{◌then◌, refuse_if}
use Rattle.refusal.specs.declared.Refusal.{Refusal}
use Rattle.refusal.proofs.CheckLaws.{ok_then}
use Rattle.refusal.specs.declared.Refusal.TheVariants.{NoSuchCell, NoMark}
use Rattle.cells.specs.declared.mark.Mark.{Mark}
use Rattle.cells.specs.Marks.{lawful, same_mark, name_check, mark_check, mark_at, put, read_answer, write_answer, after_write, swap_answer, says_yes, after_swap}

-- a check that passed found nothing
passed : (b : Bool) (e : Refusal) → Ok tt ≡ refuse_if b e → b ≡ false
passed true e is = absurd (true≢false (ap is_ok is))
passed false e is = refl

-- a name that was accepted is one
pub accepted_name : (count y : ℕ) → Ok tt ≡ name_check count y → (1 ≤ y) × (y ≤ count)
accepted_name count y is = within_true 1 count y (not-false (within 1 count y) (passed (not (within 1 count y)) (NoSuchCell y) is))

-- a mark that was accepted is lawful
pub accepted_mark : (k : Mark) → Ok tt ≡ mark_check k → lawful k ≡ true
accepted_mark k is = not-false (lawful k) (passed (not (lawful k)) NoMark is)

-- a read that was answered
pub read_tells : (ms : List Mark) (y : ℕ) (k : Mark) → Ok k ≡ read_answer ms y → (Ok tt ≡ name_check (length ms) y) × (k ≡ mark_at ms y)
read_tells ms y k is = let p = ok_then (name_check (length ms) y) (Ok (mark_at ms y)) k is in (sym p.0, cc p.1)

module _ (ms : List Mark) (count y : ℕ) (long : count ≡ length ms) (name : Ok tt ≡ name_check count y) where
  named : Ok tt ≡ name_check (length ms) y
  named = subst (λ n. Ok tt ≡ name_check n y) long name

  pub read_accepted : (k : Mark) → k ≡ mark_at ms y → Ok k ≡ read_answer ms y
  read_accepted k is = ap Ok is ∙ ap (λ c. c then Ok (mark_at ms y)) named

  pub write_accepted : (k : Mark) → Ok tt ≡ mark_check k → Ok tt ≡ write_answer ms y k
  write_accepted k good = good ∙ ap (λ c. c then mark_check k) named

  pub write_put : (k : Mark) (after : List Mark) → Ok tt ≡ mark_check k → after ≡ put ms y k → after ≡ after_write ms y k
  write_put k after good is = is ∙ ap (λ a. cond (is_ok a) (put ms y k) ms) (write_accepted k good)

  module _ (old new : Mark) (b : Bool) (lawful_old : Ok tt ≡ mark_check old) (lawful_new : Ok tt ≡ mark_check new) (found : b ≡ same_mark (mark_at ms y) old) where
    abbrev yes_or_no : Result Bool Refusal
    yes_or_no = Ok (same_mark (mark_at ms y) old)

    pub swap_accepted : Ok b ≡ swap_answer ms y old new
    swap_accepted =
        ap Ok found ∙ ap (λ c. c then yes_or_no) lawful_new ∙ ap (λ c. c then mark_check new then yes_or_no) lawful_old ∙ ap (λ c. c then mark_check old then mark_check new then yes_or_no) named

    pub swap_put : (after : List Mark) → after ≡ cond b (put ms y new) ms → after ≡ after_swap ms y old new
    swap_put after is = is ∙ ap (λ a. cond (says_yes a) (put ms y new) ms) swap_accepted
