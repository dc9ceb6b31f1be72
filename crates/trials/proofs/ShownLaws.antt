-- What is shown of a plan file: the front of the buffer, or the line of the refusal. Assumes nothing.
use Rattle.std.proofs.Common.{◌≡◌, ℕ, ◌≤◌, Bool, true, false, cond, leb, List, ◌++◌, length, drop, Ok, Err, Result, refl, ap, arith}
use Rattle.std.proofs.lemmas.Bool.{le-leb}
use Rattle.refusal.specs.Checks.{Check}
use Rattle.refusal.specs.Refusals.{refusal_line}
use Rattle.refusal.specs.declared.Refusal.{Refusal}
use Rattle.refusal.specs.declared.Refusal.TheVariants.{BufferTooShort}
use Rattle.plan.specs.Plans.{rule_asked}
use Rattle.model.specs.Meanings.{Meaning, read_and_write, by_majority, by_ladder}
use Rattle.model.specs.Rigs.{after_check}
use Rattle.model.specs.Loads.{load_answer}
use Rattle.report.specs.Lines.{line_end}
use Rattle.report.specs.Reports.{copy_answer, copy_after}
use Rattle.trials.specs.Trials.{unless_refused, shown, blank_over, run_text, file_answer, file_length, file_buffer, file_shown, trial_answer, trial_length, trial_buffer, trial_text}
use Rattle.trials.proofs.RuleLaws.{picked}

-- the text stands at the front of the buffer, and what follows it there stayed
abbrev pub Fronted : List ℕ → List ℕ → List ℕ → Type 0
Fronted text before after = after ≡ text ++ drop (length text) before

-- a text that fits goes to the front
pub copy_fronted : (text buffer : List ℕ) → length text ≤ length buffer → Fronted text buffer (copy_after text buffer)
copy_fronted text buffer h = ap (λ b. cond b (text ++ drop (length text) buffer) buffer) (le-leb (length text) (length buffer) h)

copied : (b : Bool) (text buffer : List ℕ) (n : ℕ) → Ok n ≡ cond b (Ok (length text)) (Err BufferTooShort) → (n ≡ length text) × Fronted text buffer (cond b (text ++ drop (length text) buffer) buffer)
copied true text buffer n e = (cc e, refl)
copied false text buffer n e = let z : ◌≡◌ {A = ℕ} 0 1 = cc e in absurd (omega arith)

-- a report that is answered stands at the front of the buffer
front : (load : Check) (text buffer : List ℕ) (n : ℕ) → Ok n ≡ unless_refused load (copy_answer text buffer) → (n ≡ length (shown load text)) × Fronted (shown load text) buffer (after_check load (copy_after text buffer) buffer)
front (Ok u) text buffer n e = copied (leb (length text) (length buffer)) text buffer n e
front (Err d) text buffer n e = let z : ◌≡◌ {A = ℕ} 0 1 = cc e in absurd (omega arith)

-- a refusal that is answered is that of the load
lined : (load : Check) (text : List ℕ) (d : Refusal) → Err d ≡ unless_refused load (Ok (length text)) → refusal_line d ++ line_end ≡ shown load text
lined (Ok u) text d e = let z : ◌≡◌ {A = ℕ} 0 1 = cc e in absurd (omega arith)
lined (Err c) text d e = let same : d ≡ c = cc e in ap (λ r. refusal_line r ++ line_end) same

-- and leaves the buffer as it is
stays : (load : Check) (text buffer : List ℕ) (d : Refusal) → Err d ≡ unless_refused load (Ok (length text)) → after_check load (copy_after text buffer) buffer ≡ buffer
stays (Ok u) text buffer d e = let z : ◌≡◌ {A = ℕ} 0 1 = cc e in absurd (omega arith)
stays (Err c) text buffer d e = refl

module _ (file : List ℕ) where
  module _ {P : Type 0} (R : Meaning P) where
    file_front : (buffer : List ℕ) (n : ℕ) → Ok n ≡ file_answer R file buffer → (n ≡ length (file_shown R file)) × Fronted (file_shown R file) buffer (file_buffer R file buffer)
    file_front buffer n e = front (load_answer R (blank_over P file) file) (run_text R (blank_over P file) file) buffer n e

    file_lined : (d : Refusal) → Err d ≡ file_length R file → refusal_line d ++ line_end ≡ file_shown R file
    file_lined d e = lined (load_answer R (blank_over P file) file) (run_text R (blank_over P file) file) d e

    file_stays : (buffer : List ℕ) (d : Refusal) → Err d ≡ file_length R file → file_buffer R file buffer ≡ buffer
    file_stays buffer d e = stays (load_answer R (blank_over P file) file) (run_text R (blank_over P file) file) buffer d e

  -- the same under the rule that the file asks for

  pub trial_front : (buffer : List ℕ) (n : ℕ) → Ok n ≡ trial_answer file buffer → (n ≡ length (trial_text file)) × Fronted (trial_text file) buffer (trial_buffer file buffer)
  trial_front buffer n = picked (rule_asked file) (λ pick.
      Ok n ≡ pick (Result ℕ Refusal) (file_answer read_and_write file buffer) (file_answer by_majority file buffer) (file_answer by_ladder file buffer)
      → (n ≡ length (pick (List ℕ) (file_shown read_and_write file) (file_shown by_majority file) (file_shown by_ladder file)))
      × Fronted (pick (List ℕ) (file_shown read_and_write file) (file_shown by_majority file) (file_shown by_ladder file)) buffer
      (pick (List ℕ) (file_buffer read_and_write file buffer) (file_buffer by_majority file buffer) (file_buffer by_ladder file buffer)))
      (file_front read_and_write buffer n) (file_front by_majority buffer n) (file_front by_ladder buffer n)

  pub trial_lined : (d : Refusal) → Err d ≡ trial_length file → refusal_line d ++ line_end ≡ trial_text file
  trial_lined d = picked (rule_asked file) (λ pick.
      Err d ≡ pick (Result ℕ Refusal) (file_length read_and_write file) (file_length by_majority file) (file_length by_ladder file)
      → refusal_line d ++ line_end ≡ pick (List ℕ) (file_shown read_and_write file) (file_shown by_majority file) (file_shown by_ladder file))
      (file_lined read_and_write d) (file_lined by_majority d) (file_lined by_ladder d)

  pub trial_stays : (buffer : List ℕ) (d : Refusal) → Err d ≡ trial_length file → trial_buffer file buffer ≡ buffer
  trial_stays buffer d = picked (rule_asked file) (λ pick.
      Err d ≡ pick (Result ℕ Refusal) (file_length read_and_write file) (file_length by_majority file) (file_length by_ladder file)
      → pick (List ℕ) (file_buffer read_and_write file buffer) (file_buffer by_majority file buffer) (file_buffer by_ladder file buffer) ≡ buffer)
      (file_stays read_and_write buffer d) (file_stays by_majority buffer d) (file_stays by_ladder buffer d)
