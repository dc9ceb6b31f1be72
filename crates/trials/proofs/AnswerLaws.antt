-- The length that an answer tells. Assumes nothing.
use Rattle.std.proofs.Common.{ℕ, ◌≤◌, leb, List, length, IfOk, Ok, Err}
use Rattle.std.proofs.lemmas.Bool.{leb-true, cond_both}
use Rattle.refusal.specs.declared.Refusal.TheVariants.{BufferTooShort}
use Rattle.report.specs.Reports.{copy_answer}

-- a text that is copied is no longer than the buffer
pub copied_inside : (text buffer : List ℕ) → IfOk (copy_answer text buffer) (λ n. n ≤ length buffer)
copied_inside text buffer =
    cond_both (leb (length text) (length buffer)) (Ok (length text)) (Err BufferTooShort) (λ r. IfOk r (λ n. n ≤ length buffer))
    (λ e. leb-true (length text) (length buffer) e)
    (λ e. tt)
