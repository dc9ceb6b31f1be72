-- A text that is short enough for its buffer. Assumes nothing.
use Rattle.std.proofs.Common.{◌≡◌, ℕ, ◌≤◌, cond, List, length, Ok, Err, ap}
use Rattle.std.proofs.lemmas.Bool.{le-leb}
use Rattle.refusal.specs.declared.Refusal.TheVariants.{BufferTooShort}
use Rattle.report.specs.Reports.{copy_answer}

pub copy_goes : (text buffer : List ℕ) → length text ≤ length buffer → copy_answer text buffer ≡ Ok (length text)
copy_goes text buffer h = ap (λ b. cond b (Ok (length text)) (Err BufferTooShort)) (le-leb (length text) (length buffer) h)
