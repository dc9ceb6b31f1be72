-- The report, as it is told. Assumes nothing.
use Rattle.std.proofs.Common.{◌≡◌, ℕ, ◌≤◌, cond, List, [], ◌∷◌, ◌++◌, length, take, drop, is_ok, IfOk, Ok, Err, Result, refl, ap, ◌∙◌}
use Rattle.std.proofs.lemmas.Bool.{le-leb}
use Rattle.refusal.specs.declared.Refusal.{Refusal}
use Rattle.refusal.specs.declared.Refusal.TheVariants.{BufferTooShort}
use Rattle.report.specs.Reports.{copy_answer, copy_after}

-- bytes that are added
pub extended : {X Y : Type 0} (r : Result X Y) (before after more text : List ℕ) → after ≡ cond (is_ok r) (before ++ more) before → more ≡ text → IfOk r (λ x. after ≡ before ++ text)
extended (Ok x) before after more text is e = is ∙ ap (λ t. before ++ t) e
extended (Err y) before after more text is e = tt

-- a report that fits is the front of the buffer
pub report_front : (text buffer after : List ℕ) (n : ℕ) (answer : Result ℕ Refusal) → length text ≤ length buffer → answer ≡ Ok n → answer ≡ copy_answer text buffer → after ≡ copy_after text buffer → take n after ≡ text
report_front text buffer after n answer fits is told-so copied =
    let b = le-leb (length text) (length buffer) fits in
    let z : copy_answer text buffer ≡ Ok (length text) = ap (λ t. cond t (Ok (length text)) (Err BufferTooShort)) b in
    let k : n ≡ length text = cc (is, told-so, z) in
    let y : after ≡ text ++ drop (length text) buffer = copied ∙ ap (λ t. cond t (text ++ drop (length text) buffer) buffer) b in
    ap (λ m. take m after) k ∙ ap (take (length text)) y ∙ take_front text (drop (length text) buffer)
  where
    take_front : (xs ys : List ℕ) → take (length xs) (xs ++ ys) ≡ xs
    take_front [] ys = refl
    take_front (x ∷ xs) ys = ap (λ zs. x ∷ zs) (take_front xs ys)
