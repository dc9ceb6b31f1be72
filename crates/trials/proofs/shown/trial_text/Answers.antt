use Rattle.std.proofs.Common.{◌≡◌, ◌++◌, length, ap, ◌∙◌, take, drop, replicate, vec_items}
use Rattle.std.proofs.Math.Seq.{take-append_seam}
use Rattle.std.proofs.lemmas.Result.{IfOk-weaker}
use Rattle.trials.specs.Trials.{trial_text}
use Rattle.trials.proofs.shown.trial_text.Goals as goal

pub returns-clause-value : goal.returns-clause-value
returns-clause-value c =
    let n = c.in_ok-length.length in
    let text = trial_text c.args.file.now in
    let rest = drop (length text) (replicate 2336 0) in
    let told : take n c.show_trial.new.buffer ≡ text =
    ap (take n) c.in_ok-length.ensures.after ∙ ap (λ m. take m (text ++ rest)) c.in_ok-length.ensures.value ∙ take-append_seam text rest in
    IfOk-weaker c.from_slice.result _ (λ v. vec_items v ≡ text) (λ v is. is ∙ told) c.from_slice.ensures.items
