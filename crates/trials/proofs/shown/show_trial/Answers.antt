use Rattle.std.proofs.Common.{◌≡◌, ◌≤◌, ◌++◌, length, drop, sym, ap, ◌∙◌, arith}
use Rattle.refusal.specs.Refusals.{refusal_line}
use Rattle.report.specs.Lines.{line_end}
use Rattle.report.specs.Reports.{copy_after}
use Rattle.trials.specs.Trials.{trial_text}
use Rattle.trials.proofs.ShownLaws.{copy_fronted, trial_front, trial_lined, trial_stays}
use Rattle.trials.proofs.shown.show_trial.Goals as goal

pub returns-in-Ok-clause-value : goal.returns-in-Ok-clause-value
returns-in-Ok-clause-value c = (trial_front c.args.file.now c.args.buffer.now c.in-Ok.length (sym c.in-Ok.is ∙ c.in_ok-length.ensures.value)).0

pub returns-in-Ok-clause-after : goal.returns-in-Ok-clause-after
returns-in-Ok-clause-after c =
    c.in_ok-length.ensures.after ∙ (trial_front c.args.file.now c.args.buffer.now c.in-Ok.length (sym c.in-Ok.is ∙ c.in_ok-length.ensures.value)).1

pub returns-in-Err-clause-value : goal.returns-in-Err-clause-value
returns-in-Err-clause-value c =
    let told = trial_lined c.args.file.now c.in-Err.refusal (sym c.in-Err.is ∙ c.in_ok-length.ensures.enough (omega arith)) in
    let answer = c.refusal_line.ensures.enough (omega arith) in
    let same : c.unwrap.result ≡ length (refusal_line c.in-Err.refusal ++ line_end) = cc in
    same ∙ ap length told

pub returns-in-Err-clause-after : goal.returns-in-Err-clause-after
returns-in-Err-clause-after c =
    let buffer = c.args.buffer.now in
    let line = refusal_line c.in-Err.refusal ++ line_end in
    let is = sym c.in-Err.is ∙ c.in_ok-length.ensures.enough (omega arith) in
    let told : line ≡ trial_text c.args.file.now = trial_lined c.args.file.now c.in-Err.refusal is in
    let stayed : c.trial_report.new.buffer ≡ buffer = c.in_ok-length.ensures.after ∙ trial_stays c.args.file.now buffer c.in-Err.refusal is in
    let fits : length line ≤ length buffer = omega (arith, c.refusal_line.ensures.fits) in
    c.refusal_line.ensures.after ∙ ap (copy_after line) stayed ∙ copy_fronted line buffer fits ∙ ap (λ t. t ++ drop (length t) buffer) told
