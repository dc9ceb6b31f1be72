use Rattle.std.proofs.Common.{◌≤◌, length, IfOk, sym, subst}
use Rattle.rig.specs.Worlds.{world}
use Rattle.report.specs.Reports.{report_text}
use Rattle.trials.proofs.AnswerLaws.{copied_inside}
use Rattle.trials.proofs.run.report_play.Goals as goal

pub returns-clause-inside : goal.returns-clause-inside
returns-clause-inside g c =
    let buffer = c.args.buffer.now in
    subst (λ r. IfOk r (λ n. n ≤ length buffer)) (sym c.report.ensures.value) (copied_inside (report_text g.R.Rule.NUMBER (world g.S.CellStore.marks c.play.new.rig)) buffer)
