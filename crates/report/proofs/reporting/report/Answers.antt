use Rattle.std.proofs.Common.{ap, ◌∙◌, arith}
use Rattle.rig.specs.Worlds.{world}
use Rattle.report.specs.Reports.{report_text, copy_answer}
use Rattle.report.proofs.CopyLaws.{copy_goes}
use Rattle.report.proofs.WholeLaws.{whole}
use Rattle.report.proofs.reporting.report.Goals as goal

pub returns-clause-enough : goal.returns-clause-enough
returns-clause-enough g c = λ long.
    let text = report_text g.R.Rule.NUMBER (world g.S.CellStore.marks c.args.rig.now) in
    c.copy_to.ensures.value ∙ ap (λ t. copy_answer t c.args.buffer.now) c.sheet_of.ensures.value ∙ copy_goes text c.args.buffer.now (omega (arith, long, c.sheet_of.ensures.fits))

pub returns-clause-whole : goal.returns-clause-whole
returns-clause-whole g c = whole (world g.S.CellStore.marks c.args.rig.now)
