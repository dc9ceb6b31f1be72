use Rattle.report.proofs.LengthLaws.{cell_short}
use Rattle.report.proofs.sheet.Sheet.cell_line.Goals as goal

pub returns-clause-short : goal.returns-clause-short
returns-clause-short c = λ low. cell_short c.args.name c.args.mark low c.mark.ensures.short
