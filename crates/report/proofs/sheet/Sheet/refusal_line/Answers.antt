use Rattle.std.proofs.Common.{arith}
use Rattle.report.proofs.LengthLaws.{refusal_short}
use Rattle.report.proofs.sheet.Sheet.refusal_line.Goals as goal

pub returns-clause-short : goal.returns-clause-short
returns-clause-short c = refusal_short c.args.refusal (omega arith) (omega arith) (omega arith)
