use Rattle.std.proofs.Common.{◌≤◌, length, sym, subst, arith}
use Rattle.cells.specs.Marks.{mark_words}
use Rattle.report.proofs.LengthLaws.{owner_short, rung_short}
use Rattle.report.proofs.sheet.Sheet.mark.Goals as goal

pub returns-in-Owner-clause-short : goal.returns-in-Owner-clause-short
returns-in-Owner-clause-short c = subst (λ k. length (mark_words k) ≤ 11) (sym c.in-Owner.is) (owner_short c.in-Owner.identity (omega arith))

pub returns-in-Rung-clause-short : goal.returns-in-Rung-clause-short
returns-in-Rung-clause-short c = subst (λ k. length (mark_words k) ≤ 11) (sym c.in-Rung.is) (rung_short c.in-Rung.rung (omega arith))
