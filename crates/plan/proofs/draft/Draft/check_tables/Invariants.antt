use Rattle.std.proofs.Common.{is_some}
use Rattle.numbers.specs.First.{NonePasses}
use Rattle.plan.specs.Checks.{row_misfit}
use Rattle.plan.proofs.draft.Draft.check_tables.Given as goal

abbrev pub invariant-loop-agent : goal.invariant-loop-agent
invariant-loop-agent l = NonePasses (λ k. is_some (row_misfit l.self.header l.self.file.now k)) 1 l.agent
