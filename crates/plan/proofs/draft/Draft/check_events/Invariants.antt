use Rattle.std.proofs.Common.{not}
use Rattle.numbers.specs.First.{NonePasses}
use Rattle.plan.specs.Checks.{known}
use Rattle.plan.proofs.draft.Draft.check_events.Given as goal

abbrev pub invariant-loop-event : goal.invariant-loop-event
invariant-loop-event l = NonePasses (λ i. not (known l.self.header l.self.file.now i)) 1 l.event
