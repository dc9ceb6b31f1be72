-- What an event asks, by its byte. Assumes nothing.
use Rattle.std.specs.Prelude.{ℕ, cond, Some, None, Option, ◌==◌}
use Rattle.plan.specs.declared.event.Event.{Event}
use Rattle.plan.specs.declared.event.Kind.{Kind}
use Rattle.plan.specs.declared.event.Event.TheVariants as event
use Rattle.plan.specs.declared.event.Kind.TheVariants.{Request, Step, Leave}

-- 1 is a request, 2 a step, 3 a leave, and no other byte is a kind
abbrev pub kind_of : ℕ → Option Kind
kind_of n = cond (n == 1) (Some Request) (cond (n == 2) (Some Step) (cond (n == 3) (Some Leave) None))

-- what of an agent is asked
abbrev pub made : Kind → ℕ → Event
made Request k = event.Request k
made Step k = event.Step k
made Leave k = event.Leave k
