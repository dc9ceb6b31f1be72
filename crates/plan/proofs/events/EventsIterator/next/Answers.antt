use Rattle.std.proofs.Common.{rules, sym, ◌∙◌}
use Rattle.plan.proofs.EventLaws.{event_next}
use Rattle.plan.proofs.events.EventsIterator.next.Goals as goal

pub invariant_of-self : goal.invariant_of-self
invariant_of-self c = (event_next c.self.inside.plan c.self.inside.given c.in_ok-event.event (sym c.event.ensures.value ∙ c.in_ok-event.was)).0

pub returns-clause-steps : goal.returns-clause-steps
returns-clause-steps c =
    sym c.self.view_is ∙ (event_next c.self.inside.plan c.self.inside.given c.in_ok-event.event (sym c.event.ensures.value ∙ c.in_ok-event.was)).1

pub returns-clause-goes : goal.returns-clause-goes
returns-clause-goes c =
    let next = sym c.self.view_is ∙ (event_next c.self.inside.plan c.self.inside.given c.in_ok-event.event (sym c.event.ensures.value ∙ c.in_ok-event.was)).1 in
    rw next (search rules)
