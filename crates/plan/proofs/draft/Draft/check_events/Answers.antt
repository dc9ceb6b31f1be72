use Rattle.std.proofs.Common.{not, Err, sym, ap, ◌∙◌, arith}
use Rattle.refusal.specs.declared.Refusal.TheVariants.{BadEvent}
use Rattle.numbers.proofs.FirstLaws.{none_push, first_up_to, none_up_to}
use Rattle.refusal.specs.Checks.{refuse_at}
use Rattle.plan.specs.Checks.{known}
use Rattle.plan.proofs.draft.Draft.check_events.Goals as goal

pub returns-then-not-knows_event : goal.returns-then-not-knows_event
returns-then-not-knows_event c =
    let h = c.args.self.now.header in
    let f = c.args.self.now.file.now in
    record {
      value =
          ap Err (ap BadEvent c.from.ensures)
          ∙ sym
          (ap (refuse_at BadEvent)
          (first_up_to (λ i. not (known h f i)) h.count c.loop-event.event c.loop-event.auto.event c.loop-event-test.true (ap not (sym c.if-not-knows_event.ensures.value)) c.loop-event.invariant));
    }

pub loop-event-preserved : goal.loop-event-preserved
loop-event-preserved c =
    none_push (λ i. not (known c.args.self.now.header c.args.self.now.file.now i)) 1 c.loop-event.event (ap not (sym c.if-not-knows_event.ensures.value)) c.loop-event.invariant

pub returns : goal.returns
returns c =
    let h = c.args.self.now.header in
    let f = c.args.self.now.file.now in
    record {
      value = sym (ap (refuse_at BadEvent) (none_up_to (λ i. not (known h f i)) h.count (λ k a b. c.loop-event.invariant k a (omega arith))));
    }

pub returns-else-not-knows_event : goal.returns-else-not-knows_event
returns-else-not-knows_event c =
    let h = c.args.self.now.header in
    let f = c.args.self.now.file.now in
    let all = none_push (λ i. not (known h f i)) 1 c.loop-event.event (ap not (sym c.if-not-knows_event.ensures.value)) c.loop-event.invariant in
    record {
      value = sym (ap (refuse_at BadEvent) (none_up_to (λ i. not (known h f i)) h.count (λ k a b. all k a (omega arith))));
    }
