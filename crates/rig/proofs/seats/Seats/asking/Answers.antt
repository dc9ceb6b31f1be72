use Rattle.std.proofs.Common.{◌≡◌, ◌+◌, ◌≤◌, ℕ, Bool, length, take, count_by, sym, refl, ap, ◌∙◌, arith}
use Rattle.std.proofs.lemmas.List.{take_all, length-take-le}
use Rattle.std.proofs.lemmas.List.Sums.{count_by_more_yes, count_by_more_no, count_by-le-length}
use Rattle.model.specs.Rigs.{is_asking}
use Rattle.rig.specs.declared.seat.Seat.{Seat}
use Rattle.rig.proofs.seats.Seats.asking.Goals as goal
use Rattle.rig.proofs.seats.Seats.asking.Goals.{then-asks, else-asks}

pub loop-seat-init : goal.loop-seat-init
loop-seat-init g c = refl

pub overflow_add-asking : goal.overflow_add-asking
overflow_add-asking g c =
    let i = c.loop-seat.seat-index in
    let xs = c.as_slice-seat-items.result.now in
    omega (arith, c.loop-seat.invariant, count_by-le-length (λ s. is_asking s.agent.section) (take i xs), length-take-le i xs c.loop-seat.auto.seat-index-end, c.loop-seat-test.true, c.as_slice-seat-items.ensures.len)

pub loop-seat-preserved : goal.loop-seat-preserved
loop-seat-preserved g c =
    let i = c.loop-seat.seat-index in
    let xs = c.as_slice-seat-items.result.now in
    let here = ap (λ s. is_asking s.agent.section) (sym c.seat-item.is) ∙ sym c.asks.ensures.value in
    elim c.if-asks.branch [
      | then-asks w ↦ w.asking-is ∙ ap (λ k. k + 1) c.loop-seat.invariant ∙ sym (count_by_more_yes (λ s. is_asking s.agent.section) xs i c.seat-item.result c.loop-seat-test.true (here ∙ w.if-asks.true))
      | else-asks w ↦ w.asking-is ∙ c.loop-seat.invariant ∙ sym (count_by_more_no (λ s. is_asking s.agent.section) xs i c.seat-item.result c.loop-seat-test.true (here ∙ w.if-asks.false))
    ]

pub returns-clause-value : goal.returns-clause-value
returns-clause-value g c =
    let xs = c.as_slice-seat-items.result.now in
    let end : length xs ≤ c.loop-seat.seat-index = omega (arith, c.loop-seat-test.false) in
    c.loop-seat.invariant ∙ ap (count_by (λ s. is_asking s.agent.section)) (take_all c.loop-seat.seat-index xs end ∙ c.as_slice-seat-items.ensures.value)

pub returns-clause-few : goal.returns-clause-few
returns-clause-few g c =
    let i = c.loop-seat.seat-index in
    let xs = c.as_slice-seat-items.result.now in
    omega (arith, c.loop-seat.invariant, count_by-le-length (λ s. is_asking s.agent.section) (take i xs), length-take-le i xs c.loop-seat.auto.seat-index-end, c.loop-seat.auto.seat-index-end, c.as_slice-seat-items.ensures.len, c.args.self.now.few)
