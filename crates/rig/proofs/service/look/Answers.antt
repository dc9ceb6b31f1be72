use Rattle.std.proofs.Common.{rules, ◌≡◌, ◌+◌, ◌≤◌, Err, length, sym, ap, ◌∙◌, arith}
use Rattle.std.proofs.lemmas.List.{length-take-le}
use Rattle.std.proofs.lemmas.Result.{err_from_is_err_and}
use Rattle.cells.specs.Marks.{read_answer}
use Rattle.model.specs.Rigs.{entry}
use Rattle.rig.specs.Serving.{checked}
use Rattle.rig.specs.Worlds.{seat_over}
use Rattle.rig.proofs.ServiceLaws.{look_refused, look_granted, looked}
use Rattle.rig.proofs.service.look.Goals as goal

pub returns-in_err-seen-clause-value : goal.returns-in_err-seen-clause-value
returns-in_err-seen-clause-value g c =
    let m = c.args.cells in
    let ms = g.S.CellStore.marks c.args.store.now in
    let s = seat_over m c.args.seat.now in
    let i = c.loop-before.before in
    let p = err_from_is_err_and c.from_residual.result c.from_residual.ensures.1 in
    let here : c.from.result ≡ entry s (i + 1) = search rules in
    let wide : length c.args.seat.now.table ≡ 64 = search rules in
    let many : i + 1 ≤ m = omega (arith, ap length c.front-cell-items.ensures.value, length-take-le m c.args.seat.now.table (omega (arith, wide)), c.loop-before-test.true) in
    ap checked (p.1 ∙ ap Err p.2) ∙ sym (look_refused m ms s (i + 1) _ (omega arith) many c.loop-before.invariant.1 (c.in_err-seen.ensures.value ∙ ap (read_answer ms) here))

pub returns-clause-value : goal.returns-clause-value
returns-clause-value g c =
    let m = c.args.cells in
    let wide : length c.args.seat.now.table ≡ 64 = search rules in
    let end : c.loop-before.before ≡ m = omega (arith, ap length c.front-cell-items.ensures.value, length-take-le m c.args.seat.now.table (omega (arith, wide)), c.loop-before-test.false) in
    sym (look_granted m (g.S.CellStore.marks c.args.store.now) (seat_over m c.args.seat.now) (λ k a b. c.loop-before.invariant.1 k a (omega arith)))

pub returns-clause-seen : goal.returns-clause-seen
returns-clause-seen g c =
    let m = c.args.cells in
    let wide : length c.args.seat.now.table ≡ 64 = search rules in
    let end : c.loop-before.before ≡ m = omega (arith, ap length c.front-cell-items.ensures.value, length-take-le m c.args.seat.now.table (omega (arith, wide)), c.loop-before-test.false) in
    looked m (g.S.CellStore.marks c.args.store.now) (seat_over m c.args.seat.now) c.loop-before.seen (omega (arith, c.loop-before.invariant.0, c.requires)) (λ x a b. c.loop-before.invariant.2 x a (omega arith))
