use Rattle.std.proofs.Common.{sym, ◌∙◌, ⊎_elim, arith}
use Rattle.rule_ladder.proofs.FlagLaws.{none_above, next_none, next_inside, next_some}
use Rattle.rule_ladder.proofs.flags.next_flag_set.Goals as goal

pub returns-in_err-above : goal.returns-in_err-above
returns-in_err-above c =
    let past = ⊎_elim (λ less. less) (λ same. absurd (omega arith)) c.in_err-above.ensures.lookup.0 in
    record { value = c.from_residual.ensures ∙ sym (none_above c.args.flags.now c.args.name past) }

pub returns-in_err-next : goal.returns-in_err-next
returns-in_err-next c =
    let got = c.in_ok-above.ensures.lookup.0 in
    record { value = c.from_residual-in_err-next.ensures ∙ next_none c.args.flags.now c.in_ok-above.above.now c.args.name got.0 got.2 c.in_err-next.ensures.value }

pub overflow_add-result : goal.overflow_add-result
overflow_add-result c =
    let got = c.in_ok-above.ensures.lookup.0 in
    omega (arith, next_inside c.args.flags.now c.in_ok-above.above.now c.args.name got.0 got.2 c.in_ok-next.next c.in_ok-next.ensures.value)

pub returns : goal.returns
returns c =
    let got = c.in_ok-above.ensures.lookup.0 in
    record { value = next_some c.args.flags.now c.in_ok-above.above.now c.args.name got.0 got.2 c.in_ok-next.next c.in_ok-next.ensures.value }
