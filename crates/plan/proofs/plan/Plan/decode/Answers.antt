use Rattle.std.proofs.Common.{Ok, Err, sym, refl, ap, ◌∙◌}
use Rattle.std.proofs.lemmas.Result.{err_from_is_err_and}
use Rattle.plan.specs.Plans.{plan_at}
use Rattle.refusal.specs.Checks.{◌then◌}
use Rattle.plan.specs.Checks.{answered}
use Rattle.plan.proofs.CheckLaws.{decoded_after, read_refused}
use Rattle.plan.proofs.Faith.{accepted_plan, not_refused, judgement}
use Rattle.plan.proofs.plan.Plan.decode.Goals as goal

pub returns-in_err-header : goal.returns-in_err-header
returns-in_err-header c =
    let f = c.args.file.now in
    let r = c.from_residual.result in
    let p = err_from_is_err_and r c.from_residual.ensures.1 in
    let is = ap answered (p.1 ∙ ap Err p.2) ∙ read_refused c.args.rule f _ c.in_err-header.ensures.value in
    let j = judgement c.args.rule f r is in
    record { value = is; accepted = j.accepted; refused = j.refused; faithful = j.faithful }

pub returns-in_err-check_all : goal.returns-in_err-check_all
returns-in_err-check_all c =
    let h = c.in_ok-header.header in
    let f = c.args.file.now in
    let r = c.from_residual-in_err-check_all.result in
    let p = err_from_is_err_and r c.from_residual-in_err-check_all.ensures.1 in
    let is =
    ap answered (p.1 ∙ ap Err p.2)
    ∙ ap (λ k. k then Ok (plan_at h f)) (sym c.in_err-check_all.was)
    ∙ decoded_after c.args.rule f h c.check_all.result c.in_ok-header.ensures.value c.check_all.ensures.value
    in
    let j = judgement c.args.rule f r is in
    record { value = is; accepted = j.accepted; refused = j.refused; faithful = j.faithful }

pub returns : goal.returns
returns c =
    let h = c.in_ok-header.header in
    let f = c.args.file.now in
    let is =
    ap (λ k. k then Ok (plan_at h f)) (sym c.in_ok-check_all.was)
    ∙ decoded_after c.args.rule f h c.check_all.result c.in_ok-header.ensures.value c.check_all.ensures.value
    in
    let told = accepted_plan c.args.rule f (plan_at h f) is in
    record { value = is; accepted = (λ _. told.0, λ _. refl); refused = not_refused c.args.rule f told.0; faithful = told.1 }
