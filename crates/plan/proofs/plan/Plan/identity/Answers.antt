use Rattle.std.proofs.Common.{Some, sym, ap, ◌∙◌}
use Rattle.plan.specs.Plans.{identity_at}
use Rattle.plan.proofs.NumberLaws.{name_in, name_out}
use Rattle.plan.proofs.plan.Plan.identity.Goals as goal

pub returns-in_err-agent-clause-value : goal.returns-in_err-agent-clause-value
returns-in_err-agent-clause-value c =
    let d = c.args.self.now.draft in
    c.from_residual.ensures ∙ sym (name_out (identity_at d.header d.file.now) d.header.agents c.args.agent (rw c.from.ensures at c.in_err-agent.ensures.value))

pub returns-clause-value : goal.returns-clause-value
returns-clause-value c =
    let d = c.args.self.now.draft in
    ap Some c.identity.ensures.value
    ∙ sym (name_in (identity_at d.header d.file.now) d.header.agents c.args.agent c.in_ok-agent.agent (rw c.from.ensures at c.in_ok-agent.ensures.value))
