use Rattle.std.proofs.Common.{ℕ, Some, sym, ap, ◌∙◌}
use Rattle.numbers.specs.Names.{listed}
use Rattle.plan.specs.Plans.{entry_at, entry_in}
use Rattle.plan.proofs.NumberLaws.{name_in, name_out}
use Rattle.plan.proofs.plan.Plan.table_entry.Goals as goal

pub returns-in_err-agent-clause-value : goal.returns-in_err-agent-clause-value
returns-in_err-agent-clause-value c =
    let d = c.args.self.now.draft in
    let row = λ (k : ℕ). listed (entry_at d.header d.file.now k) d.header.cells in
    c.from_residual.ensures
    ∙ sym (ap (λ o. entry_in o c.args.name) (name_out row d.header.agents c.args.agent (rw c.from.ensures at c.in_err-agent.ensures.value)))

pub returns-in_err-name-clause-value : goal.returns-in_err-name-clause-value
returns-in_err-name-clause-value c =
    let d = c.args.self.now.draft in
    let row = λ (k : ℕ). listed (entry_at d.header d.file.now k) d.header.cells in
    let k = c.in_ok-agent.agent in
    c.from_residual-in_err-name.ensures
    ∙ sym
    (ap (λ o. entry_in o c.args.name) (name_in row d.header.agents c.args.agent k (rw c.from.ensures at c.in_ok-agent.ensures.value))
    ∙ name_out (entry_at d.header d.file.now k) d.header.cells c.args.name (rw c.from-2.ensures at c.in_err-name.ensures.value))

pub returns-clause-value : goal.returns-clause-value
returns-clause-value c =
    let d = c.args.self.now.draft in
    let row = λ (k : ℕ). listed (entry_at d.header d.file.now k) d.header.cells in
    let k = c.in_ok-agent.agent in
    ap Some c.entry.ensures.value
    ∙ sym
    (ap (λ o. entry_in o c.args.name) (name_in row d.header.agents c.args.agent k (rw c.from.ensures at c.in_ok-agent.ensures.value))
    ∙ name_in (entry_at d.header d.file.now k) d.header.cells c.args.name c.in_ok-name.name (rw c.from-2.ensures at c.in_ok-name.ensures.value))
