use Rattle.std.proofs.Common.{Some, sym, ap, ◌∙◌, arith}
use Rattle.numbers.proofs.NameLaws.{length_listed}
use Rattle.std.specs.Result.{result_unwrap_or}
use Rattle.plan.specs.declared.event.Kind.TheVariants.{Leave}
use Rattle.plan.specs.Kinds.{made}
use Rattle.plan.specs.Plans.{kind_at, agent_at, event_at}
use Rattle.plan.proofs.EventLaws.{made_event}
use Rattle.plan.proofs.NumberLaws.{no_name, name_in, name_out}
use Rattle.plan.proofs.plan.Plan.event.Goals as goal

pub returns-in_err-index-clause-value : goal.returns-in_err-index-clause-value
returns-in_err-index-clause-value c =
    let d = c.args.self.now.draft in
    c.from_residual.ensures ∙ sym (name_out (event_at d.header d.file.now) d.header.count c.args.index c.in_err-index.ensures.value)

pub returns-in_err-index-clause-found : goal.returns-in_err-index-clause-found
returns-in_err-index-clause-found c =
    let d = c.args.self.now.draft in
    let long = length_listed (event_at d.header d.file.now) d.header.count in
    λ a b. absurd (no_name d.header.count c.args.index c.in_err-index.ensures.value a (omega (arith, long, b)))

pub returns-clause-value : goal.returns-clause-value
returns-clause-value c =
    let d = c.args.self.now.draft in
    let i = c.in_ok-index.index in
    let new = rw (c.from.ensures, c.agent.ensures.value) at c.new.ensures.value in
    let kind = rw c.kind.ensures.value at (c.unwrap_or-kind.ensures ∙ ap (λ r. result_unwrap_or r Leave) c.try_from.ensures) in
    ap Some (new ∙ ap (λ k. made k (agent_at d.header d.file.now i)) kind ∙ made_event _ (kind_at d.header d.file.now i) (agent_at d.header d.file.now i))
    ∙ sym (name_in (event_at d.header d.file.now) d.header.count c.args.index i c.in_ok-index.ensures.value)
