use Rattle.std.proofs.Common.{sym, ◌∙◌}
use Rattle.numbers.proofs.NameLaws.{length_listed}
use Rattle.plan.specs.Plans.{event_at}
use Rattle.plan.proofs.plan.Plan.event_count.Goals as goal

pub returns-clause-value : goal.returns-clause-value
returns-clause-value c =
    let p = c.args.self.now in
    c.from.ensures ∙ sym (length_listed (event_at p.draft.header p.draft.file.now) p.draft.header.count)
