use Rattle.std.proofs.Common.{rules, tests, ◌∙◌}
use Rattle.plan.specs.Plans.{model}
use Rattle.rehearsals.specs.Twins.{has_both}
use Rattle.numbers.proofs.SearchLaws.{any_inclusive}
use Rattle.rehearsals.proofs.twins.Twins.are_of_one_agent.Goals as goal

pub returns : goal.returns
returns c =
    let p = model c.args.self.now.plan in
    let q = model c.args.self.now.twin in
    record { value = any_inclusive (has_both p q c.args.one c.args.other) c.new.result _ _ c.any.result p.agents c.any.ensures.ran c.new.ensures.start (c.new.ensures.end ∙ c.agents.ensures.value) c.new.ensures.exhausted (λ x y q k. search (rules, tests)) }
