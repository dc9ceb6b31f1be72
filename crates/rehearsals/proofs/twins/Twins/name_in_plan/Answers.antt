use Rattle.std.proofs.Common.{rules, tests, ◌∙◌, arith}
use Rattle.plan.specs.Plans.{model, entry_named}
use Rattle.numbers.proofs.SearchLaws.{find_inclusive}
use Rattle.rehearsals.specs.Twins.{is_number}
use Rattle.rehearsals.proofs.twins.Twins.name_in_plan.Goals as goal

pub returns : goal.returns
returns c =
    let p = model c.args.self.now.plan in
    record { value = find_inclusive (λ x. is_number (entry_named p 1 x) c.args.cell) c.new.result _ _ c.find.result 1 p.cells p.cells c.find.ensures.ran c.new.ensures.start (c.new.ensures.end ∙ c.cells.ensures.value) c.new.ensures.exhausted (omega arith) (λ x y q k. search (rules, tests)) }
