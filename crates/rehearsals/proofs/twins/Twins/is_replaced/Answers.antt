use Rattle.std.proofs.Common.{◌≡◌, sym, ◌∙◌, rules}
use Rattle.plan.specs.Plans.{model}
use Rattle.rehearsals.specs.Twins.{replaced}
use Rattle.rehearsals.proofs.TwinLaws.{replaced_tells, owners_tested}
use Rattle.rehearsals.proofs.twins.Twins.is_replaced.Goals as goal
use Rattle.rehearsals.proofs.twins.Twins.is_replaced.Goals.{in_default-via-in-Owner+in_default, in_default-via-in_default}

pub returns-in-Owner-Owner : goal.returns-in-Owner-Owner
returns-in-Owner-Owner c =
    let p = model c.args.self.now.plan in
    let q = model c.args.self.now.twin in
    let owners = c.in-Owner-Owner in
    let value = c.are_of_one_agent.ensures.value ∙ sym (owners_tested p q c.args.mark c.args.other owners.one owners.two owners.is-0 owners.is-1) in
    record { value = value; replaces = λ e. replaced_tells p q c.args.mark c.args.other (sym value ∙ e) }

pub returns-in_default : goal.returns-in_default
returns-in_default c =
    let p = model c.args.self.now.plan in
    let q = model c.args.self.now.twin in
    let value : c.eq.result ≡ replaced p q c.args.mark c.args.other = search rules in
    record { value = value; replaces = λ e. replaced_tells p q c.args.mark c.args.other (sym value ∙ e) }
