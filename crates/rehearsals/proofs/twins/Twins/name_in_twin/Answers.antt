use Rattle.std.proofs.Common.{◌≡◌, sym, ◌∙◌, rules}
use Rattle.plan.specs.Plans.{model}
use Rattle.rehearsals.specs.Twins.{name_in_twin}
use Rattle.rehearsals.proofs.TwinLaws.{name_renumbers}
use Rattle.rehearsals.proofs.twins.Twins.name_in_twin.Goals as goal

pub returns-clause-renumbered : goal.returns-clause-renumbered
returns-clause-renumbered c σ z h e =
    let p = model c.args.self.now.plan in
    let q = model c.args.self.now.twin in
    let value : c.table_entry.result ≡ name_in_twin p q c.args.cell = search rules in
    name_renumbers p q c.args.cell σ z h (sym value ∙ e)
