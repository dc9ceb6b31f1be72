use Rattle.std.proofs.Common.{◌≡◌, ◌+◌, rules, tests, refl, ap, ◌∙◌}
use Rattle.std.specs.Option.{option_map}
use Rattle.rig.specs.Seating.{seated_in}
use Rattle.rig.specs.Worlds.{rig_of}
use Rattle.rig.proofs.QuestionLaws.{holder_placed}
use Rattle.rig.proofs.rig.Rig.holder.Given as given
use Rattle.rig.proofs.rig.Rig.holder.Goals as goal

mapped : (g : given.Over) (c : goal.After-map g) → c.map.result ≡ option_map (λ i. i + 1) c.first_holding.result
mapped g c = search (rules, tests)

pub returns : goal.returns
returns g c =
    let old = c.args.self.now in
    record { value = mapped g c ∙ ap (option_map (λ i. i + 1)) c.first_holding.ensures.value ∙ holder_placed old.cells (seated_in old.seats) (rig_of old) refl }
