use Rattle.std.proofs.Common.{rules, tests, ◌≡◌, ◌+◌, ap, ◌∙◌}
use Rattle.std.specs.List.{position}
use Rattle.std.specs.Option.{option_map}
use Rattle.std.proofs.lemmas.Iterator.{YieldsList-from_slice}
use Rattle.std.proofs.lemmas.Iterator.Search.{position_from_yields_List}
use Rattle.tally.proofs.lowest_name.Goals as goal

pub returns : goal.returns
returns g c =
    let at : c.position.result ≡ position (λ x. g.T.PartialEq.eq x c.args.element) c.args.list.now =
    position_from_yields_List (λ x. g.T.PartialEq.eq x c.args.element) _ _ c.position.result c.position.ensures.ran (YieldsList-from_slice c.args.list.now cc) (λ x b q k. search (rules, tests)) in
    let more : c.map.result ≡ option_map (λ before. before + 1) c.position.result = search rules in
    record { value = more ∙ ap (option_map (λ before. before + 1)) at }
