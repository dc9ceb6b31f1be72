use Rattle.std.proofs.Common.{Err, rules, tests, sym, ap, ◌∙◌}
use Rattle.numbers.proofs.SearchLaws.{any_inclusive}
use Rattle.refusal.specs.Checks.{refuse_if}
use Rattle.model.specs.Rounds.{refusal_of, may_not}
use Rattle.rig.specs.Worlds.{rig_of}
use Rattle.rig.proofs.rig.Rig.check_all.Goals as goal

pub returns-then-any : goal.returns-then-any
returns-then-any g c =
    let test = may_not c.args.round (rig_of c.args.self.now) in
    let found = any_inclusive test c.new.result _ _ c.any.result c.args.together c.any.ensures.ran c.new.ensures.start c.new.ensures.end c.new.ensures.exhausted (λ x y q k. search (rules, tests)) in
    record { value = ap Err c.refusal.ensures.value ∙ ap (λ b. refuse_if b (refusal_of c.args.round)) (sym c.if-any.true ∙ found) }

pub returns : goal.returns
returns g c =
    let test = may_not c.args.round (rig_of c.args.self.now) in
    let found = any_inclusive test c.new.result _ _ c.any.result c.args.together c.any.ensures.ran c.new.ensures.start c.new.ensures.end c.new.ensures.exhausted (λ x y q k. search (rules, tests)) in
    record { value = ap (λ b. refuse_if b (refusal_of c.args.round)) (sym c.if-any.false ∙ found) }
