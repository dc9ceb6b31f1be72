use Rattle.std.proofs.Common.{rules, tests, sym, ◌∙◌}
use Rattle.model.specs.Rigs.{section_answer}
use Rattle.rig.specs.Worlds.{rig_of}
use Rattle.rehearsals.specs.Answers.{same_section, both_tell}
use Rattle.rehearsals.proofs.AnswerLaws.{together_tells}
use Rattle.numbers.proofs.SearchLaws.{all_inclusive}
use Rattle.rehearsals.proofs.agents.are_together.Goals as goal

pub returns : goal.returns
returns g c =
    let rig = rig_of c.args.rig.now in
    let value =
    all_inclusive (λ k. both_tell same_section (section_answer rig k) (section_answer rig 1)) c.new.result _ _ c.all.result c.args.agents c.all.ensures.ran c.new.ensures.start c.new.ensures.end c.new.ensures.exhausted (λ x y q k. search (rules, tests))
    in
    record { value = value; sections = λ e. together_tells rig c.args.agents (sym value ∙ e) }
