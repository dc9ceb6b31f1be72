use Rattle.std.proofs.Common.{◌∙◌}
use Rattle.model.specs.Meanings.{meaning_of}
use Rattle.rig.specs.Worlds.{world}
use Rattle.rig.proofs.RoundLaws.{round_says, round_heard}
use Rattle.rig.proofs.rig.Rig.round.Goals as goal

pub returns : goal.returns
returns g c =
    let R = meaning_of g.R.Rule in
    let w = world g.S.CellStore.marks c.args.self.now in
    let heard = c.in_ok-together.ensures in
    let said = c.check_all-checked.ensures.value in
    record {
      value = round_says R c.args.round w c.in_ok-together.together heard.moving heard.value _ said;
      after = c.hear_all.ensures.after ∙ round_heard R c.args.round w c.in_ok-together.together heard.moving heard.value _ said;
      same = c.hear_all.ensures.same;
    }
