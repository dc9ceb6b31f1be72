use Rattle.std.proofs.Common.{◌≡◌, ◌+◌, ◌-◌, ◌≤◌, max}
use Rattle.model.specs.Meanings.{meaning_of}
use Rattle.model.specs.Rigs.{moved, turned_away, after_check}
use Rattle.model.specs.Rounds as round
use Rattle.rig.specs.Worlds.{world}
use Rattle.rig.proofs.rig.Rig.hear_all.Given as goal

abbrev pub invariant-loop-agent : goal.invariant-loop-agent
invariant-loop-agent g l = record {
  heard : world g.S.CellStore.marks l.self
      ≡ round.in_turn (λ v k. after_check l.checked (moved (meaning_of g.R.Rule) v (round.given l.round k)) (turned_away (meaning_of g.R.Rule) v (round.given l.round k))) (world g.S.CellStore.marks l.initial.self) (l.agent - 1);
  early : l.self.heard ≤ l.initial.self.heard + (l.agent - 1);
  in_range : l.agent ≤ max l.together 1;
  same : g.S.CellStore.lender l.self.store ≡ g.S.CellStore.lender l.initial.self.store;
}
