use Rattle.std.proofs.Common.{◌≡◌, drop}
use Rattle.model.specs.Meanings.{meaning_of}
use Rattle.model.specs.Rounds.{rounds}
use Rattle.rig.specs.Worlds.{world}
use Rattle.playing.proofs.playing.play_rounds.Given as goal

-- what is left to play leads from here to where all of it leads from the start
abbrev pub invariant-loop-round : goal.invariant-loop-round
invariant-loop-round g l =
    (rounds (meaning_of g.R.Rule) (world g.S.CellStore.marks l.rig) (drop l.round-index l.given)
    ≡ rounds (meaning_of g.R.Rule) (world g.S.CellStore.marks l.initial.rig) l.given)
    × (g.S.CellStore.lender l.rig.store ≡ g.S.CellStore.lender l.initial.rig.store)
