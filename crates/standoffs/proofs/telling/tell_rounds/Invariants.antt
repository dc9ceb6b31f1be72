use Rattle.std.proofs.Common.{◌≡◌, ◌++◌, drop, vec_items}
use Rattle.model.specs.Meanings.{meaning_of}
use Rattle.model.specs.Rounds.{rounds}
use Rattle.rig.specs.Worlds.{world}
use Rattle.standoffs.specs.Told.{round_lines}
use Rattle.standoffs.proofs.telling.tell_rounds.Given as goal

-- what is left to play leads from here to where all of it leads from the start, and so do the lines that are left to add
abbrev pub invariant-loop-round : goal.invariant-loop-round
invariant-loop-round g l =
    (rounds (meaning_of g.R.Rule) (world g.S.CellStore.marks l.rig) (drop l.round-index l.given)
    ≡ rounds (meaning_of g.R.Rule) (world g.S.CellStore.marks l.initial.rig) l.given)
    × (vec_items l.text ++ round_lines (meaning_of g.R.Rule) (world g.S.CellStore.marks l.rig) (drop l.round-index l.given)
    ≡ vec_items l.initial.text ++ round_lines (meaning_of g.R.Rule) (world g.S.CellStore.marks l.initial.rig) l.given)
