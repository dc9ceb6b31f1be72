use Rattle.std.proofs.Common.{◌≡◌}
use Rattle.plan.specs.Plans.{model}
use Rattle.model.specs.Meanings.{meaning_of}
use Rattle.model.specs.Rigs.{run}
use Rattle.rig.specs.Worlds.{world}
use Rattle.playing.proofs.playing.play_plan.Given as goal

-- what is left to play leads from here to where all of it leads from the start
abbrev pub invariant-loop-event : goal.invariant-loop-event
invariant-loop-event g l =
    (run (meaning_of g.R.Rule) (world g.S.CellStore.marks l.rig) l.event-iterator
    ≡ run (meaning_of g.R.Rule) (world g.S.CellStore.marks l.initial.rig) (model l.plan).events)
    × (g.S.CellStore.lender l.rig.store ≡ g.S.CellStore.lender l.initial.rig.store)
