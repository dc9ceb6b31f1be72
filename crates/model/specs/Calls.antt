-- Whatever a rig can hear, and what rig and store are after a list of calls. Assumes nothing.
use Rattle.std.specs.Prelude.{ℕ, List, [], ◌∷◌}
use Rattle.plan.specs.declared.event.Event.{Event}
use Rattle.model.specs.declared.Round.{Round}
use Rattle.model.specs.Meanings.{Meaning}
use Rattle.model.specs.Rigs.{World, after}
use Rattle.model.specs.Loads.{after_load, after_standoff}
use Rattle.model.specs.Rounds.{after_round}

-- a load, a stand-off load, a request, step or leave of one agent, a round, or a question
pub data Call : Type 0 where
  load : List ℕ → Call
  load_standoff : ℕ → ℕ → Call
  event : Event → Call
  round : Round → Call
  ask_section : ℕ → Call
  ask_figures : ℕ → Call
  ask_holder : Call
  ask_cell : ℕ → Call

module _ {P : Type 0} (R : Meaning P) where
  -- no question changes anything
  abbrev pub after_call : World P → Call → World P
  after_call w (load file) = after_load R w file
  after_call w (load_standoff n m) = after_standoff R w n m
  after_call w (event e) = after R w e
  after_call w (round r) = after_round R w r
  after_call w (ask_section k) = w
  after_call w (ask_figures k) = w
  after_call w ask_holder = w
  after_call w (ask_cell y) = w

  abbrev pub play : World P → List Call → World P
  play w [] = w
  play w (c ∷ cs) = play (after_call w c) cs
