-- Runs: loads, and then what is heard. Assumes nothing.
use Rattle.std.specs.Prelude.{ℕ, List, [], Ok, Err, Result}
use Rattle.refusal.specs.declared.Refusal.{Refusal}
use Rattle.plan.specs.Checks.{decoded}
use Rattle.plan.specs.Plans.{Sayings}
use Rattle.plan.specs.declared.event.Event.{Event}
use Rattle.model.specs.Meanings.{Meaning}
use Rattle.model.specs.Rigs.{World, after_check, run}
use Rattle.model.specs.Loads.{load_answer, after_load, standoff_answer, after_standoff}
use Rattle.model.specs.Rounds.{rounds}
use Rattle.model.specs.declared.Round.{Round}

-- the events of a plan; a file that is none has no events
abbrev pub events_in : Result Sayings Refusal → List Event
events_in (Ok p) = p.events
events_in (Err e) = []

module _ {P : Type 0} (R : Meaning P) where
  abbrev pub events_of : List ℕ → List Event
  events_of file = events_in (decoded R.number file)

  -- a load of one file, and then the events of another; where the load is refused, nothing happens
  abbrev pub after_run : World P → List ℕ → List ℕ → World P
  after_run w file others = after_check (load_answer R w file) (run R (after_load R w file) (events_of others)) w

  -- a stand-off load, and then rounds
  abbrev pub after_rounds : World P → ℕ → ℕ → List Round → World P
  after_rounds w n m rs = after_check (standoff_answer R w n m) (rounds R (after_standoff R w n m) rs) w
