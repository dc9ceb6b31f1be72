-- No step of a run is refused by the store. Assumes nothing.
use Rattle.std.specs.Prelude.{◌≡◌, ℕ, false, List, Some, Ok}
use Rattle.numbers.specs.Names.{named}
use Rattle.plan.specs.declared.event.Event.TheVariants.{Step}
use Rattle.cells.specs.declared.mark.Mark.{Mark}
use Rattle.model.specs.Meanings.{Meaning}
use Rattle.model.specs.Rigs.{World, Seat, is_at_rest, serving_check}
use Rattle.model.specs.Loads.{blank_world, load_answer, after_load, standoff_answer, after_standoff}
use Rattle.model.specs.Calls.{Call, play}

module _ {P : Type 0} (R : Meaning P) where
  -- what each asking or leaving agent wants next, the store grants
  abbrev pub Granted : World P → Type 0
  Granted w = (k : ℕ) (s : Seat P) → named w.rig.seats k ≡ Some s → is_at_rest s.agent.section ≡ false → serving_check R w (Step k) s ≡ Ok tt

  -- from any accepted load, after any calls
  pub record AlwaysGranted : Type 0 where
    pub on_plans : (ms : List Mark) (file : List ℕ) → load_answer R (blank_world P ms) file ≡ Ok tt → (cs : List Call) → Granted (play R (after_load R (blank_world P ms) file) cs)
    pub on_standoffs : (ms : List Mark) (n m : ℕ) → standoff_answer R (blank_world P ms) n m ≡ Ok tt → (cs : List Call) → Granted (play R (after_standoff R (blank_world P ms) n m) cs)
