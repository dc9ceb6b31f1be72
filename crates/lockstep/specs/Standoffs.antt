-- On a stand-off the agents that move together are always in the same section, and nobody holds. Assumes nothing.
use Rattle.std.specs.Prelude.{◌≡◌, ℕ, ◌≤◌, List, replicate, Ok, ◌≢◌}
use Rattle.numbers.specs.Factors.{SmallestCommonFactor}
use Rattle.cells.specs.declared.mark.Mark.{Mark}
use Rattle.cells.specs.declared.mark.Mark.TheVariants.{Empty}
use Rattle.rules.specs.declared.agent.Section.TheVariants.{Holding}
use Rattle.model.specs.Meanings.{Meaning}
use Rattle.model.specs.Rigs.{section_answer}
use Rattle.model.specs.Loads.{blank_world, standoff_answer, after_standoff}
use Rattle.model.specs.Calls.{Call, play}

module _ {P : Type 0} (R : Meaning P) where
  -- n agents stand off over m cells exactly if m is refused for a common factor; the load asks for as many empty cells
  abbrev pub StandsOff : Type 0
  StandsOff = (n m l : ℕ) → 2 ≤ n → n ≤ 16 → 2 ≤ m → m ≤ 64 → SmallestCommonFactor n m l → standoff_answer R (blank_world P (replicate m Empty)) n m ≡ Ok tt

  -- after any calls, whatever is refused among them, the agents 1 to l are in the same section
  abbrev pub SameSection : Type 0
  SameSection =
      (ms : List Mark) (n m l : ℕ) → standoff_answer R (blank_world P ms) n m ≡ Ok tt → SmallestCommonFactor n m l →
      (cs : List Call) (j k : ℕ) → 1 ≤ j → j ≤ l → 1 ≤ k → k ≤ l →
      section_answer (play R (after_standoff R (blank_world P ms) n m) cs).rig j ≡ section_answer (play R (after_standoff R (blank_world P ms) n m) cs).rig k

  -- after any calls, nobody holds
  abbrev pub NobodyHolds : Type 0
  NobodyHolds =
      (ms : List Mark) (n m : ℕ) → standoff_answer R (blank_world P ms) n m ≡ Ok tt →
      (cs : List Call) (k : ℕ) → section_answer (play R (after_standoff R (blank_world P ms) n m) cs).rig k ≢ Ok Holding
