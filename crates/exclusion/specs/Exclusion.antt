-- No two agents hold the window together. Assumes nothing.
use Rattle.std.specs.Prelude.{◌≡◌, ℕ, List, Ok}
use Rattle.cells.specs.declared.mark.Mark.{Mark}
use Rattle.rules.specs.declared.agent.Section.TheVariants.{Holding}
use Rattle.model.specs.Meanings.{Meaning}
use Rattle.model.specs.Rigs.{World, section_answer}
use Rattle.model.specs.Loads.{blank_world, load_answer, after_load, standoff_answer, after_standoff}
use Rattle.model.specs.Calls.{Call, play}

-- the section question answers holding for one agent at most
abbrev pub OneHolderAtMost : {P : Type 0} → World P → Type 0
OneHolderAtMost w = (j k : ℕ) → section_answer w.rig j ≡ Ok Holding → section_answer w.rig k ≡ Ok Holding → j ≡ k

-- from any accepted load, after any calls, whatever is refused among them
pub record NoTwoHolders {P : Type 0} (R : Meaning P) : Type 0 where
  pub on_plans : (ms : List Mark) (file : List ℕ) → load_answer R (blank_world P ms) file ≡ Ok tt → (cs : List Call) → OneHolderAtMost (play R (after_load R (blank_world P ms) file) cs)
  pub on_standoffs : (ms : List Mark) (n m : ℕ) → standoff_answer R (blank_world P ms) n m ≡ Ok tt → (cs : List Call) → OneHolderAtMost (play R (after_standoff R (blank_world P ms) n m) cs)
