-- How long one agent takes when only its calls are heard. Assumes nothing.
use Rattle.std.specs.Prelude.{◌≡◌, ℕ, ◌+◌, ◌*◌, ◌<◌, ◌≤◌, List, ◌∷◌, length, replicate, Ok}
use Rattle.plan.specs.declared.event.Event.{Event}
use Rattle.plan.specs.declared.event.Event.TheVariants.{Request, Step}
use Rattle.cells.specs.declared.mark.Mark.{Mark}
use Rattle.rules.specs.declared.agent.Section.TheVariants.{Asking, Holding}
use Rattle.model.specs.Meanings.{Meaning}
use Rattle.model.specs.Rigs.{World, section_answer, run}
use Rattle.model.specs.Loads.{blank_world, load_answer, after_load}

-- a request of agent k and t steps
abbrev pub alone : ℕ → ℕ → List Event
alone k t = Request k ∷ replicate t (Step k)

-- by rule 1, 2 and 3, with n agents and m cells
abbrev pub register_steps : ℕ → ℕ → ℕ
register_steps n m = 2 * m + 1

abbrev pub majority_steps : ℕ → ℕ → ℕ
majority_steps n m = 2 * m

abbrev pub ladder_steps : ℕ → ℕ → ℕ
ladder_steps n m = 2 * m * n

module _ {P : Type 0} (R : Meaning P) where
  -- after its request agent k holds after `steps` steps, and after fewer it asks
  pub record HoldsAt (w : World P) (k steps : ℕ) : Type 0 where
    pub holds : section_answer (run R w (alone k steps)).rig k ≡ Ok Holding
    pub asks : (t : ℕ) → t < steps → section_answer (run R w (alone k t)).rig k ≡ Ok Asking

  -- from any accepted load of n agents over m cells, each agent alone holds after exactly T n m steps
  abbrev pub HoldsAlone : (ℕ → ℕ → ℕ) → Type 0
  HoldsAlone T =
      (ms : List Mark) (file : List ℕ) → load_answer R (blank_world P ms) file ≡ Ok tt → (k : ℕ) → 1 ≤ k → k ≤ length (after_load R (blank_world P ms) file).rig.seats →
      HoldsAt (after_load R (blank_world P ms) file) k (T (length (after_load R (blank_world P ms) file).rig.seats) (after_load R (blank_world P ms) file).rig.cells)
