-- Renumbering the cells and replacing the identities is invisible. Assumes nothing.
use Rattle.std.specs.Prelude.{◌≡◌, ℕ, ◌≤◌, List, Some, Ok, Result, ◌≢◌}
use Rattle.numbers.specs.Names.{named}
use Rattle.numbers.specs.Rows.{Distinct}
use Rattle.refusal.specs.declared.Refusal.{Refusal}
use Rattle.plan.specs.Checks.{decoded}
use Rattle.plan.specs.Plans.{Sayings, entry_named}
use Rattle.plan.specs.declared.event.Event.{Event}
use Rattle.cells.specs.declared.mark.Mark.{Mark}
use Rattle.cells.specs.declared.mark.Mark.TheVariants.{Empty, Owner, Rung}
use Rattle.model.specs.Meanings.{Meaning}
use Rattle.model.specs.Rigs.{World, answer, run, section_answer, figures_answer, holder, cell_answer}
use Rattle.model.specs.Loads.{blank_world, load_answer, after_load}

-- the second plan is the first with its cells renumbered by the permutation σ; its identities are its own
pub record Renumbers (σ : ℕ → ℕ) (p q : Sayings) : Type 0 where
  pub agents : q.agents ≡ p.agents
  pub cells : q.cells ≡ p.cells
  pub permutes : Distinct σ p.cells p.cells
  pub tables : (k x y : ℕ) → entry_named p k x ≡ Some y → entry_named q k x ≡ Some (σ y)

-- a mark and the same with identities replaced: an owner's mark of agent k of the first plan becomes one of agent k of the second, and every other mark stays
pub data Replaces (p q : Sayings) (a b : Result Mark Refusal) : Type 0 where
  empty : a ≡ Ok Empty → b ≡ Ok Empty → Replaces p q a b
  rung : (r : ℕ) → a ≡ Ok (Rung r) → b ≡ Ok (Rung r) → Replaces p q a b
  owner : (k i j : ℕ) → named p.identities k ≡ Some i → named q.identities k ≡ Some j → a ≡ Ok (Owner i) → b ≡ Ok (Owner j) → Replaces p q a b

module _ {P : Type 0} (R : Meaning P) where
  -- what calls and questions answer on the two rigs
  pub record Alike (σ : ℕ → ℕ) (p q : Sayings) (w v : World P) : Type 0 where
    pub answers : (e : Event) → answer R v e ≡ answer R w e
    pub sections : (k : ℕ) → section_answer v.rig k ≡ section_answer w.rig k
    pub figures : (k : ℕ) → figures_answer v.rig k ≡ figures_answer w.rig k
    pub holders : holder v.rig ≡ holder w.rig
    pub cells : (y : ℕ) → 1 ≤ y → y ≤ p.cells → Replaces p q (cell_answer w y) (cell_answer v (σ y))

  -- two rigs that were loaded with such plans, over whatever stores, answer alike after every list of requests, steps and leaves
  abbrev pub RenumberingInvisible : Type 0
  RenumberingInvisible =
      (σ : ℕ → ℕ) (p q : Sayings) (ms ns : List Mark) (file other : List ℕ) →
      decoded R.number file ≡ Ok p → load_answer R (blank_world P ms) file ≡ Ok tt →
      decoded R.number other ≡ Ok q → load_answer R (blank_world P ns) other ≡ Ok tt →
      Renumbers σ p q →
      (es : List Event) → Alike σ p q (run R (after_load R (blank_world P ms) file) es) (run R (after_load R (blank_world P ns) other) es)

-- two accepted files whose plans differ by a renumbering that moves every cell, and in every identity
pub record TwinFiles {P : Type 0} (R : Meaning P) (ms : List Mark) (file other : List ℕ) : Type 0 where
  pub renumbering : ℕ → ℕ
  pub plan : Sayings
  pub twin : Sayings
  pub says : decoded R.number file ≡ Ok plan
  pub accepted : load_answer R (blank_world P ms) file ≡ Ok tt
  pub twin_says : decoded R.number other ≡ Ok twin
  pub twin_accepted : load_answer R (blank_world P ms) other ≡ Ok tt
  pub renumbers : Renumbers renumbering plan twin
  pub moves : (y : ℕ) → 1 ≤ y → y ≤ plan.cells → renumbering y ≢ y
  pub differs : (k : ℕ) → 1 ≤ k → k ≤ plan.agents → named plan.identities k ≢ named twin.identities k
