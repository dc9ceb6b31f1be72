-- Runs on the model, by computing. Assumes nothing.
use Rattle.std.specs.Prelude.{◌≡◌, ℕ, zero, suc, ◌-◌, List, [], ◌∷◌, ◌++◌, map, replicate, Some, Ok, Err, Option}
use Rattle.numbers.specs.Factors.{smallest_common_factor}
use Rattle.refusal.specs.Checks.{Check}
use Rattle.refusal.specs.declared.Refusal.TheVariants.{NoSuchAgent, NotHolding}
use Rattle.plan.specs.Plans.{Sayings}
use Rattle.plan.specs.declared.event.Event.{Event}
use Rattle.plan.specs.declared.event.Event.TheVariants.{Request, Step, Leave}
use Rattle.cells.specs.declared.mark.Mark.TheVariants.{Empty, Owner}
use Rattle.rules.specs.declared.agent.Section.{Section}
use Rattle.rules.specs.declared.agent.Section.TheVariants.{Asking, Holding}
use Rattle.rule_read_write.specs.declared.phase.ReadWritePhase.{ReadWritePhase}
use Rattle.model.specs.Meanings.{Meaning, read_and_write}
use Rattle.model.specs.Rigs.{Rig, World, section_at, section_answer, figure_at, holder, answer, run}
use Rattle.model.specs.Loads.{blank_world, loaded_world, load_answer, standoff_world, standoff_answer}
use Rattle.model.specs.Rounds.{round_answer, rounds}
use Rattle.model.specs.declared.Round.TheVariants as round

-- two agents, 700 and 41, over three cells that the second calls 2, 3, 1
abbrev pub two_agents : List Event → Sayings
two_agents events = record {
  rule = 1;
  agents = 2;
  cells = 3;
  identities = 700 ∷ 41 ∷ [];
  tables = (1 ∷ 2 ∷ 3 ∷ []) ∷ (2 ∷ 3 ∷ 1 ∷ []) ∷ [];
  events = events;
}

abbrev pub times_over : ℕ → List Event → List Event
times_over zero es = []
times_over (suc n) es = es ++ times_over n es

-- the world after some calls of two agents over three empty cells
abbrev pub ran : {P : Type 0} → Meaning P → List Event → World P
ran R es = run R (loaded_world R (two_agents es) (replicate 3 Empty)) es

-- agent 1 alone, after a request and some steps
abbrev pub alone : {P : Type 0} → Meaning P → ℕ → Section
alone R steps = section_at (ran R (Request 1 ∷ times_over steps (Step 1 ∷ []))).rig 1

-- alone, an agent holds after so many steps, and not one earlier
abbrev pub HoldsAfter : {P : Type 0} → Meaning P → ℕ → Type 0
HoldsAfter R steps = (alone R steps ≡ Holding) × (alone R (steps - 1) ≡ Asking)

-- both agents ask; five times each takes a step, the first one first; then four steps of the first, three of the second, one of the first, and its leave
abbrev pub two_requests : List Event
two_requests = Request 1 ∷ Request 2 ∷ times_over 5 (Step 1 ∷ Step 2 ∷ []) ++ times_over 4 (Step 1 ∷ []) ++ times_over 3 (Step 2 ∷ []) ++ (Step 1 ∷ Leave 1 ∷ [])

-- an agent's section and figures
pub record Told (s : Section) (taken won declined : ℕ) {P : Type 0} (g : Rig P) (k : ℕ) : Type 0 where
  pub section : section_at g k ≡ s
  pub steps : figure_at (λ t. t.steps) g k ≡ taken
  pub entries : figure_at (λ t. t.entries) g k ≡ won
  pub refused : figure_at (λ t. t.refused) g k ≡ declined

-- the second agent comes to hold with all cells its own, and the first is refused its leave
pub record AfterTwoRequests (winner : Option ℕ) (w : World ReadWritePhase) : Type 0 where
  pub first : Told Asking 10 0 1 w.rig 1
  pub second : Told Holding 8 1 0 w.rig 2
  pub cells : w.store ≡ replicate 3 (Owner 41)
  pub crowd : w.rig.crowd ≡ 2
  pub held : holder w.rig ≡ winner
  pub again : answer read_and_write w (Leave 1) ≡ Err (NotHolding 1)

-- a stand-off of two agents over four cells: a request round and five step rounds
abbrev pub stood_off : World ReadWritePhase
stood_off = rounds read_and_write (standoff_world read_and_write 2 2 4 (replicate 4 Empty)) (round.Request ∷ round.Step ∷ round.Step ∷ round.Step ∷ round.Step ∷ round.Step ∷ [])

-- each agent has half of the cells, and both go on asking
pub record HalfEach (owners : List ℕ) (w : World ReadWritePhase) : Type 0 where
  pub together : smallest_common_factor 2 4 ≡ Some 2
  pub cells : w.store ≡ map Owner owners
  pub first : section_answer w.rig 1 ≡ Ok Asking
  pub second : section_answer w.rig 2 ≡ Ok Asking
  pub third : section_answer w.rig 3 ≡ Err (NoSuchAgent 3)
  pub leave : round_answer w round.Leave ≡ Err (NotHolding 1)

-- three agents over two cells that all call 1 and 2: too few for them, since 2 has a factor in common with 2
abbrev pub too_few_cells : Sayings
too_few_cells = record {
  rule = 1;
  agents = 3;
  cells = 2;
  identities = 1 ∷ 2 ∷ 3 ∷ [];
  tables = (1 ∷ 2 ∷ []) ∷ (1 ∷ 2 ∷ []) ∷ (1 ∷ 2 ∷ []) ∷ [];
  events = [];
}

-- all ask and look; agent 1 writes cell 1 and is about to write cell 2 when agent 3 takes both, leaves, and has cell 2 still to clear; agent 1 comes to hold, agent 2 writes cell 1, agent 3 clears cell 2, and agent 2 writes it
abbrev pub overtaking : List Event
overtaking =
    (Request 1 ∷ Request 2 ∷ Request 3 ∷ Step 1 ∷ Step 2 ∷ Step 3 ∷ []) ++ times_over 2 (Step 1 ∷ []) ++ times_over 4 (Step 3 ∷ []) ++
    (Leave 3 ∷ []) ++ times_over 3 (Step 3 ∷ []) ++ times_over 4 (Step 1 ∷ []) ++ (Step 2 ∷ Step 3 ∷ []) ++ times_over 3 (Step 2 ∷ [])

-- the number of cells is refused; with it, two agents would hold together
pub record BothHold (one other : ℕ) : Type 0 where
  pub refused : smallest_common_factor 3 2 ≡ Some 2
  pub holds : section_at (run read_and_write (loaded_world read_and_write too_few_cells (replicate 2 Empty)) overtaking).rig one ≡ Holding
  pub holds_too : section_at (run read_and_write (loaded_world read_and_write too_few_cells (replicate 2 Empty)) overtaking).rig other ≡ Holding

-- what a blank rig of rule 1 over three empty cells answers to a stand-off load
abbrev pub standoff_over_three : ℕ → ℕ → Check
standoff_over_three n m = standoff_answer read_and_write (blank_world ReadWritePhase (replicate 3 Empty)) n m

-- and to a file of so many zero bytes
abbrev pub zeros_over_three : ℕ → Check
zeros_over_three bytes = load_answer read_and_write (blank_world ReadWritePhase (replicate 3 Empty)) (replicate bytes 0)
