-- Worked examples: cell counts, a short file, a whole plan with its report, agents alone, and two stand-offs. Assumes nothing.
use Rattle.std.specs.Prelude.{◌≡◌, ℕ, ◌+◌, ◌*◌, true, List, [], ◌∷◌, ◌++◌, map, length, replicate, is_ok, Ok, Err, codes, Result}
use Rattle.std.specs.List.{range_with_len}
use Rattle.numbers.specs.Factors.{CoprimeUpTo}
use Rattle.numbers.specs.Names.{listed}
use Rattle.refusal.specs.declared.Refusal.{Refusal}
use Rattle.refusal.specs.declared.Refusal.TheVariants.{FileLength, FileCells, CommonFactor, NoCommonFactor}
use Rattle.plan.specs.Accepted.{Between}
use Rattle.plan.specs.Bytes.{byte}
use Rattle.plan.specs.Checks.{header_of, header_check, decoded}
use Rattle.plan.specs.Plans.{plan_at}
use Rattle.plan.specs.declared.event.Event.{Event}
use Rattle.cells.specs.declared.mark.Mark.{Mark}
use Rattle.cells.specs.declared.mark.Mark.TheVariants.{Empty, Owner}
use Rattle.rules.specs.declared.agent.Section.TheVariants.{Asking}
use Rattle.rule_read_write.specs.declared.phase.ReadWritePhase.{ReadWritePhase}
use Rattle.model.specs.Meanings.{Meaning, read_and_write, by_majority, by_ladder}
use Rattle.model.specs.Rigs.{World, entry, section_answer, run}
use Rattle.model.specs.Loads.{blank_world, load_answer, after_load, standoff_answer, after_standoff}
use Rattle.model.specs.Rounds.{rounds}
use Rattle.model.specs.Examples.{two_agents, two_requests}
use Rattle.model.specs.declared.Round.TheVariants.{Request, Step}
use Rattle.lone.specs.Lone.{HoldsAt}
use Rattle.report.specs.Reports.{report_text}
use Rattle.worked.specs.declared.CellCounts.{CellCounts}

-- a file of a good length, of version 1 and of that rule, that names n agents and m cells; its other bytes are any
pub record Opens (rule n m : ℕ) (file : List ℕ) : Type 0 where
  pub long : Between 12 65535 (length file)
  pub version : byte file 0 ≡ 1
  pub same_rule : byte file 1 ≡ rule
  pub agents : byte file 2 ≡ n
  pub cells : byte file 3 ≡ m

-- every such file, for a rig of any rule, is refused with e
abbrev pub Refused : ℕ → ℕ → Refusal → Type 0
Refused n m e = (rule : ℕ) (file : List ℕ) → Opens rule n m file → decoded rule file ≡ Err e

-- every such file passes all checks of its header, so none of them is refused for a common factor
pub record Passes (n m : ℕ) : Type 0 where
  pub coprime : CoprimeUpTo n m
  pub header : (rule : ℕ) (file : List ℕ) → Opens rule n m file → header_check rule (header_of file) ≡ Ok tt
  pub never : (rule : ℕ) (file : List ℕ) → Opens rule n m file → (l : ℕ) → decoded rule file ≡ Err (CommonFactor l) → ⊥

abbrev pub Judged : ℕ → ℕ → Result (Unit {0}) Refusal → Type 0
Judged n m (Ok u) = Passes n m
Judged n m (Err e) = Refused n m e

-- what is answered about each number of cells
abbrev pub verdicts : CellCounts
verdicts = record {
  three_over_five = Ok tt;
  three_over_twenty_five = Ok tt;
  three_over_four = Err (CommonFactor 2);
  three_over_nine = Err (CommonFactor 3);
  five_over_twenty_five = Err (CommonFactor 5);
  over_one = Err FileCells;
  over_sixty_five = Err FileCells;
}

-- the verdicts are those of all files; one cell and sixty-five are refused for every good number of agents
pub record EveryFile (v : CellCounts) : Type 0 where
  pub three_over_five : Judged 3 5 v.three_over_five
  pub three_over_twenty_five : Judged 3 25 v.three_over_twenty_five
  pub three_over_four : Judged 3 4 v.three_over_four
  pub three_over_nine : Judged 3 9 v.three_over_nine
  pub five_over_twenty_five : Judged 5 25 v.five_over_twenty_five
  pub over_one : (n : ℕ) → Between 2 16 n → Judged n 1 v.over_one
  pub over_sixty_five : (n : ℕ) → Between 2 16 n → Judged n 65 v.over_sixty_five

-- a plan of rule 1 for three agents 1, 2 and 3 that call every cell by its own name, without events
abbrev pub three_agents : ℕ → List ℕ
three_agents m =
    (1 ∷ 1 ∷ 3 ∷ m ∷ 0 ∷ 12 ∷ 0 ∷ 18 ∷ 0 ∷ (18 + 3 * m) ∷ 0 ∷ 0 ∷ []) ++ (0 ∷ 1 ∷ 0 ∷ 2 ∷ 0 ∷ 3 ∷ []) ++ range_with_len 1 m ++ range_with_len 1 m ++ range_with_len 1 m

-- such a plan over m cells is accepted
abbrev pub Accepted : ℕ → Type 0
Accepted m = is_ok (decoded 1 (three_agents m)) ≡ true

-- version 1, rule 1, two agents over three cells, the offsets of the three parts and the number of events; identities 700 and 41; two tables; events
abbrev pub example_plan : List ℕ
example_plan =
    (0x01 ∷ 0x01 ∷ 0x02 ∷ 0x03 ∷ 0x00 ∷ 0x0c ∷ 0x00 ∷ 0x10 ∷ 0x00 ∷ 0x16 ∷ 0x00 ∷ 0x15 ∷ []) ++
    (0x02 ∷ 0xbc ∷ 0x00 ∷ 0x29 ∷ []) ++
    (0x01 ∷ 0x02 ∷ 0x03 ∷ 0x02 ∷ 0x03 ∷ 0x01 ∷ []) ++
    (0x01 ∷ 0x01 ∷ 0x01 ∷ 0x02 ∷ []) ++
    (0x02 ∷ 0x01 ∷ 0x02 ∷ 0x02 ∷ 0x02 ∷ 0x01 ∷ 0x02 ∷ 0x02 ∷ 0x02 ∷ 0x01 ∷ 0x02 ∷ 0x02 ∷ 0x02 ∷ 0x01 ∷ 0x02 ∷ 0x02 ∷ 0x02 ∷ 0x01 ∷ 0x02 ∷ 0x02 ∷ []) ++
    (0x02 ∷ 0x01 ∷ 0x02 ∷ 0x01 ∷ 0x02 ∷ 0x01 ∷ 0x02 ∷ 0x01 ∷ []) ++
    (0x02 ∷ 0x02 ∷ 0x02 ∷ 0x02 ∷ 0x02 ∷ 0x02 ∷ []) ++
    (0x02 ∷ 0x01 ∷ 0x03 ∷ 0x01 ∷ [])

-- its own events, as the plan answers them
abbrev pub example_events : List Event
example_events = (plan_at (header_of example_plan) example_plan).events

abbrev pub line : List ℕ → List ℕ
line text = text ++ (10 ∷ [])

abbrev pub example_report : List ℕ
example_report =
    line (codes "agents 2 cells 3 rule 1") ++
    line (codes "agent 1 asking steps 10 entries 0 refused 1") ++
    line (codes "agent 2 holding steps 8 entries 1 refused 0") ++
    line (codes "cell 1 owner 41") ++
    line (codes "cell 2 owner 41") ++
    line (codes "cell 3 owner 41") ++
    line (codes "crowd 2 holder 2")

-- a blank rig of rule 1 over three empty cells
abbrev pub blank_example : World ReadWritePhase
blank_example = blank_world ReadWritePhase (replicate 3 Empty)

-- the plan is accepted and loaded, and the report after its events is that text
pub record ExamplePlan : Type 0 where
  pub says : decoded 1 example_plan ≡ Ok (two_agents two_requests)
  pub loads : load_answer read_and_write blank_example example_plan ≡ Ok tt
  pub report : report_text 1 (run read_and_write (after_load read_and_write blank_example example_plan) example_events) ≡ example_report

-- from every accepted plan of two agents over three cells, whatever its tables and identities, either agent alone holds after exactly so many steps
abbrev pub TwoOverThree : {P : Type 0} → Meaning P → ℕ → Type 0
TwoOverThree {P} R steps =
    (ms : List Mark) (file : List ℕ) → load_answer R (blank_world P ms) file ≡ Ok tt → byte file 2 ≡ 2 → byte file 3 ≡ 3 →
    (k : ℕ) → Between 1 2 k → HoldsAt R (after_load R (blank_world P ms) file) k steps

-- two agents do not stand off over three cells, whatever store the blank rig is over
abbrev pub NoStandoffOverThree : {P : Type 0} → Meaning P → Type 0
NoStandoffOverThree {P} R = (ms : List Mark) → standoff_answer R (blank_world P ms) 2 3 ≡ Err NoCommonFactor

-- two agents stand off over four empty cells
abbrev pub over_four : {P : Type 0} → Meaning P → World P
over_four {P} R = after_standoff R (blank_world P (replicate 4 Empty)) 2 4

-- what each agent calls 1, 2 and so on, agent by agent
abbrev pub tables : {P : Type 0} → World P → List (List ℕ)
tables w = map (λ s. listed (entry s) w.rig.cells) w.rig.seats

pub record StandoffOverFour {P : Type 0} (R : Meaning P) : Type 0 where
  pub loads : standoff_answer R (blank_world P (replicate 4 Empty)) 2 4 ≡ Ok tt
  pub turned : tables (over_four R) ≡ (1 ∷ 2 ∷ 3 ∷ 4 ∷ []) ∷ (3 ∷ 4 ∷ 1 ∷ 2 ∷ []) ∷ []

-- by rule 1 after a request round and five step rounds
abbrev pub after_five : World ReadWritePhase
after_five = rounds read_and_write (over_four read_and_write) (Request ∷ replicate 5 Step)

pub record AfterFiveRounds : Type 0 where
  pub cells : after_five.store ≡ map Owner (1 ∷ 1 ∷ 2 ∷ 2 ∷ [])
  pub first : section_answer after_five.rig 1 ≡ Ok Asking
  pub second : section_answer after_five.rig 2 ≡ Ok Asking

pub record WorkedExamples : Type 0 where
  -- numbers of cells, and a file that is too short
  pub cell_counts : EveryFile verdicts
  pub accepted_over_five : Accepted 5
  pub accepted_over_twenty_five : Accepted 25
  pub eleven_bytes : (rule : ℕ) (file : List ℕ) → length file ≡ 11 → decoded rule file ≡ Err FileLength
  -- a whole plan
  pub plan : ExamplePlan
  -- two agents over three cells, one of them alone
  pub registers_alone : TwoOverThree read_and_write 7
  pub majority_alone : TwoOverThree by_majority 6
  pub ladder_alone : TwoOverThree by_ladder 12
  -- stand-offs of two agents over three cells and over four
  pub registers_over_three : NoStandoffOverThree read_and_write
  pub majority_over_three : NoStandoffOverThree by_majority
  pub ladder_over_three : NoStandoffOverThree by_ladder
  pub registers_over_four : StandoffOverFour read_and_write
  pub majority_over_four : StandoffOverFour by_majority
  pub ladder_over_four : StandoffOverFour by_ladder
  pub five_rounds : AfterFiveRounds
