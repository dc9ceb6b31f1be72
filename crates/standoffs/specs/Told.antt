-- A stand-off as it is told: what each round answered, and then the report. Assumes nothing.
use Rattle.std.specs.Prelude.{ℕ, min, List, [], ◌∷◌, ◌++◌, replicate, Ok, Err, codes}
use Rattle.refusal.specs.Checks.{Check}
use Rattle.refusal.specs.Refusals.{refusal_line}
use Rattle.cells.specs.declared.mark.Mark.TheVariants.{Empty}
use Rattle.model.specs.Meanings.{Meaning, read_and_write, by_majority, by_ladder}
use Rattle.model.specs.Rigs.{World, after_check}
use Rattle.model.specs.Loads.{blank_world, standoff_answer, after_standoff}
use Rattle.model.specs.Rounds.{round_answer, after_round, rounds}
use Rattle.model.specs.declared.Round.{Round}
use Rattle.report.specs.Lines.{line_end}
use Rattle.report.specs.Reports.{report_text}
use Rattle.plan.specs.declared.rule.PublishedRule.{PublishedRule}
use Rattle.plan.specs.declared.rule.PublishedRule.TheVariants.{ReadWrite, Majority, Ladder}

-- `ok`, or the refusal
abbrev pub answer_line : Check → List ℕ
answer_line (Ok u) = codes "ok" ++ line_end
answer_line (Err e) = refusal_line e ++ line_end

module _ {P : Type 0} (R : Meaning P) where
  -- a line for each round
  abbrev pub round_lines : World P → List Round → List ℕ
  round_lines w [] = []
  round_lines w (r ∷ rs) = answer_line (round_answer w r) ++ round_lines (after_round R w r) rs

  abbrev pub rounds_told : World P → List Round → List ℕ
  rounds_told w rs = round_lines w rs ++ report_text R.number (rounds R w rs)

  -- where the load is refused, only the refusal
  abbrev pub told : World P → ℕ → ℕ → List Round → List ℕ
  told w n m rs = after_check (standoff_answer R w n m) (rounds_told (after_standoff R w n m) rs) (answer_line (standoff_answer R w n m))

  -- over a new mark table
  abbrev pub standoff_told : ℕ → ℕ → List Round → List ℕ
  standoff_told n m rs = told (blank_world P (replicate (min m 64) Empty)) n m rs

abbrev pub chosen_told : PublishedRule → ℕ → ℕ → List Round → List ℕ
chosen_told ReadWrite n m rs = standoff_told read_and_write n m rs
chosen_told Majority n m rs = standoff_told by_majority n m rs
chosen_told Ladder n m rs = standoff_told by_ladder n m rs
