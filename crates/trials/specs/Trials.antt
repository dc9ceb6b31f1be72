-- The trial of a plan file: its run over empty cells under the rule that it asks for, and the report in a caller's buffer. Assumes nothing.
use Rattle.std.specs.Prelude.{ℕ, min, cond, List, ◌++◌, length, replicate, Ok, Err, Result, ◌==◌}
use Rattle.refusal.specs.Checks.{Check}
use Rattle.refusal.specs.Refusals.{refusal_line}
use Rattle.refusal.specs.declared.Refusal.{Refusal}
use Rattle.plan.specs.Bytes.{byte}
use Rattle.plan.specs.Plans.{rule_asked}
use Rattle.cells.specs.declared.mark.Mark.{Mark}
use Rattle.cells.specs.declared.mark.Mark.TheVariants.{Empty}
use Rattle.model.specs.Meanings.{Meaning, read_and_write, by_majority, by_ladder}
use Rattle.model.specs.Rigs.{World, after_check}
use Rattle.model.specs.Loads.{blank_world, load_answer}
use Rattle.playing.specs.Runs.{after_run}
use Rattle.report.specs.Lines.{line_end}
use Rattle.report.specs.Reports.{report_text, copy_answer, copy_after}

-- the cells that a file asks for: its fourth byte, 0 where that is missing
abbrev pub cells_asked : List ℕ → ℕ
cells_asked file = byte file 3

-- a table of so many empty cells, 64 at most
abbrev pub empty_cells : ℕ → List Mark
empty_cells m = replicate (min m 64) Empty

-- a refused load answers its refusal
abbrev pub unless_refused : {A : Type 0} → Check → Result A Refusal → Result A Refusal
unless_refused (Ok u) answer = answer
unless_refused (Err e) answer = Err e

-- what is shown of a load: the text where it is accepted, and the refusal's line where it is not
abbrev pub shown : Check → List ℕ → List ℕ
shown (Ok u) text = text
shown (Err e) text = refusal_line e ++ line_end

-- a blank rig over the cells that the file asks for
abbrev pub blank_over : (P : Type 0) → List ℕ → World P
blank_over P file = blank_world P (empty_cells (cells_asked file))

module _ {P : Type 0} (R : Meaning P) where
  -- the report after the load of the file and all its events
  abbrev pub run_text : World P → List ℕ → List ℕ
  run_text w file = report_text R.number (after_run R w file file)

  -- the refusal of the load, or what comes of copying the report
  abbrev pub run_answer : World P → List ℕ → List ℕ → Result ℕ Refusal
  run_answer w file buffer = unless_refused (load_answer R w file) (copy_answer (run_text w file) buffer)

  -- what is answered where the buffer is long enough: the refusal of the load, or the length of the report
  abbrev pub run_length : World P → List ℕ → Result ℕ Refusal
  run_length w file = unless_refused (load_answer R w file) (Ok (length (run_text w file)))

  -- the report at the front; where the load is refused, the buffer stays
  abbrev pub run_buffer : World P → List ℕ → List ℕ → List ℕ
  run_buffer w file buffer = after_check (load_answer R w file) (copy_after (run_text w file) buffer) buffer

  -- the report of the run, or the line of the load's refusal
  abbrev pub run_shown : World P → List ℕ → List ℕ
  run_shown w file = shown (load_answer R w file) (run_text w file)

  -- the same from a blank rig over the cells that the file asks for

  abbrev pub file_answer : List ℕ → List ℕ → Result ℕ Refusal
  file_answer file buffer = run_answer (blank_over P file) file buffer

  abbrev pub file_length : List ℕ → Result ℕ Refusal
  file_length file = run_length (blank_over P file) file

  abbrev pub file_buffer : List ℕ → List ℕ → List ℕ
  file_buffer file buffer = run_buffer (blank_over P file) file buffer

  abbrev pub file_shown : List ℕ → List ℕ
  file_shown file = run_shown (blank_over P file) file

-- one of three, by a rule's number
abbrev pub by_rule : {A : Type 0} → ℕ → A → A → A → A
by_rule rule first second third = cond (rule == 2) second (cond (rule == 3) third first)

-- under the rule that the file asks for

abbrev pub trial_answer : List ℕ → List ℕ → Result ℕ Refusal
trial_answer file buffer =
    by_rule (rule_asked file) (file_answer read_and_write file buffer) (file_answer by_majority file buffer) (file_answer by_ladder file buffer)

abbrev pub trial_length : List ℕ → Result ℕ Refusal
trial_length file = by_rule (rule_asked file) (file_length read_and_write file) (file_length by_majority file) (file_length by_ladder file)

abbrev pub trial_buffer : List ℕ → List ℕ → List ℕ
trial_buffer file buffer =
    by_rule (rule_asked file) (file_buffer read_and_write file buffer) (file_buffer by_majority file buffer) (file_buffer by_ladder file buffer)

-- all that is shown of the file
abbrev pub trial_text : List ℕ → List ℕ
trial_text file = by_rule (rule_asked file) (file_shown read_and_write file) (file_shown by_majority file) (file_shown by_ladder file)
