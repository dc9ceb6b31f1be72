-- The report of a rig, made of what its questions answer, and the buffer that takes it. Assumes nothing.
use Rattle.std.specs.Prelude.{◌≡◌, ℕ, zero, suc, ◌≤◌, cond, List, [], ◌++◌, length, drop, Ok, Err, Result, nat_le}
use Rattle.refusal.specs.declared.Refusal.{Refusal}
use Rattle.refusal.specs.declared.Refusal.TheVariants.{BufferTooShort}
use Rattle.cells.specs.Marks.{mark_at}
use Rattle.cells.specs.declared.mark.Mark.{Mark}
use Rattle.rules.specs.declared.agent.Section.{Section}
use Rattle.model.specs.Rigs.{World, Rig, agents, section_at, figure_at, section_answer, figures_answer, cell_answer, holder}
use Rattle.model.specs.declared.Figures.{Figures}
use Rattle.report.specs.Lines.{sizes_line, agent_line, cell_line, last_line}

-- the lines of the names 1 to n, one after another
unfoldable pub lines : (ℕ → List ℕ) → ℕ → List ℕ
lines line zero = []
lines line (suc n) = lines line n ++ line (suc n)

-- a line for what is answered, and none where a question is refused
abbrev pub agent_told : ℕ → Result Section Refusal → Result Figures Refusal → List ℕ
agent_told k (Ok s) (Ok f) = agent_line k s f
agent_told k (Ok s) (Err e) = []
agent_told k (Err e) (Ok f) = []
agent_told k (Err e) (Err d) = []

abbrev pub cell_told : ℕ → Result Mark Refusal → List ℕ
cell_told y (Ok k) = cell_line y k
cell_told y (Err e) = []

module _ {P : Type 0} where
  abbrev pub agent_lines : Rig P → ℕ → List ℕ
  agent_lines g n = lines (λ k. agent_told k (section_answer g k) (figures_answer g k)) n

  abbrev pub cell_lines : World P → ℕ → List ℕ
  cell_lines w n = lines (λ y. cell_told y (cell_answer w y)) n

  -- the whole report under the rule of that number; a blank rig has the first and the last line only
  abbrev pub report_text : ℕ → World P → List ℕ
  report_text number w =
      sizes_line (agents w.rig) w.rig.cells number
      ++ (agent_lines w.rig (agents w.rig) ++ (cell_lines w w.rig.cells ++ last_line w.rig.crowd (holder w.rig)))

  -- no line is missing: every agent has its line, and so has every cell that the store has
  pub record Whole (w : World P) : Type 0 where
    pub every_agent : (k : ℕ) → 1 ≤ k → k ≤ agents w.rig → agent_told k (section_answer w.rig k) (figures_answer w.rig k) ≡ agent_line k (section_at w.rig k) (record {
      steps = figure_at (λ s. s.steps) w.rig k;
      entries = figure_at (λ s. s.entries) w.rig k;
      refused = figure_at (λ s. s.refused) w.rig k;
      heard = w.rig.heard;
      crowd = w.rig.crowd;
    })
    pub every_cell : (y : ℕ) → 1 ≤ y → y ≤ length w.store → cell_told y (cell_answer w y) ≡ cell_line y (mark_at w.store y)

-- a text goes to the front of a buffer that is long enough, and what follows it there stays; a shorter buffer stays as it is
abbrev pub copy_answer : List ℕ → List ℕ → Result ℕ Refusal
copy_answer text buffer = cond (nat_le (length text) (length buffer)) (Ok (length text)) (Err BufferTooShort)

abbrev pub copy_after : List ℕ → List ℕ → List ℕ
copy_after text buffer = cond (nat_le (length text) (length buffer)) (text ++ drop (length text) buffer) buffer
