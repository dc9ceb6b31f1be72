-- The lines of a report. Assumes nothing.
use Rattle.std.specs.Prelude.{ℕ, List, [], ◌∷◌, ◌++◌, Some, None, codes, decimal, Option}
use Rattle.cells.specs.Marks.{mark_words}
use Rattle.cells.specs.declared.mark.Mark.{Mark}
use Rattle.rules.specs.declared.agent.Section.{Section}
pub use Rattle.rules.specs.Sections.{section_word}
use Rattle.model.specs.declared.Figures.{Figures}

-- the byte that ends a line
abbrev pub line_end : List ℕ
line_end = 10 ∷ []

-- the holder's number, 0 where nobody holds
abbrev pub holder_number : Option ℕ → ℕ
holder_number None = 0
holder_number (Some k) = k

-- `agents 2 cells 3 rule 1`
abbrev pub sizes_line : ℕ → ℕ → ℕ → List ℕ
sizes_line n m rule = codes "agents " ++ (decimal n ++ (codes " cells " ++ (decimal m ++ (codes " rule " ++ (decimal rule ++ line_end)))))

-- a label, and what is counted under it
abbrev pub counted : List ℕ → ℕ → List ℕ
counted label n = label ++ decimal n

-- `agent 2 holding steps 8 entries 1 refused 0`
abbrev pub agent_line : ℕ → Section → Figures → List ℕ
agent_line k s f =
    codes "agent "
    ++ (decimal k
    ++ (codes " "
    ++ (section_word s
    ++ (counted (codes " steps ") f.steps ++ (counted (codes " entries ") f.entries ++ (counted (codes " refused ") f.refused ++ line_end))))))

-- `cell 1 empty`, `cell 1 owner 41` or `cell 1 rung 2`
abbrev pub cell_line : ℕ → Mark → List ℕ
cell_line y k = codes "cell " ++ (decimal y ++ (codes " " ++ (mark_words k ++ line_end)))

-- `crowd 2 holder 2`
abbrev pub last_line : ℕ → Option ℕ → List ℕ
last_line crowd holder = codes "crowd " ++ (decimal crowd ++ (codes " holder " ++ (decimal (holder_number holder) ++ line_end)))
