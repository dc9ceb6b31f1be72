-- Cells by other names. Assumes nothing.
use Rattle.std.specs.Prelude.{ℕ, ◌-◌, Bool, cond, not, ◌&&◌, List, length, is_some, ◌==◌, slice_index}
use Rattle.numbers.specs.Names.{listed}
use Rattle.numbers.specs.Rows.{within, first_misfit}
use Rattle.refusal.specs.Checks.{◌then◌, Check, refuse_if, refuse_at}
use Rattle.refusal.specs.declared.Refusal.TheVariants.{RowLength, BadRenumbering}
use Rattle.cells.specs.Marks.{mark_at}
use Rattle.cells.specs.declared.mark.Mark.{Mark}

-- the number that a row has at name y
abbrev pub entry : List ℕ → ℕ → ℕ
entry row y = slice_index row (y - 1)

-- the first `count` names of a table are the names from 1 to count, each once
unfoldable pub arranged : List ℕ → ℕ → Bool
arranged names count = not (is_some (first_misfit (entry names) count count))

-- the name below of name y over c cells, by a table of `count` names: where count is not c, y is no name or the table is not arranged, y stays
unfoldable pub sigma : List ℕ → ℕ → ℕ → ℕ → ℕ
sigma names count c y = cond (count == c && (within 1 c y && arranged names count)) (entry names y) y

-- the marks that stand above, where name y is name σ y of the list below
unfoldable pub renumbered_marks : (ℕ → ℕ) → List Mark → List Mark
renumbered_marks σ ms = listed (λ y. mark_at ms (σ y)) (length ms)

-- a row for c cells has an entry for each, and they are the names from 1 to c, each once
abbrev pub row_check : List ℕ → ℕ → Check
row_check row c =
    refuse_if (not (length row == c)) RowLength then
    refuse_at BadRenumbering (first_misfit (entry row) c c)
