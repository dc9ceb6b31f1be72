-- What a renumbered store means, given what the store below means. Assumes nothing.
use Rattle.std.specs.Prelude.{ℕ, cond, List, length, is_ok, Ok, Result}
use Rattle.refusal.specs.Checks.{◌then◌, Check}
use Rattle.refusal.specs.declared.Refusal.{Refusal}
use Rattle.cells.specs.Marks.{name_check}
use Rattle.cells.specs.declared.mark.Mark.{Mark}
use Rattle.renumbered.specs.Renumberings.{entry, sigma, renumbered_marks, row_check}
use Rattle.renumbered.specs.declared.numbering.Numbering.{Numbering}
use Rattle.renumbered.specs.declared.renumbered.Renumbered.{Renumbered}

-- the name below of name y over c cells
abbrev pub by_table : Numbering → ℕ → ℕ → ℕ
by_table n = sigma n (length n)

module _ {S : Type 0} (marks : S → List Mark) (s : Renumbered S) where
  abbrev pub cells_below : ℕ
  cells_below = length (marks s.store)

  -- the name below that name y stands for
  abbrev pub stands_for : ℕ → ℕ
  stands_for = by_table s.numbering cells_below

  abbrev pub name_answer : ℕ → Result ℕ Refusal
  name_answer y = name_check cells_below y then Ok (stands_for y)

  abbrev pub marks_above : List Mark
  marks_above = renumbered_marks stands_for (marks s.store)

  -- after a renumbering: by the row where it is accepted, whatever stood for the names before; else as before
  abbrev pub row_answer : List ℕ → Check
  row_answer row = row_check row cells_below

  abbrev pub name_after : List ℕ → ℕ → ℕ
  name_after row y = cond (is_ok (row_answer row)) (entry row y) (stands_for y)

  abbrev pub marks_after : List ℕ → List Mark
  marks_after row = cond (is_ok (row_answer row)) (renumbered_marks (entry row) (marks s.store)) marks_above

-- lent memory is that of the store below
abbrev pub lender_above : {S : Type 0} → (S → ℕ) → Renumbered S → ℕ
lender_above lender s = lender s.store
