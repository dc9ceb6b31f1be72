-- The table's room and the marks that it means. Assumes nothing.
use Rattle.std.proofs.Common.{◌≡◌, ℕ, ◌-◌, ◌<◌, length, get_or, take, set, Ok, sym, arith, length-take-le, get_or-take}
use lib.Seq.{take-set-lt}
use Rattle.cells.specs.declared.mark.Mark.{Mark}
use Rattle.cells.specs.declared.mark.Mark.TheVariants.{Empty}
use Rattle.cells.specs.Marks.{name_check, mark_at, put}
use Rattle.cells.proofs.StoreLaws.{accepted_name}
use Rattle.mark_table.specs.Tables.{table_marks}
use Rattle.mark_table.specs.declared.table.MarkTable.{MarkTable}

long : (t : MarkTable) → t.cells ≡ length (table_marks t)
long t = sym (length-take-le t.cells t.room (omega (arith, t.few, t.full)))

module _ (t : MarkTable) (n y : ℕ) (counted : n ≡ length (table_marks t)) (name : Ok tt ≡ name_check n y) where
  below : y - 1 < t.cells
  below = let w = accepted_name n y name in omega (arith, w.0, w.1, counted, long t)

  -- the mark in the room at a name
  pub there : get_or t.room (y - 1) Empty ≡ mark_at (table_marks t) y
  there = sym (get_or-take t.cells t.room (y - 1) Empty below)

  -- a change in the room is a change of the marks
  pub changes : (k : Mark) → take t.cells (set t.room (y - 1) k) ≡ put (table_marks t) y k
  changes k = take-set-lt t.cells t.room (y - 1) k below
