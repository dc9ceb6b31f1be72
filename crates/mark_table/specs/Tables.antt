-- The marks that a mark table means. Assumes nothing.
use Rattle.std.specs.Prelude.{List, take}
use Rattle.cells.specs.declared.mark.Mark.{Mark}
use Rattle.mark_table.specs.declared.table.MarkTable.{MarkTable}

abbrev pub table_marks : MarkTable → List Mark
table_marks t = take t.cells t.room
