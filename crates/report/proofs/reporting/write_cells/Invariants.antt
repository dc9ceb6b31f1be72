use Rattle.std.proofs.Common.{◌+◌, ◌-◌, ◌*◌, ◌≤◌, length}
use Rattle.rig.specs.Worlds.{world}
use Rattle.report.specs.Reports.{cell_lines}
use Rattle.report.specs.Sheets.{Puts}
use Rattle.report.proofs.reporting.write_cells.Given as goal

abbrev pub invariant-loop-name : goal.invariant-loop-name
invariant-loop-name g l =
    let told = cell_lines (world g.S.CellStore.marks l.rig) (l.name - 1) in
    (1 ≤ l.name) × (l.name ≤ l.name-end + 1) × Puts l.initial.sheet told l.sheet × (length told ≤ 20 * (l.name - 1))
