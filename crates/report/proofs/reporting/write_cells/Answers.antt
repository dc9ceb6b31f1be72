use Rattle.std.proofs.Common.{◌*◌, ◌≤◌, length, arith}
use Rattle.rig.specs.Worlds.{world}
use Rattle.report.specs.Reports.{cell_lines}
use Rattle.report.proofs.LengthLaws.{lines_none_short, lines_longer, lines_all_short}
use Rattle.report.proofs.LineLaws.{lines_none, lines_put, lines_all}
use Rattle.report.proofs.reporting.write_cells.Goals as goal

pub loop-name-init : goal.loop-name-init
loop-name-init g c = (omega arith, omega arith, lines_none _ c.args.sheet.now, lines_none_short _)

pub loop-name-preserved : goal.loop-name-preserved
loop-name-preserved g c = (
  omega arith,
  omega arith,
  lines_put _ c.loop-name.name _ c.loop-name.invariant.0 (omega arith) c.loop-name.invariant.2 c.write_cell.ensures.after,
  lines_longer _ c.loop-name.name _ 20 c.loop-name.invariant.0 (omega arith) c.loop-name.invariant.3 (c.write_cell.ensures.short (omega arith)),
)

pub returns : goal.returns
returns g c =
    let w = world g.S.CellStore.marks c.args.rig.now in
    let short : length (cell_lines w w.rig.cells) ≤ 20 * w.rig.cells = lines_all_short _ c.loop-name.name _ 20 (omega arith) c.loop-name.invariant.3 in
    record { after = lines_all _ c.loop-name.name _ (omega arith) c.loop-name.invariant.2; short = omega (arith, short) }

pub returns-2 : goal.returns-2
returns-2 g c =
    let w = world g.S.CellStore.marks c.args.rig.now in
    let short : length (cell_lines w w.rig.cells) ≤ 20 * w.rig.cells =
    lines_longer _ c.loop-name.name _ 20 c.loop-name.invariant.0 (omega arith) c.loop-name.invariant.3 (c.write_cell.ensures.short (omega arith)) in
    record {
      after = lines_put _ c.loop-name.name _ c.loop-name.invariant.0 (omega arith) c.loop-name.invariant.2 c.write_cell.ensures.after;
      short = omega (arith, short);
    }
