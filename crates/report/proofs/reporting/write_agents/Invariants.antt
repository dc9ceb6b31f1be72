use Rattle.std.proofs.Common.{◌+◌, ◌-◌, ◌≤◌}
use Rattle.rig.specs.Worlds.{rig_of}
use Rattle.report.specs.Reports.{agent_lines}
use Rattle.report.specs.Sheets.{Puts}
use Rattle.report.proofs.reporting.write_agents.Given as goal

abbrev pub invariant-loop-k : goal.invariant-loop-k
invariant-loop-k g l = (1 ≤ l.k) × (l.k ≤ l.k-end + 1) × Puts l.initial.sheet (agent_lines (rig_of l.rig) (l.k - 1)) l.sheet
