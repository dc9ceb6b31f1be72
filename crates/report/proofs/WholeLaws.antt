-- No question about an agent or a cell that is there is refused. Assumes nothing.
use Rattle.std.proofs.Common.{not, length, Ok, ap}
use Rattle.numbers.proofs.RowLaws.{within_from}
use Rattle.refusal.specs.Checks.{◌then◌, refuse_if}
use Rattle.refusal.specs.declared.Refusal.TheVariants.{NoSuchAgent, NoSuchCell}
use Rattle.cells.specs.Marks.{mark_at}
use Rattle.model.specs.Rigs.{World, agents, section_at, figure_at}
use Rattle.report.specs.Reports.{Whole, agent_told, cell_told}

pub whole : {P : Type 0} (w : World P) → Whole w
whole w = record {
  every_agent = λ k low high. ap (λ b.
      agent_told k (refuse_if (not b) (NoSuchAgent k) then Ok (section_at w.rig k)) (refuse_if (not b) (NoSuchAgent k) then Ok (record {
        steps = figure_at (λ s. s.steps) w.rig k;
        entries = figure_at (λ s. s.entries) w.rig k;
        refused = figure_at (λ s. s.refused) w.rig k;
        heard = w.rig.heard;
        crowd = w.rig.crowd;
      }))) (within_from 1 (agents w.rig) k low high);
  every_cell = λ y low high. ap (λ b. cell_told y (refuse_if (not b) (NoSuchCell y) then Ok (mark_at w.store y))) (within_from 1 (length w.store) y low high);
}
