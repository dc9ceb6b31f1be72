use Rattle.std.proofs.Common.{ℕ, replicate, arith}
use lib.ListN.{length-replicate}
use Rattle.rig.specs.Worlds.{world}
use Rattle.report.specs.Reports.{report_text}
use Rattle.standoffs.proofs.ToldLaws.{extended, report_front}
use Rattle.standoffs.proofs.telling.tell_report.Goals as goal

pub returns : goal.returns
returns g c =
    record {
      after = extended c.extend_from_slice.result _ _ _ _ c.extend_from_slice.ensures.items
          (report_front (report_text g.R.Rule.NUMBER (world g.S.CellStore.marks c.args.rig.now)) (replicate 2336 0) c.report.new.buffer c.in-Ok.length c.report.result (omega (arith, c.report.ensures.fits, length-replicate {A = ℕ} 2336 0)) c.in-Ok.is c.report.ensures.value c.report.ensures.after);
    }
