use Rattle.std.proofs.Common.{arith}
use Rattle.report.proofs.LineLaws.{lines_none, lines_put, lines_all}
use Rattle.report.proofs.reporting.write_agents.Goals as goal

pub loop-k-init : goal.loop-k-init
loop-k-init g c = (omega arith, omega arith, lines_none _ c.args.sheet.now)

pub loop-k-preserved : goal.loop-k-preserved
loop-k-preserved g c = (omega arith, omega arith, lines_put _ c.loop-k.k _ c.loop-k.invariant.0 (omega arith) c.loop-k.invariant.2 c.write_agent.ensures.after)

pub returns : goal.returns
returns g c = record { after = lines_all _ c.loop-k.k _ (omega arith) c.loop-k.invariant.2 }

pub returns-2 : goal.returns-2
returns-2 g c = record { after = lines_put _ c.loop-k.k _ c.loop-k.invariant.0 (omega arith) c.loop-k.invariant.2 c.write_agent.ensures.after }
