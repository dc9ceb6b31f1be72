use Rattle.std.proofs.Common.{◌-◌, ◌≤◌, max}
use Rattle.rig.specs.Seating.{seated_in, MadeOf}
use Rattle.rig.proofs.seats.Seats.fill.Given as goal

abbrev pub invariant-loop-agent : goal.invariant-loop-agent
invariant-loop-agent g l = record {
  made : MadeOf (goal.F-post g l.made) (seated_in l.self) (l.agent - 1);
  in_range : l.agent ≤ max l.agents 1;
}
