use Rattle.std.proofs.Common.{◌≡◌, take, count_by}
use Rattle.model.specs.Rigs.{is_asking}
use Rattle.rig.proofs.seats.Seats.asking.Given as goal

-- as many as ask among the seats so far
abbrev pub invariant-loop-seat : goal.invariant-loop-seat
invariant-loop-seat g l = l.asking ≡ count_by (λ s. is_asking s.agent.section) (take l.seat-index l.seat-items)
