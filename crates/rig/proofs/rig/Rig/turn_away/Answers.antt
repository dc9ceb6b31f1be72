use Rattle.std.proofs.Common.{◌+◌, map, is_some, sym, refl, ap, ◌∙◌, arith}
use Rattle.rig.specs.Seating.{seated_in}
use Rattle.rig.specs.Worlds.{seat_over}
use Rattle.rig.proofs.BoundLaws.{peak_below, busiest_put}
use Rattle.rig.proofs.CallLaws.{seats_put, at_there, at_none, seated_as}
use Rattle.rig.proofs.rig.Rig.turn_away.Goals as goal

pub overflow_add-seat : goal.overflow_add-seat
overflow_add-seat g c =
    let known = peak_below (seated_in c.args.self.now.seats) c.args.k c.in-Some.seat.now c.in-Some.ensures.found in
    omega (arith, known, c.args.self.now.counted)

pub invariant_of-self-clause-counted : goal.invariant_of-self-clause-counted
invariant_of-self-clause-counted g c =
    let old = c.args.self.now in
    let known = peak_below (seated_in old.seats) c.args.k c.in-Some.seat.now c.in-Some.ensures.found in
    let put = c.seat.follows.holds _ (ap is_some c.in-Some.is) in
    busiest_put (seated_in old.seats) _ c.args.k _ (old.heard + 1) put (omega (arith, old.counted)) (omega (arith, known, old.counted))

pub returns-in-Some : goal.returns-in-Some
returns-in-Some g c =
    let old = c.args.self.now in
    let put = c.seat.follows.holds _ (ap is_some c.in-Some.is) in
    record {
      after =
          ap (seated_as old.cells (old.heard + 1) old.crowd old.standoff (g.S.CellStore.marks old.store)) (seats_put old.cells _ _ c.args.k _ put)
          ∙ sym (at_there old.cells (seated_in old.seats) c.args.k c.in-Some.seat.now _ _ c.in-Some.ensures.found);
      same = refl;
    }

pub returns-in_default : goal.returns-in_default
returns-in_default g c =
    let old = c.args.self.now in
    record {
      after =
          ap (λ xs. seated_as old.cells old.heard old.crowd old.standoff (g.S.CellStore.marks old.store) (map (seat_over old.cells) xs)) c.seat.follows.holds-at-none
          ∙ sym (at_none old.cells (seated_in old.seats) c.args.k _ _ c.in_default.ensures.found);
      same = refl;
    }
