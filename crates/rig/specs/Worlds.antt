-- What a rig with its store means. Assumes nothing.
use Rattle.std.specs.Prelude.{ℕ, List, map, take}
use Rattle.cells.specs.declared.mark.Mark.{Mark}
use Rattle.model.specs.Rigs as model
use Rattle.rules.specs.declared.rule.Rule.{Ghosts}
use Rattle.rig.specs.Seating.{seated_in}
use Rattle.rig.specs.declared.rig.Rig.{Rig}
use Rattle.rig.specs.declared.seat.Seat.{Seat}

-- an agent over m cells: of its table, the first m entries count
abbrev pub seat_over : {P : Type 0} → ℕ → Seat P → model.Seat P
seat_over m s = record {
  table = take m s.table;
  agent = s.agent;
  steps = s.steps;
  entries = s.entries;
  refused = s.refused;
}

-- the rig without its store
abbrev pub rig_of : {S R P : Type 0} {r : Ghosts R P} → Rig S R P r → model.Rig P
rig_of g = record {
  cells = g.cells;
  seats = map (seat_over g.cells) (seated_in g.seats);
  heard = g.heard;
  crowd = g.crowd;
  standoff = g.standoff;
}

-- the rig with its store's marks
abbrev pub world : {S R P : Type 0} {r : Ghosts R P} → (S → List Mark) → Rig S R P r → model.World P
world marks g = record { rig = rig_of g; store = marks g.store }
