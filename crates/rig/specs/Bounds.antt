-- Bounds on what is counted of agents. Assumes nothing.
use Rattle.std.specs.Prelude.{ℕ, max, List, [], ◌∷◌}
use Rattle.rig.specs.declared.seat.Seat.{Seat}

-- an agent's largest figure
abbrev pub peak : {P : Type 0} → Seat P → ℕ
peak s = max s.steps (max s.entries s.refused)

-- the largest figure of any agent
abbrev pub busiest : {P : Type 0} → List (Seat P) → ℕ
busiest [] = 0
busiest (s ∷ ss) = max (peak s) (busiest ss)
