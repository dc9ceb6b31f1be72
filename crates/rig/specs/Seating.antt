-- The agents of a rig as a list. Assumes nothing.
use Rattle.std.specs.Prelude.{◌≡◌, ℕ, ◌≤◌, List, length, vec_items, Some}
use Rattle.numbers.specs.Names.{named}
use Rattle.rig.specs.declared.seat.Seat.{Seat}
use Rattle.rig.specs.declared.seats.Seats.{Seats}

abbrev pub seated_in : {P : Type 0} → Seats P → List (Seat P)
seated_in s = vec_items s.items

-- so many seats, each with what is made of its number
pub record MadeOf {A : Type 0} (made : ℕ → A → Type 0) (seats : List A) (agents : ℕ) : Type 0 where
  pub long : length seats ≡ agents
  pub each : (k : ℕ) → 1 ≤ k → k ≤ agents → (s : A) × (named seats k ≡ Some s) × made k s
