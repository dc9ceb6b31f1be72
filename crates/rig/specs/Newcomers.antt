-- Agents as a load seats them. Assumes nothing.
use Rattle.std.specs.Prelude.{ℕ, List}
use Rattle.rules.specs.Records.{loaded_agent}
use Rattle.rig.specs.declared.seat.Seat.{Seat}

-- a loaded agent with its table, and no figures
abbrev pub newcomer : {P : Type 0} → P → ℕ → List ℕ → Seat P
newcomer p identity table = record {
  table = table;
  agent = loaded_agent p identity;
  steps = 0;
  entries = 0;
  refused = 0;
}
