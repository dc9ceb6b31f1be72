-- What a load makes of a blank rig over a store, from a plan or as a stand-off. Assumes nothing.
use Rattle.std.specs.Prelude.{ℕ, ◌+◌, ◌-◌, ◌*◌, ◌/◌, ◌%◌, Bool, cond, not, List, [], length, is_some, Some, None, Ok, Err, Option, Result, ◌==◌, nat_le, slice_index, slice_index_or}
use Rattle.numbers.specs.Factors.{smallest_common_factor}
use Rattle.numbers.specs.First.{first_of}
use Rattle.numbers.specs.Names.{listed}
use Rattle.numbers.specs.Rows.{within}
use Rattle.refusal.specs.Checks.{◌then◌, Check, refuse_if, refuse_at}
use Rattle.refusal.specs.declared.Refusal.{Refusal}
use Rattle.refusal.specs.declared.Refusal.TheVariants.{NotBlank, StandoffAgents, StandoffCells, NoCommonFactor, CellCount, CellTaken}
use Rattle.plan.specs.Checks.{decoded}
use Rattle.plan.specs.Plans.{Sayings}
use Rattle.cells.specs.Marks.{mark_at, same_mark}
use Rattle.cells.specs.declared.mark.Mark.{Mark}
use Rattle.cells.specs.declared.mark.Mark.TheVariants.{Empty}
use Rattle.rules.specs.Records.{loaded_agent}
use Rattle.model.specs.Meanings.{Meaning}
use Rattle.model.specs.Rigs.{Seat, Rig, World, after_check}

-- a rig that is only made, over a store
abbrev pub blank_world : (P : Type 0) → List Mark → World P
blank_world P ms = record {
  rig = record {
    cells = 0;
    seats = [];
    heard = 0;
    crowd = 0;
    standoff = None;
  };
  store = ms;
}

abbrev pub is_blank : {P : Type 0} → Rig P → Bool
is_blank g = g.cells == 0

-- the store has m cells, all empty
abbrev pub empty_check : ℕ → List Mark → Check
empty_check m ms =
    refuse_if (not (length ms == m)) CellCount then
    refuse_at CellTaken (first_of (λ y. not (same_mark (mark_at ms y) Empty)) 1 m)

-- the cell that agent k of a stand-off calls x: each of the l agents that move together begins m / l cells after the one before, and after the last cell comes the first
abbrev pub turned : ℕ → ℕ → ℕ → ℕ → ℕ
turned l m k x = 1 + (x - 1 + (k - 1) * m / l) % m

module _ {P : Type 0} (R : Meaning P) where
  -- an agent as it is loaded: idle, with nothing seen and no figures
  abbrev pub new_seat : ℕ → List ℕ → Seat P
  new_seat identity table = record {
    table = table;
    agent = loaded_agent R.loaded identity;
    steps = 0;
    entries = 0;
    refused = 0;
  }

  abbrev pub new_world : ℕ → List (Seat P) → Option ℕ → List Mark → World P
  new_world m seats standoff ms = record {
    rig = record {
      cells = m;
      seats = seats;
      heard = 0;
      crowd = 0;
      standoff = standoff;
    };
    store = ms;
  }

  -- from a plan

  abbrev pub seat_of : Sayings → ℕ → Seat P
  seat_of p k = new_seat (slice_index p.identities (k - 1)) (slice_index_or p.tables (k - 1) [])

  abbrev pub loaded_world : Sayings → List Mark → World P
  loaded_world p ms = new_world p.cells (listed (seat_of p) p.agents) None ms

  abbrev pub plan_answer : List Mark → Result Sayings Refusal → Check
  plan_answer ms (Ok p) = empty_check p.cells ms
  plan_answer ms (Err e) = Err e

  abbrev pub load_answer : World P → List ℕ → Check
  load_answer w file = refuse_if (not (is_blank w.rig)) NotBlank then plan_answer w.store (decoded R.number file)

  abbrev pub filled : World P → Result Sayings Refusal → World P
  filled w (Ok p) = loaded_world p w.store
  filled w (Err e) = w

  -- a refused load leaves rig and store as they were
  abbrev pub after_load : World P → List ℕ → World P
  after_load w file = after_check (load_answer w file) (filled w (decoded R.number file)) w

  -- as a stand-off of n agents over m cells, of which l move together

  abbrev pub standoff_seat : ℕ → ℕ → ℕ → Seat P
  standoff_seat l m k = new_seat k (listed (λ x. cond (nat_le k l) (turned l m k x) x) m)

  abbrev pub standoff_world : ℕ → ℕ → ℕ → List Mark → World P
  standoff_world l n m ms = new_world m (listed (standoff_seat l m) n) (Some l) ms

  abbrev pub standoff_answer : World P → ℕ → ℕ → Check
  standoff_answer w n m =
      refuse_if (not (is_blank w.rig)) NotBlank then
      refuse_if (not (within 2 16 n)) StandoffAgents then
      refuse_if (not (within 2 64 m)) StandoffCells then
      refuse_if (not (is_some (smallest_common_factor n m))) NoCommonFactor then
      empty_check m w.store

  abbrev pub filled_standoff : World P → ℕ → ℕ → Option ℕ → World P
  filled_standoff w n m None = w
  filled_standoff w n m (Some l) = standoff_world l n m w.store

  abbrev pub after_standoff : World P → ℕ → ℕ → World P
  after_standoff w n m = after_check (standoff_answer w n m) (filled_standoff w n m (smallest_common_factor n m)) w
