-- The flags of an agent. Assumes nothing.
use Rattle.std.specs.Prelude.{ℕ, ◌+◌, ◌-◌, Bool, List, length, Option}
use Rattle.numbers.specs.First.{first_of}
use Rattle.tally.specs.Counts.{flag_at}

-- the lowest flagged name above x
abbrev pub next_flag : List Bool → ℕ → Option ℕ
next_flag fs x = first_of (flag_at fs) (x + 1) (length fs - x)
