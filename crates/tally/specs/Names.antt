-- Elements by names that count from 1. Assumes nothing.
use Rattle.std.specs.Prelude.{ℕ, ◌+◌, Bool, List, position, Option}
use Rattle.std.specs.Option.{option_map}

-- the lowest name whose element passes a test
abbrev pub lowest_name : {X : Type 0} → (X → Bool) → List X → Option ℕ
lowest_name test xs = option_map (λ before. before + 1) (position test xs)
