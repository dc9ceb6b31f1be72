-- Rows of numbers, at places from 1 on. Assumes nothing.
use Rattle.std.specs.Prelude.{◌≡◌, ℕ, ◌-◌, ◌<◌, ◌≤◌, Bool, not, ◌&&◌, ◌||◌, is_some, Option, ◌≢◌, nat_eq, nat_le}
use Rattle.numbers.specs.First.{first_of}

-- from low to high, both included
abbrev pub within : ℕ → ℕ → ℕ → Bool
within low high x = nat_le low x && nat_le x high

-- the number at place k stands at an earlier place too
unfoldable pub repeats : (ℕ → ℕ) → ℕ → Bool
repeats row k = is_some (first_of (λ j. nat_eq (row j) (row k)) 1 (k - 1))

-- the number at place k is not from 1 to most, or repeats an earlier one
unfoldable pub misfit : (ℕ → ℕ) → ℕ → ℕ → Bool
misfit row most k = not (within 1 most (row k)) || repeats row k

-- the first misfit at the places 1 to count
unfoldable pub first_misfit : (ℕ → ℕ) → ℕ → ℕ → Option ℕ
first_misfit row most count = first_of (misfit row most) 1 count

-- the numbers at the places 1 to count are from 1 to most, and no two are equal
pub record Distinct (row : ℕ → ℕ) (most count : ℕ) : Type 0 where
  pub inside : (k : ℕ) → 1 ≤ k → k ≤ count → (1 ≤ row k) × (row k ≤ most)
  pub apart : (j k : ℕ) → 1 ≤ j → j < k → k ≤ count → row j ≢ row k

-- every number from 1 to count stands at one of the places 1 to count
abbrev pub EveryNumber : (ℕ → ℕ) → ℕ → Type 0
EveryNumber row count = (v : ℕ) → 1 ≤ v → v ≤ count → (k : ℕ) × (1 ≤ k) × (k ≤ count) × (row k ≡ v)

-- up to place k the row is such a one, and at k it stops being so: out of range, or the same as at an earlier place
pub record FirstMisfit (row : ℕ → ℕ) (most count k : ℕ) : Type 0 where
  pub from_one : 1 ≤ k
  pub up_to : k ≤ count
  pub before : Distinct row most (k - 1)
  pub here : ((1 ≤ row k) × (row k ≤ most)) → (j : ℕ) × (1 ≤ j) × (j < k) × (row j ≡ row k)
