-- Greatest common divisors, and when a number of cells suits a number of agents. Assumes nothing.
use Rattle.std.specs.Prelude.{◌≡◌, ℕ, zero, suc, ◌-◌, ◌%◌, ◌<◌, ◌≤◌, Bool, cond, not, Option, ◌==◌}
use Rattle.std.specs.Int.{◌∣◌}
use Rattle.numbers.specs.First.{first_of}

-- Euclid's algorithm in at most `turns` turns
abbrev pub euclid : ℕ → ℕ → ℕ → ℕ
euclid zero a b = a
euclid (suc turns) a b = cond (b == 0) a (euclid turns b (a % b))

-- the second number falls with each turn, so b turns are enough
unfoldable pub gcd : ℕ → ℕ → ℕ
gcd a b = euclid b a b

-- d divides a and b, and every common divisor of a and b divides d
pub record GreatestCommonDivisor (d a b : ℕ) : Type 0 where
  pub divides_first : d ∣ a
  pub divides_second : d ∣ b
  pub greatest : (e : ℕ) → e ∣ a → e ∣ b → e ∣ d

-- a and b have a common factor
unfoldable pub common_factor : ℕ → ℕ → Bool
common_factor a b = not (gcd a b == 1)

-- the smallest number from 2 to n that has a common factor with m
unfoldable pub smallest_common_factor : ℕ → ℕ → Option ℕ
smallest_common_factor n m = first_of (λ l. common_factor l m) 2 (n - 1)

-- m has no common factor with any number from 2 to n
abbrev pub CoprimeUpTo : ℕ → ℕ → Type 0
CoprimeUpTo n m = (l : ℕ) → 2 ≤ l → l ≤ n → gcd l m ≡ 1

-- l is the smallest number from 2 to n that has a common factor with m; it then divides m
pub record SmallestCommonFactor (n m l : ℕ) : Type 0 where
  pub from_two : 2 ≤ l
  pub up_to : l ≤ n
  pub shared : gcd l m ≡ 1 → ⊥
  pub smallest : (k : ℕ) → 2 ≤ k → k < l → gcd k m ≡ 1
  pub divides : l ∣ m
