-- The first number in a range that passes a test. Assumes nothing.
use Rattle.std.specs.Prelude.{◌≡◌, ℕ, zero, suc, ◌+◌, ◌<◌, ◌≤◌, Bool, true, false, cond, Some, None, Option}

-- the first of the `count` numbers from `start` on that passes `test`
unfoldable pub first_of : (ℕ → Bool) → ℕ → ℕ → Option ℕ
first_of test start zero = None
first_of test start (suc count) = cond (test start) (Some start) (first_of test (start + 1) count)

-- no number from `start` up to `end`, without `end`, passes
abbrev pub NonePasses : (ℕ → Bool) → ℕ → ℕ → Type 0
NonePasses test start end = (k : ℕ) → start ≤ k → k < end → test k ≡ false

-- i is the first number from `start` up to `end`, without `end`, that passes
pub record IsFirst (test : ℕ → Bool) (start end i : ℕ) : Type 0 where
  pub from : start ≤ i
  pub below : i < end
  pub passes : test i ≡ true
  pub first : NonePasses test start i
