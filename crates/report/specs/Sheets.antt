-- What is put on a sheet. Assumes nothing.
use Rattle.std.specs.Prelude.{◌≡◌, ℕ, ◌≤◌, List, ◌++◌, length}

-- the text was put after what stood there, if both together are no longer than a sheet
pub record Puts (before text after : List ℕ) : Type 0 where
  pub whole : length (before ++ text) ≤ 2336 → after ≡ before ++ text
