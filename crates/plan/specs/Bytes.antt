-- A file's bytes and two-byte numbers. Assumes nothing.
use Rattle.std.specs.Prelude.{ℕ, ◌+◌, ◌*◌, List, slice_index}

-- the byte at i, counted from 0; 0 past the end
abbrev pub byte : List ℕ → ℕ → ℕ
byte f i = slice_index f i

-- the two-byte number at i, high byte first
abbrev pub word : List ℕ → ℕ → ℕ
word f i = 256 * byte f i + byte f (i + 1)
