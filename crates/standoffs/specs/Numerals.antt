-- The number that a word writes. Assumes nothing.
use Rattle.std.specs.Prelude.{ℕ, ◌+◌, ◌-◌, ◌*◌, ◌^◌, Bool, cond, ◌&&◌, List, [], ◌∷◌, length, Some, None, Option, nat_lt}
use Rattle.std.specs.Str.{all_ascii_digits}

-- digits read from the left, after the number so far
abbrev pub read_on : ℕ → List ℕ → ℕ
read_on n [] = n
read_on n (c ∷ cs) = read_on (10 * n + (c - 48)) cs

-- some digits, and nothing else, of a number below 2 ^ 64
abbrev pub is_number : List ℕ → Bool
is_number bs = all_ascii_digits bs && (nat_lt 0 (length bs) && nat_lt (read_on 0 bs) (2 ^ 64))

abbrev pub number_of : List ℕ → Option ℕ
number_of bs = cond (is_number bs) (Some (read_on 0 bs)) None
