-- Counts over the marks and flags that an agent has, by names from 1 on. Assumes nothing.
use Rattle.std.specs.Prelude.{ℕ, zero, suc, ◌+◌, ◌-◌, max, Bool, true, false, cond, not, ◌&&◌, List, length, is_some, Option, slice_index_or}
use Rattle.numbers.specs.First.{first_of}
use Rattle.cells.specs.Marks.{same_mark, mark_at}
use Rattle.cells.specs.declared.mark.Mark.{Mark}
use Rattle.cells.specs.declared.mark.Mark.TheVariants.{Empty, Owner, Rung}

-- how many of the names 1 to n pass a test
unfoldable pub count_names : (ℕ → Bool) → ℕ → ℕ
count_names test zero = 0
count_names test (suc n) = count_names test n + cond (test (suc n)) 1 0

-- the largest of the numbers at the names 1 to n, and 0 where there is none
unfoldable pub largest : (ℕ → ℕ) → ℕ → ℕ
largest number zero = 0
largest number (suc n) = max (largest number n) (number (suc n))

abbrev pub is_owner : Mark → Bool
is_owner Empty = false
is_owner (Owner i) = true
is_owner (Rung r) = false

-- the mark at name y is k
abbrev pub has : List Mark → Mark → ℕ → Bool
has ms k y = same_mark (mark_at ms y) k

-- how often a mark stands in the list
abbrev pub times : List Mark → Mark → ℕ
times ms k = count_names (has ms k) (length ms)

-- the lowest name where a mark stands
abbrev pub lowest : List Mark → Mark → Option ℕ
lowest ms k = first_of (has ms k) 1 (length ms)

-- an owner's mark stands at name y, and at no earlier name
abbrev pub is_new : List Mark → ℕ → Bool
is_new ms y = is_owner (mark_at ms y) && not (is_some (first_of (has ms (mark_at ms y)) 1 (y - 1)))

-- how many different identities stand in the list
abbrev pub identities : List Mark → ℕ
identities ms = count_names (is_new ms) (length ms)

-- how often the owner's mark at name y stands in the list; 0 for other marks
abbrev pub times_at : List Mark → ℕ → ℕ
times_at ms y = cond (is_owner (mark_at ms y)) (times ms (mark_at ms y)) 0

-- the most marks of one identity
abbrev pub most_of_one : List Mark → ℕ
most_of_one ms = largest (times_at ms) (length ms)

-- the flag at name y
abbrev pub flag_at : List Bool → ℕ → Bool
flag_at fs y = slice_index_or fs (y - 1) false

abbrev pub flags_set : List Bool → ℕ
flags_set fs = count_names (flag_at fs) (length fs)

abbrev pub lowest_flag : List Bool → Option ℕ
lowest_flag fs = first_of (flag_at fs) 1 (length fs)
