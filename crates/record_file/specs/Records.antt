-- Records of four bytes, and the marks that a file of them means. Assumes nothing.
use Rattle.std.specs.Prelude.{◌≡◌, ℕ, ◌+◌, ◌-◌, ◌*◌, ◌/◌, ◌%◌, ◌≤◌, min, cond, ◌&&◌, ◌⊎◌, List, [], ◌∷◌, ◌++◌, length, drop, replicate, is_ok, ◌==◌, slice_index, slice_set}
use Rattle.numbers.specs.Names.{listed}
use Rattle.numbers.specs.Rows.{within}
use Rattle.cells.specs.Marks.{write_answer, swap_answer, says_yes}
use Rattle.cells.specs.declared.mark.Mark.{Mark}
use Rattle.cells.specs.declared.mark.Mark.TheVariants.{Empty, Owner, Rung}

-- the value of a record: its last two bytes, high byte first
abbrev pub value_of : List ℕ → ℕ
value_of bytes = 256 * slice_index bytes 2 + slice_index bytes 3

-- kind 1 with an identity, kind 2 with a rung, the second byte zero; all else is empty
abbrev pub mark_by : ℕ → ℕ → Mark
mark_by kind v = cond (kind == 1 && within 1 65535 v) (Owner v) (cond (kind == 2 && within 1 16 v) (Rung v) Empty)

abbrev pub mark_of : List ℕ → Mark
mark_of bytes = cond (slice_index bytes 1 == 0) (mark_by (slice_index bytes 0) (value_of bytes)) Empty

abbrev pub encoded : Mark → List ℕ
encoded Empty = 0 ∷ 0 ∷ 0 ∷ 0 ∷ []
encoded (Owner i) = 1 ∷ 0 ∷ i / 256 ∷ i % 256 ∷ []
encoded (Rung r) = 2 ∷ 0 ∷ 0 ∷ r ∷ []

-- the form of a record that was written: empty with value zero, an owner with an identity, or a rung from 1 to 16
abbrev pub WellFormed : List ℕ → Type 0
WellFormed bytes = (slice_index bytes 1 ≡ 0) × (((slice_index bytes 0 ≡ 0) × (value_of bytes ≡ 0)) ⊎ (((slice_index bytes 0 ≡ 1) × (1 ≤ value_of bytes)) ⊎ ((slice_index bytes 0 ≡ 2) × (1 ≤ value_of bytes) × (value_of bytes ≤ 16))))

-- the four bytes from `at` on
abbrev pub four : List ℕ → ℕ → List ℕ
four f at = slice_index f at ∷ slice_index f (at + 1) ∷ slice_index f (at + 2) ∷ slice_index f (at + 3) ∷ []

abbrev pub record_at : List ℕ → ℕ → Mark
record_at f at = mark_of (four f at)

abbrev pub put_record : List ℕ → ℕ → List ℕ → List ℕ
put_record f at bytes = slice_set (slice_set (slice_set (slice_set f at (slice_index bytes 0)) (at + 1) (slice_index bytes 1)) (at + 2) (slice_index bytes 2)) (at + 3) (slice_index bytes 3)

-- as many cells as whole records fit, at most 64
abbrev pub record_count : ℕ → ℕ
record_count len = min (len / 4) 64

-- where the record of name y begins
abbrev pub start : ℕ → ℕ
start y = 4 * (y - 1)

abbrev pub records : List ℕ → List Mark
records f = listed (λ y. record_at f (start y)) (record_count (length f))

-- the first `size` bytes set to zero, the others as they were
abbrev pub emptied : List ℕ → ℕ → List ℕ
emptied f size = replicate size 0 ++ drop size f

-- the bytes after a write and after a swap: the four of the record where it is accepted, and where it answers yes; else as they were
abbrev pub bytes_written : List ℕ → ℕ → Mark → List ℕ
bytes_written f y k = cond (is_ok (write_answer (records f) y k)) (put_record f (start y) (encoded k)) f

abbrev pub bytes_swapped : List ℕ → ℕ → Mark → Mark → List ℕ
bytes_swapped f y old new = cond (says_yes (swap_answer (records f) y old new)) (put_record f (start y) (encoded new)) f
