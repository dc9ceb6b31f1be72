-- Lists whose elements have names from 1 on. Assumes nothing.
use Rattle.std.specs.Prelude.{ℕ, zero, suc, List, map, None, Option}
use Rattle.std.specs.List.{slice_get, range_with_len}

-- the element with name k, if there is one
unfoldable pub named : {A : Type 0} → List A → ℕ → Option A
named xs zero = None
named xs (suc k) = slice_get xs k

-- the list whose element with name k is g k, for the names 1 to n
unfoldable pub listed : {A : Type 0} → (ℕ → A) → ℕ → List A
listed g n = map g (range_with_len 1 n)
