-- The rounds that a word spells. Assumes nothing.
use Rattle.std.specs.Prelude.{ℕ, List, [], ◌∷◌, Some, None, Option}
use Rattle.model.specs.Letters.{round_of}
use Rattle.model.specs.declared.Round.{Round}

-- a first item before others, where both are there
abbrev pub put_before : {A : Type 0} → Option A → Option (List A) → Option (List A)
put_before None o = None
put_before (Some x) None = None
put_before (Some x) (Some xs) = Some (x ∷ xs)

abbrev pub rounds_of : List ℕ → Option (List Round)
rounds_of [] = Some []
rounds_of (b ∷ bs) = put_before (round_of b) (rounds_of bs)
