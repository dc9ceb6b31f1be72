-- Rounds of the letters read so far. Assumes nothing.
use Rattle.std.proofs.Common.{List, ◌++◌, Some, None, Option}
use Rattle.model.specs.declared.Round.{Round}

-- rounds in front of those of the rest, where the rest has some
abbrev pub placed : List Round → Option (List Round) → Option (List Round)
placed xs None = None
placed xs (Some ys) = Some (xs ++ ys)
