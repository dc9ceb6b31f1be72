-- The letters by which rounds are asked for. Assumes nothing.
use Rattle.std.specs.Prelude.{ℕ, cond, ◌==◌, Some, None, Option, Result}
use Rattle.std.specs.Option.{ok_or}
use Rattle.model.specs.declared.Round.{Round}
use Rattle.model.specs.declared.Round.TheVariants.{Request, Step, Leave}
use Rattle.model.specs.declared.letters.UnknownLetter.{UnknownLetter}

-- `r`, `s` and `l`
abbrev pub round_of : ℕ → Option Round
round_of b = cond (b == 114) (Some Request) (cond (b == 115) (Some Step) (cond (b == 108) (Some Leave) None))

-- the round of a letter, or that there is none
abbrev pub round_read : ℕ → Result Round UnknownLetter
round_read b = ok_or (round_of b) (record {})
