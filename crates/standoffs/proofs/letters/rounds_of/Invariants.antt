use Rattle.std.proofs.Common.{◌≡◌, drop, vec_items}
use Rattle.standoffs.specs.Letters.{rounds_of}
use Rattle.standoffs.proofs.LetterLaws.{placed}
use Rattle.standoffs.proofs.letters.rounds_of.Given as goal

-- the rounds so far, and those of the letters that are left, are the rounds of all letters
abbrev pub invariant-loop-letter : goal.invariant-loop-letter
invariant-loop-letter l = placed (vec_items l.rounds) (rounds_of (drop l.letter-index l.letters)) ≡ rounds_of l.letters
