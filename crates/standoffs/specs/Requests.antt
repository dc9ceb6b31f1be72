-- What words ask for. Assumes nothing.
use Rattle.std.specs.Prelude.{◌≡◌, ℕ, true, List, [], ◌∷◌, is_some, Some, None, Ok, Err, vec_items, Option, Result}
use Rattle.plan.specs.Published.{published}
use Rattle.plan.specs.declared.rule.PublishedRule.{PublishedRule}
use Rattle.standoffs.specs.Letters.{rounds_of}
use Rattle.standoffs.specs.Numerals.{number_of}
use Rattle.standoffs.specs.declared.request.Fault.{Fault}
use Rattle.standoffs.specs.declared.request.Fault.TheVariants.{WordCount, Rule, Agents, Cells, Rounds, NoMemory}
use Rattle.standoffs.specs.declared.request.Standoff.{Standoff}

-- the rule of a number, where there is one
abbrev pub rule_numbered : Option ℕ → Option PublishedRule
rule_numbered None = None
rule_numbered (Some n) = published n

abbrev pub rule_of : List ℕ → Option PublishedRule
rule_of word = rule_numbered (number_of word)

-- four words are read, or the first faulty one is named; memory may run out
abbrev pub Reads : List ℕ → List ℕ → List ℕ → List ℕ → Result Standoff Fault → Type 0
Reads a b c d (Ok s) = (rule_of a ≡ Some s.rule) × (number_of b ≡ Some s.sizes.agents) × (number_of c ≡ Some s.sizes.cells) × (rounds_of d ≡ Some (vec_items s.rounds))
Reads a b c d (Err WordCount) = ⊥
Reads a b c d (Err Rule) = rule_of a ≡ None
Reads a b c d (Err Agents) = (is_some (rule_of a) ≡ true) × (number_of b ≡ None)
Reads a b c d (Err Cells) = (is_some (rule_of a) ≡ true) × (is_some (number_of b) ≡ true) × (number_of c ≡ None)
Reads a b c d (Err Rounds) = (is_some (rule_of a) ≡ true) × (is_some (number_of b) ≡ true) × (is_some (number_of c) ≡ true) × (rounds_of d ≡ None)
Reads a b c d (Err NoMemory) = Unit {0}

-- three words or four; with three of them there are no rounds
abbrev pub Asks : List (List ℕ) → Result Standoff Fault → Type 0
Asks [] r = r ≡ Err WordCount
Asks (a ∷ []) r = r ≡ Err WordCount
Asks (a ∷ b ∷ []) r = r ≡ Err WordCount
Asks (a ∷ b ∷ c ∷ []) r = Reads a b c [] r
Asks (a ∷ b ∷ c ∷ d ∷ []) r = Reads a b c d r
Asks (a ∷ b ∷ c ∷ d ∷ e ∷ more) r = r ≡ Err WordCount
