-- Cells and marks of a plan, and those of its twin. Assumes nothing.
use Rattle.std.specs.Prelude.{ℕ, Bool, true, false, ◌&&◌, is_some, Some, None, Option, ◌==◌}
use Rattle.numbers.specs.First.{first_of}
use Rattle.numbers.specs.Names.{named}
use Rattle.plan.specs.Plans.{Sayings, entry_named}
use Rattle.cells.specs.declared.mark.Mark.{Mark}
use Rattle.cells.specs.declared.mark.Mark.TheVariants.{Empty, Owner, Rung}

abbrev pub is_number : Option ℕ → ℕ → Bool
is_number None i = false
is_number (Some x) i = x == i

-- agent k has identity i in the first plan and j in the second
abbrev pub has_both : Sayings → Sayings → ℕ → ℕ → ℕ → Bool
has_both p q i j k = is_number (named p.identities k) i && is_number (named q.identities k) j

-- the second mark is the first with identities replaced
abbrev pub replaced : Sayings → Sayings → Mark → Mark → Bool
replaced p q Empty Empty = true
replaced p q Empty (Owner j) = false
replaced p q Empty (Rung s) = false
replaced p q (Owner i) Empty = false
replaced p q (Owner i) (Owner j) = is_some (first_of (has_both p q i j) 1 p.agents)
replaced p q (Owner i) (Rung s) = false
replaced p q (Rung r) Empty = false
replaced p q (Rung r) (Owner j) = false
replaced p q (Rung r) (Rung s) = r == s

-- what agent 1 of the second plan calls by a name, if there is one
abbrev pub entry_by : Sayings → Option ℕ → Option ℕ
entry_by q None = None
entry_by q (Some x) = entry_named q 1 x

-- agent 1 of the first plan calls cell y by a name; the cell that agent 1 of the second calls so
abbrev pub name_in_twin : Sayings → Sayings → ℕ → Option ℕ
name_in_twin p q y = entry_by q (first_of (λ x. is_number (entry_named p 1 x) y) 1 p.cells)
