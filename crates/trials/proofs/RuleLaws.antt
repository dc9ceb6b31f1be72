-- Which of three a rule's number picks. Assumes nothing.
use Rattle.std.proofs.Common.{ℕ, cond, eqb, Bool, true, false}
use Rattle.trials.specs.Trials.{by_rule}

-- what a pick gives of any three
abbrev pub Pick : Type 1
Pick = (A : Type 0) → A → A → A → A

-- what is so of the first, of the second and of the third is so of the one that is picked
pub picked : (rule : ℕ) (Q : Pick → Type 0) → Q (λ A x y z. x) → Q (λ A x y z. y) → Q (λ A x y z. z) → Q (λ A x y z. by_rule rule x y z)
picked rule Q first second third = by_tests (eqb rule 2) (eqb rule 3)
  where
    by_tests : (b c : Bool) → Q (λ A x y z. cond b y (cond c z x))
    by_tests true c = second
    by_tests false true = third
    by_tests false false = first
