-- Flags that are set, and names where one is found. Assumes nothing.
use Rattle.std.specs.Prelude.{◌≡◌, ℕ, ◌+◌, ◌-◌, ◌≤◌, Bool, true, false, List, length, take, Some, refl}
use Rattle.std.proofs.Common.{sym, ◌∙◌, ⊎_elim, arith, get_or-take, length-take-le}
use Rattle.numbers.specs.First.{IsFirst}
use Rattle.numbers.proofs.FirstLaws.{first_cases}
use Rattle.tally.specs.Counts.{flag_at, flags_set, lowest_flag}
use Rattle.tally.proofs.CountLaws.{count_none}
use Rattle.rules.specs.Lawful.{Name}

-- a flag that is set is found
pub lowest_found : (fs : List Bool) → 1 ≤ flags_set fs → (x : ℕ) × (lowest_flag fs ≡ Some x) × IsFirst (flag_at fs) 1 (1 + length fs) x
lowest_found fs some =
    ⊎_elim
    (λ n. let zero_set = count_none (flag_at fs) (length fs) (λ y a b. n.1 y a (omega arith)) in absurd (omega arith))
    (λ s. s)
    (first_cases (flag_at fs) 1 (length fs) (1 + length fs) refl)

-- a flag among the first m is one of all
pub found_name : (fs : List Bool) (m start x : ℕ) → m ≤ length fs → 1 ≤ start → IsFirst (flag_at (take m fs)) start (1 + length (take m fs)) x → Name m x × (flag_at fs x ≡ true)
found_name fs m start x fits low first =
    let long = length-take-le m fs fits in
    let from : 1 ≤ x = omega (arith, first.from) in
    let to : x ≤ m = omega (arith, first.below) in
    ((from, to), sym (get_or-take m fs (x - 1) false (omega arith)) ∙ first.passes)
