-- What is seen as own. Assumes nothing.
use Rattle.std.specs.Prelude.{◌≡◌, ℕ, ◌+◌, ◌-◌, ◌≤◌, true, List, length, take, Some, None, refl}
use Rattle.std.proofs.Common.{sym, ap, ◌∙◌, arith, get_or-take}
use Rattle.std.proofs.lemmas.List.{length-take}
use Rattle.std.proofs.lemmas.Bool.{eqb-true, false≢true}
use Rattle.numbers.proofs.FirstLaws.{first_tells_none, first_tells_some}
use Rattle.cells.specs.Marks.{same_mark, mark_at}
use Rattle.cells.specs.declared.mark.Mark.{Mark}
use Rattle.cells.specs.declared.mark.Mark.TheVariants.{Empty, Owner, Rung}
use Rattle.tally.specs.Counts.{has, times, lowest}
use Rattle.tally.proofs.CountLaws.{count_none}
use Rattle.rules.specs.Lawful.{Name}

-- a mark that is the same is equal
pub same_equal : (k l : Mark) → same_mark k l ≡ true → k ≡ l
same_equal Empty Empty e = refl
same_equal Empty (Owner j) e = absurd (false≢true e)
same_equal Empty (Rung s) e = absurd (false≢true e)
same_equal (Owner i) Empty e = absurd (false≢true e)
same_equal (Owner i) (Owner j) e = ap Owner (eqb-true i j e)
same_equal (Owner i) (Rung s) e = absurd (false≢true e)
same_equal (Rung r) Empty e = absurd (false≢true e)
same_equal (Rung r) (Owner j) e = absurd (false≢true e)
same_equal (Rung r) (Rung s) e = ap Rung (eqb-true r s e)

-- the lowest name is a name, and the mark stands there
pub lowest_tells : (m : ℕ) (ms : List Mark) (k : Mark) (x : ℕ) → lowest (take m ms) k ≡ Some x → Name m x × (mark_at ms x ≡ k)
lowest_tells m ms k x is =
    let front = take m ms in
    let first = first_tells_some (has front k) 1 (length front) (1 + length front) x refl is in
    let long = length-take m ms in
    let low : 1 ≤ x = first.from in
    let high : x ≤ m = omega (arith, first.below) in
    let here = same_equal (mark_at front x) k first.passes in
    ((low, high), sym (get_or-take m ms (x - 1) Empty (omega arith)) ∙ here)

-- with no lowest name the mark stands nowhere
pub lowest_none : (ms : List Mark) (k : Mark) → lowest ms k ≡ None → times ms k ≡ 0
lowest_none ms k is =
    let none = first_tells_none (has ms k) 1 (length ms) (1 + length ms) refl is in
    count_none (has ms k) (length ms) (λ y a b. none y a (omega arith))
