-- What `==` finds among marks and flags, by names. Assumes nothing.
use Rattle.std.proofs.Common.{◌≡◌, ◌+◌, ◌-◌, ◌≤◌, Bool, true, false, List, length, take, is_some, count_by, refl, ap, ◌∙◌, arith, length-take-le, get_or-take}
use Rattle.std.specs.List.{list_any}
use Rattle.std.specs.contracts.prelude.BoolPartialEq as bools
use Rattle.numbers.specs.First.{first_of}
use Rattle.numbers.proofs.FirstLaws.{first_same}
use Rattle.cells.specs.Marks.{same_mark}
use Rattle.cells.specs.contracts.mark.MarkPartialEq as marks
use Rattle.cells.specs.declared.mark.Mark.{Mark}
use Rattle.cells.specs.declared.mark.Mark.TheVariants.{Empty}
use Rattle.cells.proofs.MarkLaws.{eq_is}
use Rattle.tally.specs.Counts.{has, times, lowest, flags_set, lowest_flag}
use Rattle.tally.specs.Names.{lowest_name}
use Rattle.tally.proofs.CountLaws.{count_is, lowest_is, any_is}

abbrev pub equals : Mark → Mark → Bool
equals k j = (marks.TheImpl.ghosts).eq j k

abbrev pub is_true : Bool → Bool
is_true b = (bools.TheImpl.ghosts).eq b true

module _ (ms : List Mark) (k : Mark) where
  same : equals k ≡ (λ j. same_mark j k)
  same = λ i j. eq_is j k i

  pub times_is : count_by (equals k) ms ≡ times ms k
  times_is = ap (λ p. count_by p ms) same ∙ count_is ms Empty (λ j. same_mark j k)

  pub lowest_mark : lowest_name (equals k) ms ≡ lowest ms k
  lowest_mark = ap (λ p. lowest_name p ms) same ∙ lowest_is ms Empty (λ j. same_mark j k)

  pub stands : list_any (equals k) ms ≡ is_some (lowest ms k)
  stands = ap (λ p. list_any p ms) same ∙ any_is ms Empty (λ j. same_mark j k)

-- a flag is set where it is `true`
set_is : (b : Bool) → is_true b ≡ b
set_is true = refl
set_is false = refl

module _ (fs : List Bool) where
  set : is_true ≡ (λ b. b)
  set = λ i b. set_is b i

  pub flags_are : count_by is_true fs ≡ flags_set fs
  flags_are = ap (λ p. count_by p fs) set ∙ count_is fs false (λ b. b)

  pub lowest_set : lowest_name is_true fs ≡ lowest_flag fs
  lowest_set = ap (λ p. lowest_name p fs) set ∙ lowest_is fs false (λ b. b)

-- the front of a list has the same marks
pub front_same : (ms : List Mark) (n : _) (k : Mark) → n ≤ length ms → lowest (take n ms) k ≡ first_of (has ms k) 1 n
front_same ms n k fits =
    let long = length-take-le n ms fits in
    ap (first_of (has (take n ms) k) 1) long
    ∙ first_same (has (take n ms) k) (has ms k) 1 n (1 + n) refl (λ y a b. ap (λ m. same_mark m k) (get_or-take n ms (y - 1) Empty (omega arith)))
