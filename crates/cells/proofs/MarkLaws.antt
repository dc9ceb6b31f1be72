-- Marks that are equal. Assumes nothing.
use Rattle.std.proofs.Common.{◌≡◌, refl}
use Rattle.cells.specs.Marks.{same_mark}
use Rattle.cells.specs.declared.mark.Mark.{Mark}
use Rattle.cells.specs.declared.mark.Mark.TheVariants.{Empty, Owner, Rung}
use Rattle.cells.specs.contracts.mark.MarkPartialEq as derived

-- `==` tells whether two marks are the same
pub eq_is : (k j : Mark) → (derived.TheImpl.ghosts).eq k j ≡ same_mark k j
eq_is Empty Empty = refl
eq_is Empty (Owner j) = refl
eq_is Empty (Rung s) = refl
eq_is (Owner i) Empty = refl
eq_is (Owner i) (Owner j) = refl
eq_is (Owner i) (Rung s) = refl
eq_is (Rung r) Empty = refl
eq_is (Rung r) (Owner j) = refl
eq_is (Rung r) (Rung s) = refl
