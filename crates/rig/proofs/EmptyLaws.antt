-- Whether a store has so many cells, all of them empty. Assumes nothing.
use Rattle.std.proofs.Common.{◌≡◌, ℕ, ◌+◌, Bool, true, not, List, length, Ok, refl, sym, ap, ◌∙◌, arith}
use Rattle.std.proofs.lemmas.Bool.{eq-eqb}
use Rattle.std.specs.Result.{result_eq}
use Rattle.numbers.specs.First.{first_of}
use Rattle.numbers.proofs.FirstLaws.{first_same}
use Rattle.numbers.proofs.RowLaws.{within_from}
use Rattle.numbers.specs.Rows.{within}
use Rattle.refusal.specs.Checks.{◌then◌, refuse_if, refuse_at}
use Rattle.refusal.specs.declared.Refusal.TheVariants.{CellCount, CellTaken, NoSuchCell}
use Rattle.refusal.specs.contracts.RefusalPartialEq as refusals
use Rattle.cells.proofs.MarkLaws.{eq_is}
use Rattle.cells.specs.Marks.{mark_at, read_answer, same_mark}
use Rattle.cells.specs.contracts.mark.MarkPartialEq as derived
use Rattle.cells.specs.declared.mark.Mark.{Mark}
use Rattle.cells.specs.declared.mark.Mark.TheVariants.{Empty}
use Rattle.model.specs.Loads.{empty_check}

module _ (ms : List Mark) where
  -- something stands in the cell
  abbrev pub taken : ℕ → Bool
  taken y = not (same_mark (mark_at ms y) Empty)

  -- as `!=` tells it of what a read answers: a name that is none is refused, and is not empty either
  abbrev pub differs : ℕ → Bool
  differs y = not (result_eq (derived.TheImpl.ghosts).eq (refusals.TheImpl.ghosts).eq (read_answer ms y) (Ok Empty))

  at_name : (y : ℕ) → within 1 (length ms) y ≡ true → differs y ≡ taken y
  at_name y known =
      ap (λ b. not (result_eq (derived.TheImpl.ghosts).eq (refusals.TheImpl.ghosts).eq (refuse_if (not b) (NoSuchCell y) then Ok (mark_at ms y)) (Ok Empty))) known
      ∙ ap not (eq_is (mark_at ms y) Empty)

  -- the right number of cells
  counted : (m : ℕ) → length ms ≡ m → empty_check m ms ≡ refuse_at CellTaken (first_of taken 1 m)
  counted m same = ap (λ b. refuse_if (not b) CellCount then refuse_at CellTaken (first_of taken 1 m)) (eq-eqb (length ms) m same)

  -- a search for the first cell that differs
  pub searched : (m : ℕ) → length ms ≡ m → refuse_at CellTaken (first_of differs 1 m) ≡ empty_check m ms
  searched m same =
      ap (refuse_at CellTaken) (first_same differs taken 1 m (1 + m) refl (λ y a b. at_name y (within_from 1 (length ms) y a (omega arith))))
      ∙ sym (counted m same)
