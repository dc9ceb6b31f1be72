-- Marks, and what a store of cells answers and becomes. Assumes nothing.
use Rattle.std.specs.Prelude.{ℕ, ◌-◌, Bool, true, false, cond, not, List, ◌++◌, length, is_ok, Ok, Err, codes, decimal, Result, ◌==◌, slice_index_or, slice_set}
use Rattle.numbers.specs.Rows.{within}
use Rattle.refusal.specs.Checks.{◌then◌, Check, refuse_if}
use Rattle.refusal.specs.declared.Refusal.{Refusal}
use Rattle.refusal.specs.declared.Refusal.TheVariants.{NoSuchCell, NoMark}
use Rattle.cells.specs.declared.mark.Mark.{Mark}
use Rattle.cells.specs.declared.mark.Mark.TheVariants.{Empty, Owner, Rung}

-- identities are from 1 to 65,535, rungs from 1 to 16
abbrev pub lawful : Mark → Bool
lawful Empty = true
lawful (Owner i) = within 1 65535 i
lawful (Rung r) = within 1 16 r

abbrev pub same_mark : Mark → Mark → Bool
same_mark Empty Empty = true
same_mark Empty (Owner j) = false
same_mark Empty (Rung s) = false
same_mark (Owner i) Empty = false
same_mark (Owner i) (Owner j) = i == j
same_mark (Owner i) (Rung s) = false
same_mark (Rung r) Empty = false
same_mark (Rung r) (Owner j) = false
same_mark (Rung r) (Rung s) = r == s

-- names count from 1
abbrev pub name_check : ℕ → ℕ → Check
name_check count y = refuse_if (not (within 1 count y)) (NoSuchCell y)

abbrev pub mark_check : Mark → Check
mark_check k = refuse_if (not (lawful k)) NoMark

-- the mark at name y
abbrev pub mark_at : List Mark → ℕ → Mark
mark_at ms y = slice_index_or ms (y - 1) Empty

-- the list with k at name y
abbrev pub put : List Mark → ℕ → Mark → List Mark
put ms y k = slice_set ms (y - 1) k

abbrev pub read_answer : List Mark → ℕ → Result Mark Refusal
read_answer ms y = name_check (length ms) y then Ok (mark_at ms y)

abbrev pub write_answer : List Mark → ℕ → Mark → Check
write_answer ms y k = name_check (length ms) y then mark_check k

-- the list changes only at the name, and only where the write is accepted
abbrev pub after_write : List Mark → ℕ → Mark → List Mark
after_write ms y k = cond (is_ok (write_answer ms y k)) (put ms y k) ms

abbrev pub swap_answer : List Mark → ℕ → Mark → Mark → Result Bool Refusal
swap_answer ms y old new = name_check (length ms) y then mark_check old then mark_check new then Ok (same_mark (mark_at ms y) old)

abbrev pub says_yes : Result Bool Refusal → Bool
says_yes (Ok b) = b
says_yes (Err e) = false

-- the list changes only at the name, and only where the swap answers yes
abbrev pub after_swap : List Mark → ℕ → Mark → Mark → List Mark
after_swap ms y old new = cond (says_yes (swap_answer ms y old new)) (put ms y new) ms

-- a write and then a read of the same name: the refusal, or the mark that was put
abbrev pub read_back : List Mark → ℕ → Mark → Result Mark Refusal
read_back ms y k = write_answer ms y k then Ok k

-- how a mark is shown
abbrev pub mark_words : Mark → List ℕ
mark_words Empty = codes "empty"
mark_words (Owner i) = codes "owner " ++ decimal i
mark_words (Rung r) = codes "rung " ++ decimal r
