-- What the store gives a twin, and what it becomes: the same through the new numbering and the replaced identities. Assumes nothing.
use Rattle.std.proofs.Common.{◌≡◌, ℕ, ◌+◌, ◌-◌, ◌≤◌, Bool, true, false, cond, not, List, length, get_or, is_ok, Ok, sym, refl, ap, ◌∙◌, subst, ⊎_elim, arith}
use Rattle.std.proofs.lemmas.List.{get_or_past, get_or-set_same, get_or-set_other}
use Rattle.std.proofs.lemmas.Bool.{cases_lt, not_from_true}
use Rattle.numbers.specs.Names.{listed}
use Rattle.numbers.specs.Rows.{within}
use Rattle.numbers.proofs.FirstLaws.{none_up_to}
use Rattle.numbers.proofs.NameLaws.{length_listed, getD_listed, listed_same, listed_set}
use Rattle.numbers.proofs.RowLaws.{within_from}
use Rattle.refusal.specs.Checks.{◌then◌, refuse_at}
use Rattle.refusal.specs.declared.Refusal.TheVariants.{NoSuchCell}
use Rattle.cells.specs.Marks.{lawful, same_mark, mark_at, put, mark_check, swap_answer, says_yes}
use Rattle.cells.specs.declared.mark.Mark.{Mark}
use Rattle.cells.specs.declared.mark.Mark.TheVariants.{Empty}
use Rattle.rules.specs.Lawful.{AllLawful, Name, Proper, Fits, Permutes, replaced, replaced_want, replaced_reply}
use Rattle.rules.specs.Records.{marks, cell, went}
use Rattle.rules.specs.declared.want.Want.{Want}
use Rattle.rules.specs.declared.want.Want.TheVariants.{Look, Read, Write, Swap}
use Rattle.rules.proofs.ReplaceLaws.{from_index, replaced_lawful, same_replaced}
use Rattle.model.specs.Rigs.{Seat, entry, served, store_after, store_check}
use Rattle.runs.proofs.Effects.{name_granted, mark_granted, write_granted, swap_granted}
use Rattle.renumbering.proofs.Twins.{Numbering, map_listed, twin_store, twin_seat, twin_entry}

-- a list of lawful marks, by names
pub listed_lawful : (g : ℕ → Mark) (m : ℕ) → ((x : ℕ) → 1 ≤ x → x ≤ m → lawful (g x) ≡ true) → AllLawful (listed g m)
listed_lawful g m good =
    from_index (listed g m)
    (λ i.
    let long = length_listed g m in
    let same : i + 1 - 1 ≡ i = omega arith in
    ⊎_elim
    (λ less. subst (λ k. lawful k ≡ true) (sym (getD_listed g m (i + 1) Empty (omega arith) (omega arith)) ∙ ap (λ j. get_or (listed g m) j Empty) same) (good (i + 1) (omega arith) (omega arith)))
    (λ past. subst (λ k. lawful k ≡ true) (sym (get_or_past (listed g m) i Empty (omega arith))) refl)
    (cases_lt i m))

-- a table that names the cells 1 to m
abbrev pub Inside : {P : Type 0} → ℕ → Seat P → Type 0
Inside m s = (x : ℕ) → 1 ≤ x → x ≤ m → (1 ≤ entry s x) × (entry s x ≤ m)

-- the store refuses no proper want
pub store_grants : {P : Type 0} (m : ℕ) (ms : List Mark) (s : Seat P) → length ms ≡ m → Inside m s → (q : Want) → Proper m q → store_check m ms s q ≡ Ok tt
store_grants m ms s long inside Look proper =
    ap (refuse_at (λ x. NoSuchCell (entry s x)))
    (none_up_to (λ x. not (within 1 (length ms) (entry s x))) m
    (λ x a b. let e = inside x a b in not_from_true (within 1 (length ms) (entry s x)) (within_from 1 (length ms) (entry s x) e.0 (omega (arith, e.1, long)))))
store_grants m ms s long inside (Read x) proper = let e = inside x proper.0 proper.1 in name_granted (length ms) (entry s x) e.0 (omega (arith, e.1, long))
store_grants m ms s long inside (Write x k) proper = let e = inside x proper.0.0 proper.0.1 in write_granted ms (entry s x) k e.0 (omega (arith, e.1, long)) proper.1
store_grants m ms s long inside (Swap x old new) proper =
    let e = inside x proper.0.0 proper.0.1 in
    ap (λ c. c then mark_check old then mark_check new) (name_granted (length ms) (entry s x) e.0 (omega (arith, e.1, long)))
    ∙ ap (λ c. c then mark_check new) (mark_granted old proper.1)
    ∙ mark_granted new proper.2

-- what it answers fits the want
pub served_fits : {P : Type 0} (m : ℕ) (ms : List Mark) (s : Seat P) → AllLawful ms → (q : Want) → Fits m q (served m ms s q)
served_fits m ms s all Look = (length_listed (λ x. mark_at ms (entry s x)) m, listed_lawful (λ x. mark_at ms (entry s x)) m (λ x a b. all (entry s x)))
served_fits m ms s all (Read x) = all (entry s x)
served_fits m ms s all (Write x k) = tt
served_fits m ms s all (Swap x old new) = tt

-- a proper want stays proper
pub proper_replaced : (π : ℕ → ℕ) → Permutes π → (m : ℕ) (q : Want) → Proper m q → Proper m (replaced_want π q)
proper_replaced π perm m Look proper = tt
proper_replaced π perm m (Read x) proper = proper
proper_replaced π perm m (Write x k) proper = (proper.0, replaced_lawful π perm k proper.1)
proper_replaced π perm m (Swap x old new) proper = (proper.0, replaced_lawful π perm old proper.1, replaced_lawful π perm new proper.2)

module _ (σ τ π : ℕ → ℕ) (perm : Permutes π) (m : ℕ) (N : Numbering σ τ m) (ms : List Mark) (long : length ms ≡ m) where
  abbrev new : List Mark
  new = twin_store τ π m ms

  pub long_twin : length new ≡ m
  long_twin = length_listed (λ z. replaced π (mark_at ms (τ z))) m

  -- the mark in a renumbered cell
  pub mark_twin : (y : ℕ) → 1 ≤ y → y ≤ m → mark_at new (σ y) ≡ replaced π (mark_at ms y)
  mark_twin y a b =
      let e = N.forth.inside y a b in
      getD_listed (λ z. replaced π (mark_at ms (τ z))) m (σ y) Empty e.0 e.1 ∙ ap (λ z. replaced π (mark_at ms z)) (N.home y a b)

  -- one mark put
  pub put_twin : (y : ℕ) (k : Mark) → 1 ≤ y → y ≤ m → put new (σ y) (replaced π k) ≡ twin_store τ π m (put ms y k)
  put_twin y k a b =
      let e = N.forth.inside y a b in
      sym
      (listed_set (λ z. replaced π (mark_at ms (τ z))) (λ z. replaced π (mark_at (put ms y k) (τ z))) m (σ y) (replaced π k) e.0 e.1
      (ap (λ z. replaced π (mark_at (put ms y k) z)) (N.home y a b) ∙ ap (replaced π) (get_or-set_same ms (y - 1) k Empty (omega arith)))
      (λ z c d other.
      let f = N.back.inside z c d in
      ap (replaced π)
      (get_or-set_other ms (y - 1) (τ z - 1) k Empty
      (λ same. let back : τ z ≡ y = omega (arith, f.0) in other (sym (N.round z c d) ∙ ap σ back)))))

  module _ {P : Type 0} (s : Seat P) (inside : Inside m s) where
    abbrev other : Seat P
    other = twin_seat σ π s

    pub entry_twin : (x : ℕ) → 1 ≤ x → x ≤ m → entry other x ≡ σ (entry s x)
    entry_twin x a b = twin_entry σ π s x (inside x a b).0

    pub inside_twin : Inside m other
    inside_twin x a b =
        let e = inside x a b in
        subst (λ y. (1 ≤ y) × (y ≤ m)) (sym (entry_twin x a b)) (N.forth.inside (entry s x) e.0 e.1)

    pub met_twin : (x : ℕ) → 1 ≤ x → x ≤ m → mark_at new (entry other x) ≡ replaced π (mark_at ms (entry s x))
    met_twin x a b = let e = inside x a b in ap (mark_at new) (entry_twin x a b) ∙ mark_twin (entry s x) e.0 e.1

    pub grants_twin : (q : Want) → Proper m q → store_check m new other (replaced_want π q) ≡ Ok tt
    grants_twin q proper = store_grants m new other long_twin inside_twin (replaced_want π q) (proper_replaced π perm m q proper)

    module _ (all : AllLawful ms) where
      -- a swap goes through on both sides or on neither
      swap_new : (x : ℕ) (old next : Mark) → Name m x → lawful old ≡ true → lawful next ≡ true → says_yes (swap_answer new (entry other x) (replaced π old) (replaced π next)) ≡ same_mark (mark_at ms (entry s x)) old
      swap_new x old next name good fine =
          let e = inside_twin x name.0 name.1 in
          ap says_yes (swap_granted new (entry other x) (replaced π old) (replaced π next) e.0 (omega (arith, e.1, long_twin)) (replaced_lawful π perm old good) (replaced_lawful π perm next fine))
          ∙ ap (λ k. same_mark k (replaced π old)) (met_twin x name.0 name.1)
          ∙ same_replaced π perm (mark_at ms (entry s x)) old (all (entry s x)) good

      swap_old : (x : ℕ) (old next : Mark) → Name m x → lawful old ≡ true → lawful next ≡ true → says_yes (swap_answer ms (entry s x) old next) ≡ same_mark (mark_at ms (entry s x)) old
      swap_old x old next name good fine =
          let e = inside x name.0 name.1 in
          ap says_yes (swap_granted ms (entry s x) old next e.0 (omega (arith, e.1, long)) good fine)

      pub served_twin : (q : Want) → Proper m q → served m new other (replaced_want π q) ≡ replaced_reply π (served m ms s q)
      served_twin Look proper =
          ap marks
          (listed_same (λ x. mark_at new (entry other x)) (λ x. replaced π (mark_at ms (entry s x))) m met_twin
          ∙ sym (map_listed (replaced π) (λ x. mark_at ms (entry s x)) m))
      served_twin (Read x) proper = ap cell (met_twin x proper.0 proper.1)
      served_twin (Write x k) proper = refl
      served_twin (Swap x old next) proper = ap went (swap_new x old next proper.0 proper.1 proper.2 ∙ sym (swap_old x old next proper.0 proper.1 proper.2))

      put_entry : (x : ℕ) (k : Mark) → Name m x → put new (entry other x) (replaced π k) ≡ twin_store τ π m (put ms (entry s x) k)
      put_entry x k name =
          let e = inside x name.0 name.1 in
          ap (λ y. put new y (replaced π k)) (entry_twin x name.0 name.1) ∙ put_twin (entry s x) k e.0 e.1

      pub after_twin : (q : Want) → Proper m q → store_after new other (replaced_want π q) ≡ twin_store τ π m (store_after ms s q)
      after_twin Look proper = refl
      after_twin (Read x) proper = refl
      after_twin (Write x k) proper =
          let e = inside x proper.0.0 proper.0.1 in
          let f = inside_twin x proper.0.0 proper.0.1 in
          ap (λ c. cond (is_ok c) (put new (entry other x) (replaced π k)) new) (write_granted new (entry other x) (replaced π k) f.0 (omega (arith, f.1, long_twin)) (replaced_lawful π perm k proper.1))
          ∙ put_entry x k proper.0
          ∙ ap (λ c. twin_store τ π m (cond (is_ok c) (put ms (entry s x) k) ms)) (sym (write_granted ms (entry s x) k e.0 (omega (arith, e.1, long)) proper.1))
      after_twin (Swap x old next) proper =
          let goes = same_mark (mark_at ms (entry s x)) old in
          ap (λ b. cond b (put new (entry other x) (replaced π next)) new) (swap_new x old next proper.0 proper.1 proper.2)
          ∙ go goes
          ∙ ap (λ b. twin_store τ π m (cond b (put ms (entry s x) next) ms)) (sym (swap_old x old next proper.0 proper.1 proper.2))
        where
          go : (b : Bool) → cond b (put new (entry other x) (replaced π next)) new ≡ twin_store τ π m (cond b (put ms (entry s x) next) ms)
          go true = put_entry x next proper.0
          go false = refl
