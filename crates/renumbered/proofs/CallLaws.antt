-- Calls of a renumbered store, by calls of the store below. Assumes nothing.
use Rattle.std.proofs.Common.{◌≡◌, ℕ, ◌-◌, ◌≤◌, Bool, true, false, cond, not, List, length, Ok, Err, Result, sym, refl, ap, ◌∙◌}
use Rattle.std.proofs.lemmas.List.{length-set}
use Rattle.numbers.specs.Rows.{within}
use Rattle.numbers.proofs.RowLaws.{within_from}
use Rattle.refusal.specs.Checks.{◌then◌, refuse_if}
use Rattle.refusal.proofs.CheckLaws.{ok_then, err_then}
use Rattle.refusal.specs.declared.Refusal.{Refusal}
use Rattle.refusal.specs.declared.Refusal.TheVariants.{NoSuchCell}
use Rattle.cells.proofs.StoreLaws.{accepted_name}
use Rattle.cells.specs.Marks.{name_check, mark_at, put}
use Rattle.cells.specs.declared.mark.Mark.{Mark}
use Rattle.renumbered.specs.Renumberings.{renumbered_marks}
use Rattle.renumbered.specs.Stores.{by_table}
use Rattle.renumbered.specs.declared.numbering.Numbering.{Numbering}
use Rattle.renumbered.proofs.RenumberingLaws.{length_renumbered, mark_renumbered, put_renumbered}
use Rattle.renumbered.proofs.TableLaws.{table_distinct}

-- a name that is one passes
accepted : {A : Type 0} (c y : ℕ) (r : Result A Refusal) → within 1 c y ≡ true → (name_check c y then r) ≡ r
accepted c y r w = ap (λ b. refuse_if (not b) (NoSuchCell y) then r) w

module _ (n : Numbering) (ms : List Mark) (y : ℕ) where
  abbrev σ : ℕ → ℕ
  σ = by_table n (length ms)

  abbrev above : List Mark
  above = renumbered_marks σ ms

  -- the marks above that a list below shows
  abbrev shown : List Mark → List Mark
  shown now = renumbered_marks (by_table n (length now)) now

  changed : (b : Bool) (k : Mark) → 1 ≤ y → y ≤ length ms → shown (cond b (put ms (σ y) k) ms) ≡ cond b (put above y k) above
  changed true k low high =
      ap (λ c. renumbered_marks (by_table n c) (put ms (σ y) k)) (length-set ms (σ y - 1) k) ∙ put_renumbered σ ms y k (table_distinct n (length ms)) low high
  changed false k low high = refl

  -- a call that checks the name and then answers by the mark there
  module _ {A : Type 0} (F : Mark → Result A Refusal) where
    abbrev answer : List Mark → ℕ → Result A Refusal
    answer now z = name_check (length now) z then F (mark_at now z)

    -- the name was refused
    pub answer_refused : (e : Refusal) → Err e ≡ (name_check (length ms) y then Ok (σ y)) → Err e ≡ answer above y
    answer_refused e is =
        err_then (name_check (length ms) y) (Ok (σ y)) (F (mark_at above y)) (σ y) e refl is
        ∙ ap (λ c. name_check c y then F (mark_at above y)) (sym (length_renumbered σ ms))

    pub after_refused : (puts : Result A Refusal → Bool) (k : Mark) (e : Refusal) → puts (Err e) ≡ false → Err e ≡ (name_check (length ms) y then Ok (σ y)) → above ≡ cond (puts (answer above y)) (put above y k) above
    after_refused puts k e none is =
        ap (λ b. cond b (put above y k) above) (sym none) ∙ ap (λ r. cond (puts r) (put above y k) above) (answer_refused e is)

    module _ (z : ℕ) (is : Ok z ≡ (name_check (length ms) y then Ok (σ y))) where
      named : (1 ≤ y) × (y ≤ length ms)
      named = let p = ok_then (name_check (length ms) y) (Ok (σ y)) z is in accepted_name (length ms) y (sym p.0)

      below : z ≡ σ y
      below = let p = ok_then (name_check (length ms) y) (Ok (σ y)) z is in let same = p.1 in cc

      -- the name was taken, and z stands for it below
      pub answer_taken : answer ms z ≡ answer above y
      answer_taken =
          let c = length ms in
          let w = named in
          let v = (table_distinct n c).inside y w.0 w.1 in
          ap (answer ms) below
          ∙ accepted c (σ y) (F (mark_at ms (σ y))) (within_from 1 c (σ y) v.0 v.1)
          ∙ ap F (sym (mark_renumbered σ ms y w.0 w.1))
          ∙ sym (ap (λ c. name_check c y then F (mark_at above y)) (length_renumbered σ ms) ∙ accepted c y (F (mark_at above y)) (within_from 1 c y w.0 w.1))

      -- what the list becomes, where the answer decides whether k is put
      pub after_taken : (puts : Result A Refusal → Bool) (k : Mark) (now : List Mark) → now ≡ cond (puts (answer ms z)) (put ms z k) ms → shown now ≡ cond (puts (answer above y)) (put above y k) above
      after_taken puts k now e =
          ap shown (e ∙ ap (λ x. cond (puts (answer ms z)) (put ms x k) ms) below)
          ∙ changed (puts (answer ms z)) k named.0 named.1
          ∙ ap (λ r. cond (puts r) (put above y k) above) answer_taken
