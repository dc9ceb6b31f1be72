-- Laws of cells by other names. Assumes nothing.
use Rattle.std.proofs.Common.{◌≡◌, ℕ, ◌-◌, ◌≤◌, Bool, true, false, not, ◌&&◌, eqb, List, length, is_some, sym, refl, ap, ◌∙◌, subst, ⊎_elim, arith}
use Rattle.std.proofs.lemmas.List.{length-set, get_or-set_same, get_or-set_other}
use Rattle.std.proofs.lemmas.Bool.{cases_eq, cases_Bool, not-true, eq-eqb, ne_eqb, and_from, and_left, and_right, cond-true, cond-false}
use Rattle.numbers.specs.Rows.{within, first_misfit, Distinct}
use Rattle.numbers.proofs.NameLaws.{length_listed, getD_listed, listed_from}
use Rattle.numbers.proofs.Pigeonhole.{apart_both}
use Rattle.numbers.proofs.RowLaws.{passes, within_from, distinct_places, distinct_same}
use Rattle.cells.specs.Marks.{mark_at, put}
use Rattle.cells.specs.declared.mark.Mark.{Mark}
use Rattle.cells.specs.declared.mark.Mark.TheVariants.{Empty}
use Rattle.renumbered.specs.Renumberings.{entry, arranged, sigma, renumbered_marks}

-- a table that is arranged, and one that is not
pub arranged_distinct : (names : List ℕ) (count : ℕ) → arranged names count ≡ true → Distinct (entry names) count count
unfolding arranged
arranged_distinct names count e = (passes (entry names) count count).0 (not-true (is_some (first_misfit (entry names) count count)) e)

pub distinct_arranged : (names : List ℕ) (count : ℕ) → Distinct (entry names) count count → arranged names count ≡ true
unfolding arranged
distinct_arranged names count d = ap not ((passes (entry names) count count).1 d)

module _ (names : List ℕ) (count c : ℕ) where
  abbrev counts : ℕ → Bool
  counts y = within 1 c y && arranged names count

  pub sigma_in : (y : ℕ) → count ≡ c → within 1 c y ≡ true → arranged names count ≡ true → sigma names count c y ≡ entry names y
  unfolding sigma
  sigma_in y e w good =
      cond-true (eqb count c && counts y) _ _ (and_from (eqb count c) (counts y) (eq-eqb count c e) (and_from (within 1 c y) (arranged names count) w good))

  pub sigma_other : (y : ℕ) → (count ≡ c → ⊥) → sigma names count c y ≡ y
  unfolding sigma
  sigma_other y n = cond-false (eqb count c && counts y) _ _ (and_left (eqb count c) (counts y) (ne_eqb count c n))

  pub sigma_out : (y : ℕ) → within 1 c y ≡ false → sigma names count c y ≡ y
  unfolding sigma
  sigma_out y w = cond-false (eqb count c && counts y) _ _ (and_right (eqb count c) (counts y) (and_left (within 1 c y) (arranged names count) w))

  pub sigma_disordered : (y : ℕ) → arranged names count ≡ false → sigma names count c y ≡ y
  unfolding sigma
  sigma_disordered y bad = cond-false (eqb count c && counts y) _ _ (and_right (eqb count c) (counts y) (and_right (within 1 c y) (arranged names count) bad))

  -- the names from 1 to c go to these names, each once
  pub sigma_distinct : Distinct (sigma names count c) c c
  sigma_distinct =
      ⊎_elim
      (λ same.
      ⊎_elim
      (λ good.
      distinct_same (entry names) (sigma names count c) c c (λ y a b. sym (sigma_in y same (within_from 1 c y a b) good)) (subst (λ n. Distinct (entry names) n n) same (arranged_distinct names count good)))
      (λ bad. distinct_same (λ y. y) (sigma names count c) c c (λ y a b. sym (sigma_disordered y bad)) (distinct_places c))
      (cases_Bool (arranged names count)))
      (λ other. distinct_same (λ y. y) (sigma names count c) c c (λ y a b. sym (sigma_other y other)) (distinct_places c))
      (cases_eq count c)

module _ (σ : ℕ → ℕ) (ms : List Mark) where
  pub length_renumbered : length (renumbered_marks σ ms) ≡ length ms
  unfolding renumbered_marks
  length_renumbered = length_listed (λ y. mark_at ms (σ y)) (length ms)

  pub mark_renumbered : (y : ℕ) → 1 ≤ y → y ≤ length ms → mark_at (renumbered_marks σ ms) y ≡ mark_at ms (σ y)
  unfolding renumbered_marks
  mark_renumbered y = getD_listed (λ y. mark_at ms (σ y)) (length ms) y Empty

  -- a list with these marks is that list
  pub renumbered_from : (xs : List Mark) → length xs ≡ length ms → ((y : ℕ) → 1 ≤ y → y ≤ length ms → mark_at xs y ≡ mark_at ms (σ y)) → xs ≡ renumbered_marks σ ms
  unfolding renumbered_marks
  renumbered_from = listed_from (λ y. mark_at ms (σ y)) (length ms) Empty

-- other names that are the same
pub renumbered_same : (σ τ : ℕ → ℕ) (ms : List Mark) → ((y : ℕ) → 1 ≤ y → y ≤ length ms → σ y ≡ τ y) → renumbered_marks σ ms ≡ renumbered_marks τ ms
renumbered_same σ τ ms same =
    renumbered_from τ ms (renumbered_marks σ ms) (length_renumbered σ ms) (λ y a b. mark_renumbered σ ms y a b ∙ ap (mark_at ms) (same y a b))

pub renumbered_not : (σ : ℕ → ℕ) (ms : List Mark) → ((y : ℕ) → 1 ≤ y → y ≤ length ms → σ y ≡ y) → renumbered_marks σ ms ≡ ms
renumbered_not σ ms same = sym (renumbered_from σ ms ms refl (λ y a b. ap (mark_at ms) (sym (same y a b))))

-- renumbered twice is renumbered by both at once
pub renumbered_twice : (σ τ : ℕ → ℕ) (ms : List Mark) → Distinct σ (length (renumbered_marks τ ms)) (length (renumbered_marks τ ms)) → renumbered_marks σ (renumbered_marks τ ms) ≡ renumbered_marks (λ y. τ (σ y)) ms
renumbered_twice σ τ ms d =
    let mid = renumbered_marks τ ms in
    let long = length_renumbered τ ms in
    renumbered_from (λ y. τ (σ y)) ms (renumbered_marks σ mid) (length_renumbered σ mid ∙ long)
    (λ y a b.
    let w = d.inside y a (omega arith) in
    mark_renumbered σ mid y a (omega arith) ∙ mark_renumbered τ ms (σ y) w.0 (omega (arith, w.1)))

-- a mark put at the name below stands at the name above, and nowhere else
pub put_renumbered : (σ : ℕ → ℕ) (ms : List Mark) (y : ℕ) (k : Mark) → Distinct σ (length ms) (length ms) → 1 ≤ y → y ≤ length ms → renumbered_marks σ (put ms (σ y) k) ≡ put (renumbered_marks σ ms) y k
put_renumbered σ ms y k d a b =
    let c = length ms in
    let above = renumbered_marks σ ms in
    let long = length_renumbered σ ms in
    let same_length = length-set ms (σ y - 1) k in
    let w = d.inside y a b in
    sym
    (renumbered_from σ (put ms (σ y) k) (put above y k) (length-set above (y - 1) k ∙ long ∙ sym same_length)
    (λ z e f.
    let g : z ≤ c = omega arith in
    let v = d.inside z e g in
    ⊎_elim
    (λ same.
    subst (λ x. mark_at (put above y k) x ≡ mark_at (put ms (σ y) k) (σ x)) (sym same)
    (get_or-set_same above (y - 1) k Empty (omega arith) ∙ sym (get_or-set_same ms (σ y - 1) k Empty (omega (arith, w.0, w.1)))))
    (λ other.
    let n : σ z ≡ σ y → ⊥ = λ s. other (apart_both σ c c z y d e g a b s) in
    get_or-set_other above (y - 1) (z - 1) k Empty (omega arith) ∙ mark_renumbered σ ms z e g ∙ sym (get_or-set_other ms (σ y - 1) (σ z - 1) k Empty (λ s. n (omega (arith, s, v.0, w.0)))))
    (cases_eq z y)))
