-- Identities replaced: what counts, and what stays lawful. Assumes nothing.
use Rattle.std.proofs.Common.{◌≡◌, ℕ, zero, suc, ◌+◌, ◌-◌, ◌≤◌, true, cond, not, ◌&&◌, List, [], ◌∷◌, map, length, get_or, take, set, replicate, is_some, sym, refl, ap, ◌∙◌, subst, ⊎_elim, arith, get_or-take}
use Rattle.std.proofs.lemmas.List.{get_or-map, get_or_past, length-map, length-take, get_or-set_same, get_or-set_other, set_past, get_or-replicate, length-replicate}
use Rattle.std.proofs.lemmas.Bool.{cases_lt, cases_eq, eq-eqb, ne_eqb}
use Rattle.numbers.specs.First.{first_of}
use Rattle.numbers.proofs.FirstLaws.{first_same}
use Rattle.numbers.proofs.Pigeonhole.{apart_both}
use Rattle.numbers.proofs.RowLaws.{within_true, within_from}
use Rattle.cells.specs.Marks.{lawful, same_mark, mark_at}
use Rattle.cells.specs.declared.mark.Mark.{Mark}
use Rattle.cells.specs.declared.mark.Mark.TheVariants.{Empty, Owner, Rung}
use Rattle.tally.specs.Counts.{count_names, largest, is_owner, has, times, lowest, is_new, identities, times_at, most_of_one}
use Rattle.tally.proofs.CountLaws.{count_same, largest_same}
use Rattle.rules.specs.Records.{overlaid}
use Rattle.rules.specs.Lawful.{AllLawful, Permutes, replaced}

-- lists of lawful marks

pub lawful_nothing : (n : ℕ) → AllLawful (replicate n Empty)
lawful_nothing n y =
    ⊎_elim
    (λ less. subst (λ k. lawful k ≡ true) (sym (get_or-replicate n (y - 1) Empty Empty less)) refl)
    (λ past. subst (λ k. lawful k ≡ true) (sym (get_or_past (replicate n Empty) (y - 1) Empty (subst (λ l. l ≤ y - 1) (sym (length-replicate n Empty)) past))) refl)
    (cases_lt (y - 1) n)

pub lawful_set : (ms : List Mark) (i : ℕ) (k : Mark) → AllLawful ms → lawful k ≡ true → AllLawful (set ms i k)
lawful_set ms i k all good y =
    ⊎_elim
    (λ less.
    ⊎_elim
    (λ same. subst (λ j. lawful (get_or (set ms i k) j Empty) ≡ true) (sym same) (subst (λ l. lawful l ≡ true) (sym (get_or-set_same ms i k Empty less)) good))
    (λ other. subst (λ l. lawful l ≡ true) (sym (get_or-set_other ms i (y - 1) k Empty other)) (all y))
    (cases_eq (y - 1) i))
    (λ past. subst (λ l. lawful (mark_at l y) ≡ true) (sym (set_past ms i k past)) (all y))
    (cases_lt i (length ms))

pub lawful_take : (n : ℕ) (ms : List Mark) → AllLawful ms → AllLawful (take n ms)
lawful_take n ms all y =
    ⊎_elim
    (λ less. subst (λ l. lawful l ≡ true) (sym (get_or-take n ms (y - 1) Empty less)) (all y))
    (λ past. subst (λ l. lawful l ≡ true) (sym (get_or_past (take n ms) (y - 1) Empty (let long = length-take n ms in omega arith))) refl)
    (cases_lt (y - 1) n)

-- by index rather than by name
pub at_index : (ms : List Mark) → AllLawful ms → (i : ℕ) → lawful (get_or ms i Empty) ≡ true
at_index ms all i = let same : i + 1 - 1 ≡ i = omega arith in subst (λ j. lawful (get_or ms j Empty) ≡ true) same (all (i + 1))

pub from_index : (ms : List Mark) → ((i : ℕ) → lawful (get_or ms i Empty) ≡ true) → AllLawful ms
from_index ms h y = h (y - 1)

overlaid_index : (ks old : List Mark) → ((i : ℕ) → lawful (get_or ks i Empty) ≡ true) → ((i : ℕ) → lawful (get_or old i Empty) ≡ true) → (i : ℕ) → lawful (get_or (overlaid ks old) i Empty) ≡ true
overlaid_index [] old f g i = g i
overlaid_index (k ∷ ks) [] f g i = refl
overlaid_index (k ∷ ks) (o ∷ old) f g zero = f 0
overlaid_index (k ∷ ks) (o ∷ old) f g (suc i) = overlaid_index ks old (λ j. f (suc j)) (λ j. g (suc j)) i

pub lawful_overlaid : (ks old : List Mark) → AllLawful ks → AllLawful old → AllLawful (overlaid ks old)
lawful_overlaid ks old f g = from_index (overlaid ks old) (overlaid_index ks old (at_index ks f) (at_index old g))

module _ (π : ℕ → ℕ) (perm : Permutes π) where
  pub replaced_lawful : (k : Mark) → lawful k ≡ true → lawful (replaced π k) ≡ true
  replaced_lawful Empty good = refl
  replaced_lawful (Owner i) good =
      let w = within_true 1 65535 i good in
      let v = perm.inside i w.0 w.1 in
      within_from 1 65535 (π i) v.0 v.1
  replaced_lawful (Rung r) good = good

  -- a mark is another's exactly if it is after the replacement
  pub same_replaced : (a b : Mark) → lawful a ≡ true → lawful b ≡ true → same_mark (replaced π a) (replaced π b) ≡ same_mark a b
  same_replaced Empty Empty f g = refl
  same_replaced Empty (Owner j) f g = refl
  same_replaced Empty (Rung s) f g = refl
  same_replaced (Owner i) Empty f g = refl
  same_replaced (Owner i) (Owner j) f g =
      let a = within_true 1 65535 i f in
      let b = within_true 1 65535 j g in
      ⊎_elim
      (λ same. eq-eqb (π i) (π j) (ap π same) ∙ sym (eq-eqb i j same))
      (λ other. ne_eqb (π i) (π j) (λ e. other (apart_both π 65535 65535 i j perm a.0 a.1 b.0 b.1 e)) ∙ sym (ne_eqb i j other))
      (cases_eq i j)
  same_replaced (Owner i) (Rung s) f g = refl
  same_replaced (Rung r) Empty f g = refl
  same_replaced (Rung r) (Owner j) f g = refl
  same_replaced (Rung r) (Rung s) f g = refl

  owner_replaced : (k : Mark) → is_owner (replaced π k) ≡ is_owner k
  owner_replaced Empty = refl
  owner_replaced (Owner i) = refl
  owner_replaced (Rung r) = refl

  pub mark_replaced : (ms : List Mark) (y : ℕ) → mark_at (map (replaced π) ms) y ≡ replaced π (mark_at ms y)
  mark_replaced ms y =
      ⊎_elim
      (λ less. get_or-map (replaced π) ms (y - 1) Empty Empty less)
      (λ past.
      get_or_past (map (replaced π) ms) (y - 1) Empty (subst (λ l. l ≤ y - 1) (sym (length-map ms (replaced π))) past)
      ∙ ap (replaced π) (sym (get_or_past ms (y - 1) Empty past)))
      (cases_lt (y - 1) (length ms))

  pub all_replaced : (ms : List Mark) → AllLawful ms → AllLawful (map (replaced π) ms)
  all_replaced ms all y = subst (λ k. lawful k ≡ true) (sym (mark_replaced ms y)) (replaced_lawful (mark_at ms y) (all y))

  pub overlaid_replaced : (ks old : List Mark) → overlaid (map (replaced π) ks) (map (replaced π) old) ≡ map (replaced π) (overlaid ks old)
  overlaid_replaced [] old = refl
  overlaid_replaced (k ∷ ks) [] = refl
  overlaid_replaced (k ∷ ks) (o ∷ old) = ap (λ r. replaced π k ∷ r) (overlaid_replaced ks old)

  module _ (ms : List Mark) (all : AllLawful ms) where
    abbrev new : List Mark
    new = map (replaced π) ms

    same_length : length new ≡ length ms
    same_length = length-map ms (replaced π)

    pub has_replaced : (k : Mark) (y : ℕ) → lawful k ≡ true → has new (replaced π k) y ≡ has ms k y
    has_replaced k y good = ap (λ l. same_mark l (replaced π k)) (mark_replaced ms y) ∙ same_replaced (mark_at ms y) k (all y) good

    pub times_replaced : (k : Mark) → lawful k ≡ true → times new (replaced π k) ≡ times ms k
    times_replaced k good = ap (count_names (has new (replaced π k))) same_length ∙ count_same (has new (replaced π k)) (has ms k) (length ms) (λ y a b. has_replaced k y good)

    pub lowest_replaced : (k : Mark) → lawful k ≡ true → lowest new (replaced π k) ≡ lowest ms k
    lowest_replaced k good =
        ap (first_of (has new (replaced π k)) 1) same_length ∙ first_same (has new (replaced π k)) (has ms k) 1 (length ms) (1 + length ms) refl (λ y a b. has_replaced k y good)

    new_replaced : (y : ℕ) → is_new new y ≡ is_new ms y
    new_replaced y =
        let there = mark_replaced ms y in
        ap (λ k. is_owner k && not (is_some (first_of (has new k) 1 (y - 1)))) there
        ∙ ap (λ b. b && not (is_some (first_of (has new (replaced π (mark_at ms y))) 1 (y - 1)))) (owner_replaced (mark_at ms y))
        ∙ ap (λ o. is_owner (mark_at ms y) && not (is_some o)) (first_same (has new (replaced π (mark_at ms y))) (has ms (mark_at ms y)) 1 (y - 1) (1 + (y - 1)) refl (λ z a b. has_replaced (mark_at ms y) z (all y)))

    pub identities_replaced : identities new ≡ identities ms
    identities_replaced = ap (count_names (is_new new)) same_length ∙ count_same (is_new new) (is_new ms) (length ms) (λ y a b. new_replaced y)

    times_at_replaced : (y : ℕ) → times_at new y ≡ times_at ms y
    times_at_replaced y =
        let there = mark_replaced ms y in
        ap (λ k. cond (is_owner k) (times new k) 0) there
        ∙ ap (λ b. cond b (times new (replaced π (mark_at ms y))) 0) (owner_replaced (mark_at ms y))
        ∙ ap (λ t. cond (is_owner (mark_at ms y)) t 0) (times_replaced (mark_at ms y) (all y))

    pub most_replaced : most_of_one new ≡ most_of_one ms
    most_replaced = ap (largest (times_at new)) same_length ∙ largest_same (times_at new) (times_at ms) (length ms) (λ y a b. times_at_replaced y)
