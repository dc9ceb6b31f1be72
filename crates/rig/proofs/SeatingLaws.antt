-- Agents that are seated one after another by a load. Assumes nothing.
use Rattle.std.proofs.Common.{◌≡◌, ℕ, zero, suc, ◌+◌, ◌-◌, ◌≤◌, Some, refl, add-one, List, [], ◌∷◌, ◌++◌, map, length, get_or, take, length-append, sym, ap, subst, ⊎_elim, ◌∙◌, arith}
use Rattle.std.proofs.lemmas.List.{length-map, get_or_append_left}
use Rattle.numbers.specs.Names.{named, listed}
use Rattle.numbers.proofs.NameLaws.{listed_from, named_listed, getD_listed}
use Rattle.plan.specs.Plans.{plan_at, identity_at}
use Rattle.plan.specs.declared.header.Header.{Header}
use Rattle.model.specs.Loads.{new_seat}
use Rattle.model.specs.Meanings.{Meaning}
use Rattle.model.specs.Rigs as model
use Rattle.rig.specs.Bounds.{peak, busiest}
use Rattle.rig.specs.Seating.{MadeOf}
use Rattle.rig.proofs.SeatLaws.{named_there, named_some, named_map_some}
use Rattle.std.proofs.lemmas.Bool.{cases_eq}
use Rattle.std.proofs.Math.Seq.{get_or-append_seam}
use Rattle.rig.specs.Newcomers.{newcomer}
use Rattle.rig.specs.Worlds.{seat_over}
use Rattle.rig.specs.declared.seat.Seat.{Seat}

-- no seats yet, and one seat more
pub made_none : {A : Type 0} (made : ℕ → A → Type 0) (xs : List A) → xs ≡ [] → MadeOf made xs 0
made_none made xs e = record { long = ap length e; each = λ k a b. absurd (omega arith) }

pub made_more : {A : Type 0} (made : ℕ → A → Type 0) (xs after : List A) (s : A) (k : ℕ) → 1 ≤ k → after ≡ xs ++ s ∷ [] → made k s → MadeOf made xs (k - 1) → MadeOf made after k
made_more made xs after s k low e here before =
    let grown : length after ≡ length xs + 1 = ap length e ∙ length-append xs (s ∷ []) in
    record {
      long = omega (arith, grown, before.long);
      each = λ j a b.
          ⊎_elim
          (λ same.
          let last : j - 1 ≡ length xs = omega (arith, before.long, same, low) in (
            s,
            named_there after j s a (omega (arith, grown, before.long)) ∙ ap Some (ap (λ ys. get_or ys (j - 1) s) e ∙ ap (λ i. get_or (xs ++ s ∷ []) i s) last ∙ get_or-append_seam xs s [] s),
            subst (λ i. made i s) (sym same) here,
          ))
          (λ other.
          let old = before.each j a (omega (arith, other, b)) in (
            old.0,
            named_there after j old.0 a (omega (arith, grown, before.long)) ∙ ap Some (ap (λ ys. get_or ys (j - 1) old.0) e ∙ get_or_append_left xs (s ∷ []) old.0 (j - 1) (omega (arith, before.long, other, b, low))) ∙ sym (named_there xs j old.0 a (omega (arith, before.long, other, b))) ∙ old.1,
            old.2,
          ))
          (cases_eq j k);
    }

module _ {P : Type 0} where
  -- a new agent's seat, as the model has it
  pub seat_made : (R : Meaning P) (s : Seat P) (i j m : ℕ) (t row : List ℕ) → s ≡ newcomer R.loaded i t → i ≡ j → take m t ≡ row → seat_over m s ≡ new_seat R j row
  seat_made R s i j m t row e same front = ap (seat_over m) e ∙ ap (λ n. new_seat R n (take m t)) same ∙ ap (new_seat R j) front

  pub seat_fresh : (p : P) (s : Seat P) (i : ℕ) (t : List ℕ) → s ≡ newcomer p i t → peak s ≡ 0
  seat_fresh p s i t e = ap peak e

  -- the agents 1 to i are seated as f says, and have no figures
  abbrev pub Seated : (ℕ → model.Seat P) → ℕ → List (Seat P) → ℕ → Type 0
  Seated f m xs i = (map (seat_over m) xs ≡ listed f i) × (busiest xs ≡ 0)

  -- whose figures are all 0
  all_fresh : (xs : List (Seat P)) → ((k : ℕ) (s : Seat P) → named xs k ≡ Some s → peak s ≡ 0) → busiest xs ≡ 0
  unfolding named
  all_fresh [] h = refl
  all_fresh (x ∷ xs) h =
      let rest = all_fresh xs (λ k s e. h (k + 1) s (ap (named (x ∷ xs)) (add-one k) ∙ named_later x xs k s e)) in
      omega (arith, h 1 x refl, rest)
    where
      named_later : (y : Seat P) (ys : List (Seat P)) (k : ℕ) (s : Seat P) → named ys k ≡ Some s → named (y ∷ ys) (suc k) ≡ Some s
      named_later y ys zero s e = let z : ◌≡◌ {A = ℕ} 0 1 = cc e in absurd (omega arith)
      named_later y ys (suc k) s e = e

  -- the agents as they were made, one by one
  pub made_seated : (f : ℕ → model.Seat P) (m : ℕ) (xs : List (Seat P)) (n : ℕ) → length xs ≡ n → ((k : ℕ) → 1 ≤ k → k ≤ n → (s : Seat P) × (named xs k ≡ Some s) × (seat_over m s ≡ f k) × (peak s ≡ 0)) → Seated f m xs n
  made_seated f m xs n long each = (
    listed_from f n (f 0) (map (seat_over m) xs) (length-map xs (seat_over m) ∙ long)
        (λ k a b.
        let one = each k a b in
        let at : named (map (seat_over m) xs) k ≡ Some (seat_over m one.0) = named_map_some (seat_over m) xs k one.0 (sym one.1) in
        let there : named (map (seat_over m) xs) k ≡ Some (get_or (map (seat_over m) xs) (k - 1) (f 0)) = named_there (map (seat_over m) xs) k (f 0) a (omega (arith, b, long, length-map xs (seat_over m))) in
        let same : get_or (map (seat_over m) xs) (k - 1) (f 0) ≡ seat_over m one.0 = cc (at, there) in
        same ∙ one.2),
    all_fresh xs
        (λ k s e.
        let b = named_some xs k s e in
        let one = each k b.0 (omega (arith, b.1, long)) in
        let same : s ≡ one.0 = cc (e, one.1) in
        ap peak same ∙ one.3),
  )

-- what a plan says of an agent's identity
pub identity_planned : (h : Header) (file : List ℕ) (k v : ℕ) → 1 ≤ k → k ≤ h.agents → Some v ≡ named (plan_at h file).identities k → v ≡ get_or (plan_at h file).identities (k - 1) 0
identity_planned h file k v a b e =
    let there : Some v ≡ Some (identity_at h file k) = e ∙ named_listed (identity_at h file) h.agents k a b in
    let same : v ≡ identity_at h file k = cc there in
    same ∙ sym (getD_listed (identity_at h file) h.agents k 0 a b)
