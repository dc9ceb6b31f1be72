-- No agent's figure is larger than the calls heard. Assumes nothing.
use Rattle.std.proofs.Common.{◌≡◌, ℕ, zero, suc, ◌+◌, ◌-◌, ◌≤◌, max, List, [], ◌∷◌, set, Some, sym, ap, subst, arith}
use Rattle.std.proofs.lemmas.Bool.{cond_both}
use Rattle.numbers.specs.Names.{named}
use Rattle.numbers.specs.declared.sizes.Sizes.{Sizes}
use Rattle.plan.specs.declared.event.Event.{Event}
use Rattle.plan.specs.declared.event.Event.TheVariants.{Request, Step, Leave}
use Rattle.cells.specs.declared.mark.Mark.{Mark}
use Rattle.model.specs.Meanings.{Meaning}
use Rattle.model.specs.Rigs as model
use Rattle.rig.specs.Bounds.{peak, busiest}
use Rattle.rig.specs.Moves.{seat_after}
use Rattle.rig.specs.Worlds.{seat_over}
use Rattle.rig.specs.declared.seat.Seat.{Seat}

module _ {P : Type 0} where
  -- an agent's figures are among those of all
  pub peak_below : (ss : List (Seat P)) (k : ℕ) (s : Seat P) → Some s ≡ named ss k → peak s ≤ busiest ss
  unfolding named
  peak_below ss zero s e = let z : ◌≡◌ {A = ℕ} 0 1 = cc e in absurd (omega arith)
  peak_below [] (suc k) s e = let z : ◌≡◌ {A = ℕ} 0 1 = cc e in absurd (omega arith)
  peak_below (x ∷ ss) (suc zero) s e = let same : s ≡ x = cc e in subst (λ t. peak t ≤ max (peak x) (busiest ss)) (sym same) (omega arith)
  peak_below (x ∷ ss) (suc (suc k)) s e = let later = peak_below ss (suc k) s e in omega arith

  -- another seat whose figures are not too large
  pub busiest_set : (ss : List (Seat P)) (i : ℕ) (s : Seat P) (h : ℕ) → busiest ss ≤ h → peak s ≤ h → busiest (set ss i s) ≤ h
  busiest_set [] i s h a b = a
  busiest_set (x ∷ ss) zero s h a b = omega arith
  busiest_set (x ∷ ss) (suc i) s h a b = let later = busiest_set ss i s h (omega arith) b in omega arith

  pub busiest_put : (ss after : List (Seat P)) (k : ℕ) (s : Seat P) (h : ℕ) → after ≡ set ss (k - 1) s → busiest ss ≤ h → peak s ≤ h → busiest after ≤ h
  busiest_put ss after k s h e a b = subst (λ t. busiest t ≤ h) (sym e) (busiest_set ss (k - 1) s h a b)

  -- an agent's largest figure as the model has it
  abbrev top : model.Seat P → ℕ
  top s = max s.steps (max s.entries s.refused)

  -- an accepted call adds one to each figure at most
  acted_top : (R : Meaning P) (z : Sizes) (ms : List Mark) (e : Event) (s : model.Seat P) → top (seat_after R z ms e s) ≤ top s + 1
  acted_top R z ms (Request k) s = omega arith
  acted_top R z ms (Step k) s =
      let a = R.becomes z.agents z.cells s.agent (model.served z.cells ms s (R.wants z.agents z.cells s.agent)) in
      cond_both (model.is_holding a.section) 1 0 (λ v. max (s.steps + 1) (max (s.entries + v) s.refused) ≤ top s + 1) (λ _. omega arith) (λ _. omega arith)
  acted_top R z ms (Leave k) s = omega arith

  pub peak_acted : (R : Meaning P) (z : Sizes) (ms : List Mark) (e : Event) (s t : Seat P) (h : ℕ) → seat_over z.cells t ≡ seat_after R z ms e (seat_over z.cells s) → peak s ≤ h → peak t ≤ h + 1
  peak_acted R z ms e s t h becomes b =
      let same : peak t ≡ top (seat_after R z ms e (seat_over z.cells s)) = ap top becomes in
      omega (arith, same, acted_top R z ms e (seat_over z.cells s))

  -- an agent that stays as it was
  pub peak_kept : (m : ℕ) (s t : Seat P) → seat_over m t ≡ seat_over m s → peak t ≡ peak s
  peak_kept m s t same = ap top same
