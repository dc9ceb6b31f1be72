-- Rounds, agent by agent. Assumes nothing.
use Rattle.std.proofs.Common.{◌≡◌, ℕ, suc, ◌+◌, ◌-◌, ◌≤◌, true, false, is_err, Some, None, Ok, Err, Option, sym, refl, ap, ◌∙◌, le_refl, arith}
use Rattle.numbers.specs.Names.{named}
use Rattle.refusal.specs.Checks.{◌then◌, Check}
use Rattle.plan.specs.declared.event.Event.{Event}
use Rattle.plan.specs.declared.event.Event.TheVariants as event
use Rattle.model.specs.Meanings.{Meaning}
use Rattle.model.specs.Rigs as model
use Rattle.model.specs.Rounds.{given, in_turn, all_may, moving, round_hearing, round_answer, after_round}
use Rattle.model.specs.declared.Round.{Round}

-- the next name, where those before it are done
pub in_turn_next : {A : Type 0} (f : A → ℕ → A) (a b : A) (n : ℕ) → 1 ≤ n → b ≡ in_turn f a (n - 1) → f b n ≡ in_turn f a n
in_turn_next f a b n low before =
    let next : suc (n - 1) ≡ n = omega arith in
    ap (λ c. f c n) before ∙ sym (ap (λ k. f (in_turn f a (n - 1)) k) next) ∙ ap (in_turn f a) next

-- a check that refused
pub refusing : (c : Check) → model.after_check c false true ≡ is_err c
refusing (Ok u) = refl
refusing (Err e) = refl

module _ {P : Type 0} where
  -- a call is heard once at most
  at_most_once : (o : Option (model.Seat P)) (f : model.Seat P → model.World P) (w : model.World P) → ((s : model.Seat P) → (f s).rig.heard ≤ w.rig.heard + 1) → (model.at_seat o f w).rig.heard ≤ w.rig.heard + 1
  at_most_once None f w h = omega arith
  at_most_once (Some s) f w h = h s

  checked_once : (c : Check) (v w : model.World P) → v.rig.heard ≡ w.rig.heard + 1 → (model.after_check c v w).rig.heard ≤ w.rig.heard + 1
  checked_once (Ok u) v w h = omega arith
  checked_once (Err e) v w h = omega arith

  done_once : (R : Meaning P) (w : model.World P) (e : Event) (s : model.Seat P) → (model.done_by R w e s).rig.heard ≡ w.rig.heard + 1
  done_once R w (event.Request k) s = refl
  done_once R w (event.Step k) s = refl
  done_once R w (event.Leave k) s = refl

  moved_heard : (R : Meaning P) (w : model.World P) (e : Event) → (model.moved R w e).rig.heard ≤ w.rig.heard + 1
  moved_heard R w e = at_most_once (named w.rig.seats (model.agent_of e)) _ w (λ s. checked_once (model.serving_check R w e s) (model.done_by R w e s) w (done_once R w e s))

  -- and so is one that is refused
  pub heard_heard : (R : Meaning P) (w : model.World P) (e : Event) (c : Check) → (model.after_check c (model.moved R w e) (model.turned_away R w e)).rig.heard ≤ w.rig.heard + 1
  heard_heard R w e (Ok u) = moved_heard R w e
  heard_heard R w e (Err x) = at_most_once (named w.rig.seats (model.agent_of e)) _ w (λ s. le_refl (w.rig.heard + 1))

  -- the next agent's call, heard by what the check of all said
  pub heard_in_turn : (R : Meaning P) (r : Round) (c : Check) (w v : model.World P) (k : ℕ) → 1 ≤ k
      → v ≡ in_turn (λ u j. model.after_check c (model.moved R u (given r j)) (model.turned_away R u (given r j))) w (k - 1)
      → model.after_check c (model.moved R v (given r k)) (model.turned_away R v (given r k)) ≡ in_turn (λ u j. model.after_check c (model.moved R u (given r j)) (model.turned_away R u (given r j))) w k
  heard_in_turn R r c w v k low before = in_turn_next (λ u j. model.after_check c (model.moved R u (given r j)) (model.turned_away R u (given r j))) w v k low before

  -- a round that is heard, by what the check of all its agents says
  module _ (R : Meaning P) (r : Round) (w : model.World P) (l : ℕ) (moves : l ≡ moving w.rig.standoff) (heard : Ok tt ≡ round_hearing w.rig w.rig.standoff) where
    pub round_says : (c : Check) → c ≡ all_may r w.rig l → c ≡ round_answer w r
    round_says c e = e ∙ ap (all_may r w.rig) moves ∙ ap (λ d. d then all_may r w.rig (moving w.rig.standoff)) heard

    does : ℕ → model.World P
    does n = in_turn (λ v k. model.moved R v (given r k)) w n

    turns : ℕ → model.World P
    turns n = in_turn (λ v k. model.turned_away R v (given r k)) w n

    after_heard : (c : Check) → c ≡ all_may r w.rig l → model.after_check c (does l) (turns l) ≡ after_round R w r
    unfolding does turns
    after_heard c e =
        ap (λ n. model.after_check c (does n) (turns n)) moves
        ∙ ap (λ d. model.after_check d (does (moving w.rig.standoff)) (turns (moving w.rig.standoff))) (e ∙ ap (all_may r w.rig) moves)
        ∙ ap (λ d. model.after_check d (model.after_check (all_may r w.rig (moving w.rig.standoff)) (does (moving w.rig.standoff)) (turns (moving w.rig.standoff))) w) heard

    -- each agent's call is heard by what the check of all said
    heard_as : (c : Check) → in_turn (λ v k. model.after_check c (model.moved R v (given r k)) (model.turned_away R v (given r k))) w l ≡ model.after_check c (does l) (turns l)
    unfolding does turns
    heard_as (Ok u) = refl
    heard_as (Err x) = refl

    pub round_heard : (c : Check) → c ≡ all_may r w.rig l → in_turn (λ v k. model.after_check c (model.moved R v (given r k)) (model.turned_away R v (given r k))) w l ≡ after_round R w r
    round_heard c e = heard_as c ∙ after_heard c e
