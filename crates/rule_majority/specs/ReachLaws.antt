-- Every call leads from reachable records to reachable ones. Assumes nothing.
use Rattle.std.specs.Prelude.{◌≡◌, ℕ, ◌+◌, ◌-◌, ◌*◌, ◌<◌, ◌≤◌, true, cond, length, Some, None, Option, ◌≢◌, nat_lt, refl}
use Rattle.std.proofs.Common.{sym, subst, ◌∙◌, inl, ⊎_elim, arith}
use Rattle.std.proofs.lemmas.List.{length-set, length-replicate}
use Rattle.std.proofs.lemmas.Bool.{ltb-true, cond_both}
use Rattle.std.specs.Option.{unwrap_or}
use Rattle.cells.specs.Marks.{lawful, mark_at}
use Rattle.cells.specs.declared.mark.Mark.{Mark}
use Rattle.cells.specs.declared.mark.Mark.TheVariants.{Empty}
use Rattle.rules.specs.Records.{Reply, marks, cell, done, went, own, seen_at, going, loaded_agent}
use Rattle.rules.specs.Lawful.{Sized, LawfulIdentity, AllLawful, Name, Moves, Holds, Fits}
use Rattle.rules.proofs.ReplaceLaws.{lawful_nothing, lawful_set}
use Rattle.rules.specs.declared.agent.Section.{Section}
use Rattle.rules.specs.declared.agent.Section.TheVariants.{Idle, Asking, Holding, Leaving}
use Rattle.rule_majority.specs.declared.phase.MajorityPhase.{MajorityPhase}
use Rattle.rule_majority.specs.declared.phase.MajorityPhase.TheVariants.{Take, Scan, Give, Wait}
use Rattle.rule_majority.specs.declared.verdict.Verdict.TheVariants.{Withdraw, Hold, Again}
use Rattle.rule_majority.specs.Majority.{Record, own_name, own_seen, most_seen, all_empty, noted, to, nothing_left_in, give_at, give_next, by_verdict, decided, waited, majority_asked, majority_left, want_in, step_in, Reachable}
use Rattle.rule_majority.specs.SeenLaws.{lowest_tells, lowest_none}

-- sections and phases are different

asking_idle : Asking ≡ Idle → ⊥
asking_idle e = let z : ◌≡◌ {A = ℕ} 0 1 = cc in omega arith

asking_holding : Asking ≡ Holding → ⊥
asking_holding e = let z : ◌≡◌ {A = ℕ} 0 1 = cc in omega arith

asking_leaving : Asking ≡ Leaving → ⊥
asking_leaving e = let z : ◌≡◌ {A = ℕ} 0 1 = cc in omega arith

leaving_idle : Leaving ≡ Idle → ⊥
leaving_idle e = let z : ◌≡◌ {A = ℕ} 0 1 = cc in omega arith

leaving_holding : Leaving ≡ Holding → ⊥
leaving_holding e = let z : ◌≡◌ {A = ℕ} 0 1 = cc in omega arith

idle_holding : Idle ≡ Holding → ⊥
idle_holding e = let z : ◌≡◌ {A = ℕ} 0 1 = cc in omega arith

idle_leaving : Idle ≡ Leaving → ⊥
idle_leaving e = let z : ◌≡◌ {A = ℕ} 0 1 = cc in omega arith

holding_leaving : Holding ≡ Leaving → ⊥
holding_leaving e = let z : ◌≡◌ {A = ℕ} 0 1 = cc in omega arith

take_give : Take ≡ Give → ⊥
take_give e = let z : ◌≡◌ {A = ℕ} 0 1 = cc in omega arith

scan_give : Scan ≡ Give → ⊥
scan_give e = let z : ◌≡◌ {A = ℕ} 0 1 = cc in omega arith

wait_give : Wait ≡ Give → ⊥
wait_give e = let z : ◌≡◌ {A = ℕ} 0 1 = cc in omega arith

-- what no move takes away
record Sound (a : Record) : Type 0 where
  pub identity_lawful : LawfulIdentity a.identity
  pub seen_lawful : AllLawful a.seen
  pub long : length a.seen ≡ 64

sound : (m : ℕ) (a : Record) → Reachable m a → Sound a
sound m a h = record { identity_lawful = h.lawful_identity; seen_lawful = h.lawful_seen; long = h.room }

sound_noted : (a : Record) (k : Mark) → Sound a → lawful k ≡ true → Sound (noted a k)
sound_noted a k h good = record {
  identity_lawful = h.identity_lawful;
  seen_lawful = lawful_set a.seen (a.name - 1) k h.seen_lawful good;
  long = length-set a.seen (a.name - 1) k ∙ h.long;
}

module _ (m : ℕ) (a : Record) (h : Sound a) where
  asking_at : (p : MajorityPhase) (x : ℕ) → a.section ≡ Asking → Name m x → (p ≡ Give → mark_at a.seen x ≡ own a) → Reachable m (to a p x)
  asking_at p x is name gives = record {
    lawful_identity = h.identity_lawful;
    lawful_seen = h.seen_lawful;
    room = h.long;
    named = name;
    idle = λ e. absurd (asking_idle (sym is ∙ e));
    holding = λ e. absurd (asking_holding (sym is ∙ e));
    leaving = λ e. absurd (asking_leaving (sym is ∙ e));
    giving = gives;
  }

  leaving_at : (s : Section) (x : ℕ) → s ≡ Leaving → Name m x → mark_at a.seen x ≡ own a → Reachable m (going a s Give x)
  leaving_at s x is name gives = record {
    lawful_identity = h.identity_lawful;
    lawful_seen = h.seen_lawful;
    room = h.long;
    named = name;
    idle = λ e. absurd (leaving_idle (sym is ∙ e));
    holding = λ e. absurd (leaving_holding (sym is ∙ e));
    leaving = λ _. refl;
    giving = λ _. gives;
  }

  idle_at : 1 ≤ m → Reachable m (going a Idle Take 1)
  idle_at some = record {
    lawful_identity = h.identity_lawful;
    lawful_seen = h.seen_lawful;
    room = h.long;
    named = (omega arith, some);
    idle = λ _. (refl, refl);
    holding = λ e. absurd (idle_holding e);
    leaving = λ e. absurd (idle_leaving e);
    giving = λ e. absurd (take_give e);
  }

  holding_at : 1 ≤ m → m < 2 * own_seen m a → Reachable m (going a Holding Take 1)
  holding_at some more = record {
    lawful_identity = h.identity_lawful;
    lawful_seen = h.seen_lawful;
    room = h.long;
    named = (omega arith, some);
    idle = λ e. absurd (idle_holding (sym e));
    holding = λ _. (refl, refl, more);
    leaving = λ e. absurd (holding_leaving e);
    giving = λ e. absurd (take_give e);
  }

  module _ (some : 1 ≤ m) where
    take_again : a.section ≡ Asking → Reachable m (to a Take 1)
    take_again is = asking_at Take 1 is (omega arith, some) (λ e. absurd (take_give e))

    wait_again : a.section ≡ Asking → Reachable m (to a Wait 1)
    wait_again is = asking_at Wait 1 is (omega arith, some) (λ e. absurd (wait_give e))

    give_reach_at : (o : Option ℕ) → own_name m a ≡ o → Moves a → Reachable m (give_at o a)
    give_reach_at (Some x) found moves =
        let here = lowest_tells m a.seen (own a) x found in
        ⊎_elim (λ e. asking_at Give x e here.0 (λ _. here.1)) (λ e. leaving_at a.section x e here.0 here.1) moves
    give_reach_at None found moves =
        ⊎_elim
        (λ e. subst (λ s. Reachable m (nothing_left_in s a)) (sym e) (wait_again e))
        (λ e. subst (λ s. Reachable m (nothing_left_in s a)) (sym e) (idle_at some))
        moves

    give_reach : Moves a → Reachable m (give_next m a)
    give_reach moves = give_reach_at (own_name m a) refl moves

    decide_reach : a.section ≡ Asking → Reachable m (decided m a)
    decide_reach is =
        let k = own_seen m a in
        let t = most_seen m a in
        cond_both (nat_lt k t) Withdraw (cond (nat_lt m (2 * k)) Hold Again) (λ v. Reachable m (by_verdict v m a))
        (λ _. give_reach (inl is))
        (λ _.
        cond_both (nat_lt m (2 * k)) Hold Again (λ v. Reachable m (by_verdict v m a))
        (λ e. holding_at some (ltb-true m (2 * k) e))
        (λ _. take_again is))

    wait_reach : a.section ≡ Asking → Reachable m (waited m a)
    wait_reach is =
        cond_both (all_empty m a) (to a Take 1) (to a Wait 1) (Reachable m) (λ _. take_again is) (λ _. wait_again is)

    leave_reach_at : (o : Option ℕ) → own_name m a ≡ o → m < 2 * own_seen m a → Reachable m (going a Leaving Give (unwrap_or o 1))
    leave_reach_at (Some x) found more =
        let here = lowest_tells m a.seen (own a) x found in leaving_at Leaving x refl here.0 here.1
    leave_reach_at None found more = absurd (omega (arith, lowest_none (seen_at a m) (own a) found))

-- in any phase but GIVE a moving agent asks
asks_in : (m : ℕ) (a : Record) (p : MajorityPhase) → a.phase ≡ p → (p ≢ Give) → Reachable m a → Moves a → a.section ≡ Asking
asks_in m a p is other h moves = ⊎_elim (λ e. e) (λ e. absurd (other (sym is ∙ h.leaving e))) moves

step_reach : (n m : ℕ) (a : Record) (p : MajorityPhase) (r : Reply) → a.phase ≡ p → Sized n m → Reachable m a → Moves a → Fits m (want_in p a) r → Reachable m (step_in p m a r)
step_reach n m a Take (marks ms) is sized h moves fits = h
step_reach n m a Take (cell k) is sized h moves fits = h
step_reach n m a Take done is sized h moves fits = h
step_reach n m a Take (went b) is sized h moves fits =
    let asks = asks_in m a Take is take_give h moves in
    let kept = sound m a h in
    cond_both (nat_lt a.name m) (to a Take (a.name + 1)) (to a Scan 1) (Reachable m)
    (λ e. let less = ltb-true a.name m e in asking_at m a kept Take (a.name + 1) asks (omega arith, omega arith) (λ g. absurd (take_give g)))
    (λ _. asking_at m a kept Scan 1 asks (omega arith, sized.cells_low) (λ g. absurd (scan_give g)))
step_reach n m a Scan (marks ms) is sized h moves fits = h
step_reach n m a Scan (cell k) is sized h moves fits =
    let asks = asks_in m a Scan is scan_give h moves in
    let kept = sound_noted a k (sound m a h) fits in
    cond_both (nat_lt a.name m) (to (noted a k) Scan (a.name + 1)) (decided m (noted a k)) (Reachable m)
    (λ e. let less = ltb-true a.name m e in asking_at m (noted a k) kept Scan (a.name + 1) asks (omega arith, omega arith) (λ g. absurd (scan_give g)))
    (λ _. decide_reach m (noted a k) kept sized.cells_low asks)
step_reach n m a Scan done is sized h moves fits = h
step_reach n m a Scan (went b) is sized h moves fits = h
step_reach n m a Give (marks ms) is sized h moves fits = h
step_reach n m a Give (cell k) is sized h moves fits = h
step_reach n m a Give done is sized h moves fits = give_reach m (noted a Empty) (sound_noted a Empty (sound m a h) refl) sized.cells_low moves
step_reach n m a Give (went b) is sized h moves fits = h
step_reach n m a Wait (marks ms) is sized h moves fits = h
step_reach n m a Wait (cell k) is sized h moves fits =
    let asks = asks_in m a Wait is wait_give h moves in
    let kept = sound_noted a k (sound m a h) fits in
    cond_both (nat_lt a.name m) (to (noted a k) Wait (a.name + 1)) (waited m (noted a k)) (Reachable m)
    (λ e. let less = ltb-true a.name m e in asking_at m (noted a k) kept Wait (a.name + 1) asks (omega arith, omega arith) (λ g. absurd (wait_give g)))
    (λ _. wait_reach m (noted a k) kept sized.cells_low asks)
step_reach n m a Wait done is sized h moves fits = h
step_reach n m a Wait (went b) is sized h moves fits = h

-- the laws

pub load_reachable : (n m i : ℕ) → Sized n m → LawfulIdentity i → Reachable m (loaded_agent Take i)
load_reachable n m i sized good =
    let kept : Sound (loaded_agent Take i) = record { identity_lawful = good; seen_lawful = lawful_nothing 64; long = length-replicate 64 Empty } in
    idle_at m (loaded_agent Take i) kept sized.cells_low

pub ask_reachable : (n m : ℕ) (a : Record) → Sized n m → Reachable m a → Reachable m (majority_asked n m a)
ask_reachable n m a sized h =
    let first = majority_asked n m a in
    let kept : Sound first = record { identity_lawful = h.lawful_identity; seen_lawful = lawful_nothing 64; long = length-replicate 64 Empty } in
    take_again m first kept sized.cells_low refl

pub leave_reachable : (n m : ℕ) (a : Record) → Sized n m → Reachable m a → Holds a → Reachable m (majority_left n m a)
leave_reachable n m a sized h holds = leave_reach_at m a (sound m a h) sized.cells_low (own_name m a) refl (h.holding holds).2

pub step_reachable : (n m : ℕ) (a : Record) (r : Reply) → Sized n m → Reachable m a → Moves a → Fits m (want_in a.phase a) r → Reachable m (step_in a.phase m a r)
step_reachable n m a r sized h moves fits = step_reach n m a a.phase r refl sized h moves fits
