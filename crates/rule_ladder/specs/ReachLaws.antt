-- Every move leads to a record that calls can lead to. Assumes nothing.
use Rattle.std.specs.Prelude.{◌≡◌, ℕ, ◌+◌, ◌-◌, ◌*◌, ◌≤◌, min, Bool, true, false, cond, ◌⊎◌, length, take, Some, None, Option, ◌==◌, nat_le, nat_lt, refl}
use Rattle.std.proofs.Common.{sym, ap, subst, ◌∙◌, inl, ⊎_elim, mul-one, le_refl, arith, length-take-le}
use Rattle.std.proofs.lemmas.List.{length-set}
use Rattle.std.proofs.lemmas.Bool.{cond_both, ltb-true, ltb-false, leb-true, leb-false, false≢true}
use Rattle.numbers.specs.First.{first_of}
use Rattle.numbers.proofs.FirstLaws.{first_cases}
use Rattle.cells.specs.Marks.{lawful}
use Rattle.cells.specs.declared.mark.Mark.{Mark}
use Rattle.cells.specs.declared.mark.Mark.TheVariants.{Empty, Owner, Rung}
use Rattle.tally.specs.Counts.{times, flag_at, flags_set}
use Rattle.rules.specs.Lawful.{Sized, LawfulIdentity, AllLawful, Name, Moves, Fits}
use Rattle.rules.specs.Records.{Reply, marks, cell, done, went, seen_at, going, on_rung}
use Rattle.rules.specs.declared.agent.Agent.{Agent}
use Rattle.rules.specs.declared.agent.Section.{Section}
use Rattle.rules.specs.declared.agent.Section.TheVariants.{Asking, Holding, Leaving}
use Rattle.rules.proofs.ReplaceLaws.{lawful_set}
use Rattle.rule_ladder.specs.declared.phase.LadderPhase.{LadderPhase}
use Rattle.rule_ladder.specs.declared.phase.LadderPhase.TheVariants.{Seek, Take, Raise, Fill, Try, Drop}
use Rattle.rule_ladder.specs.declared.verdict.Verdict.{Verdict}
use Rattle.rule_ladder.specs.declared.verdict.Verdict.TheVariants.{Withdraw, Hold, Climb}
use Rattle.rule_ladder.specs.Verdicts.{too_few}
use Rattle.rule_ladder.specs.Moves.{turning, noting, flagging, seeking, raising_at, rested, dropping_at, dropping, judged_as, judged, onward}
use Rattle.rule_ladder.specs.Ladder.{want_at, filled, taken, tried, step_at, OnRung, PhaseFits, SectionFits, LadderReachable}
use Rattle.rule_ladder.specs.FlagLaws.{found_name}

-- what no move of phase, name, rung or section changes
record Sound (a : Agent LadderPhase) : Type 0 where
  identity_fits : LawfulIdentity a.identity
  seen_fits : AllLawful a.seen
  seen_all : length a.seen ≡ 64
  flags_all : length a.flags ≡ 64

on_rung_sound : (a : Agent LadderPhase) (r : ℕ) → Sound a → Sound (on_rung a r)
on_rung_sound a r s =
    record { identity_fits = s.identity_fits; seen_fits = s.seen_fits; seen_all = s.seen_all; flags_all = s.flags_all }

flagging_sound : (a : Agent LadderPhase) (b : Bool) → Sound a → Sound (flagging a b)
flagging_sound a b s = record {
  identity_fits = s.identity_fits;
  seen_fits = s.seen_fits;
  seen_all = s.seen_all;
  flags_all = length-set a.flags (a.name - 1) b ∙ s.flags_all;
}

noting_sound : (a : Agent LadderPhase) (k : Mark) → lawful k ≡ true → Sound a → Sound (noting a k)
noting_sound a k good s = record {
  identity_fits = s.identity_fits;
  seen_fits = lawful_set a.seen (a.name - 1) k s.seen_fits good;
  seen_all = length-set a.seen (a.name - 1) k ∙ s.seen_all;
  flags_all = s.flags_all;
}

abbrev drops : LadderPhase → Bool
drops Seek = false
drops Take = false
drops Raise = false
drops Fill = false
drops Try = false
drops Drop = true

-- sections
asking_fits : (m : ℕ) (s : Section) (b : Agent LadderPhase) → s ≡ Asking → SectionFits s m b
asking_fits m s b e = subst (λ t. SectionFits t m b) (sym e) tt

drop_fits : (m : ℕ) (s : Section) (b : Agent LadderPhase) → (s ≡ Asking) ⊎ (s ≡ Leaving) → b.phase ≡ Drop → SectionFits s m b
drop_fits m s b moves here = ⊎_elim (asking_fits m s b) (λ e. subst (λ t. SectionFits t m b) (sym e) here) moves

rest_fits : (m : ℕ) (s : Section) (b : Agent LadderPhase) → (s ≡ Asking) ⊎ (s ≡ Leaving) → b.phase ≡ Seek → b.name ≡ 1 → SectionFits (rested s) m b
rest_fits m s b moves here first =
    ⊎_elim
    (λ e. subst (λ t. SectionFits (rested t) m b) (sym e) tt)
    (λ e. subst (λ t. SectionFits (rested t) m b) (sym e) (here, first))
    moves

module _ (n m : ℕ) (size : Sized n m) where
  reached : (a : Agent LadderPhase) → Sound a → Name m a.name → PhaseFits a.phase n a → SectionFits a.section m a → LadderReachable n m a
  reached a s x p q = record {
    identity_fits = s.identity_fits;
    seen_fits = s.seen_fits;
    seen_all = s.seen_all;
    flags_all = s.flags_all;
    name_fits = x;
    phase_fits = p;
    section_fits = q;
  }

  turned_sound : (a : Agent LadderPhase) (t : Section) (p : LadderPhase) (x : ℕ) → Sound a → Sound (going a t p x)
  turned_sound a t p x s =
      record { identity_fits = s.identity_fits; seen_fits = s.seen_fits; seen_all = s.seen_all; flags_all = s.flags_all }

  first_name : Name m 1
  first_name = (le_refl 1, size.cells_low)

  -- an asking agent goes to a phase at a name
  turning_reaches : (a : Agent LadderPhase) (p : LadderPhase) (x : ℕ) → Sound a → a.section ≡ Asking → Name m x → PhaseFits p n (turning a p x) → LadderReachable n m (turning a p x)
  turning_reaches a p x s e h f =
      reached (turning a p x) (turned_sound a a.section p x s) h f (asking_fits m a.section (turning a p x) e)

  fits_in : (a : Agent LadderPhase) → Sound a → m ≤ length a.flags
  fits_in a s = omega (arith, s.flags_all, size.cells_high)

  raising_reaches : (a : Agent LadderPhase) (start count : ℕ) → Sound a → a.section ≡ Asking → OnRung n a.rung → 1 ≤ start → start + count ≡ 1 + length (take m a.flags) → LadderReachable n m (raising_at a (first_of (flag_at (take m a.flags)) start count))
  raising_reaches a start count s e r low same =
      let fs = take m a.flags in
      let P : Option ℕ → Type 0 = λ o. LadderReachable n m (raising_at a o) in
      ⊎_elim
      (λ none. subst P (sym none.0) (turning_reaches a Fill 1 s e first_name r))
      (λ some.
      let found = found_name a.flags m start some.0 (fits_in a s) low some.2 in
      subst P (sym some.1) (turning_reaches a Raise some.0 s e found.0 (r, found.1)))
      (first_cases (flag_at fs) start count (1 + length fs) same)

  dropping_reaches : (a : Agent LadderPhase) → Sound a → Moves a → LadderReachable n m (dropping m a)
  dropping_reaches a s moves =
      let fs = take m a.flags in
      let P : Option ℕ → Type 0 = λ o. LadderReachable n m (dropping_at a o) in
      ⊎_elim
      (λ none.
      let b = dropping_at a None in
      subst P (sym none.0) (reached b (turned_sound a (rested a.section) Seek 1 s) first_name tt (rest_fits m a.section b moves refl refl)))
      (λ some.
      let b = dropping_at a (Some some.0) in
      let found = found_name a.flags m 1 some.0 (fits_in a s) (le_refl 1) some.2 in
      subst P (sym some.1) (reached b (turned_sound a a.section Drop some.0 s) found.0 found.1 (drop_fits m a.section b moves refl)))
      (first_cases (flag_at fs) 1 (length fs) (1 + length fs) refl)

  -- on the highest rung all flags are to be set
  all_flags : (c r : ℕ) → too_few c n r m ≡ false → n ≤ r → m ≤ c
  all_flags c r enough top =
      let one : n - r + 1 ≡ 1 = omega arith in
      subst (λ d. m ≤ d) (ap (λ k. c * k) one ∙ mul-one c) (ltb-false (c * (n - r + 1)) m enough)

  judged_reaches : (a : Agent LadderPhase) → Sound a → a.section ≡ Asking → OnRung n a.rung → LadderReachable n m (judged n m a)
  judged_reaches a s e r =
      let c = flags_set (take m a.flags) in
      let P : Verdict → Type 0 = λ v. LadderReachable n m (judged_as v m a) in
      cond_both (too_few c n a.rung m) Withdraw (cond (nat_le n a.rung) Hold Climb) P (λ few. dropping_reaches (on_rung a 0) (on_rung_sound a 0 s) (inl e)) (λ enough.
      cond_both (nat_le n a.rung) Hold Climb P (λ top.
      reached (going a Holding Seek 1) (turned_sound a Holding Seek 1 s) first_name tt (refl, refl, all_flags c a.rung enough (leb-true n a.rung top))) (λ below.
      let less = leb-false n a.rung below in
      let next = min (a.rung + 1) 255 in
      let low : 1 ≤ next = omega arith in
      let high : next ≤ n = omega arith in
      raising_reaches (on_rung a next) 1 (length (take m a.flags)) (on_rung_sound a next s) e (low, high) (le_refl 1) refl))

  onward_reaches : (a : Agent LadderPhase) (p : LadderPhase) → Sound a → a.section ≡ Asking → OnRung n a.rung → Name m a.name → PhaseFits p n (turning a p (a.name + 1)) → LadderReachable n m (onward n m a p)
  onward_reaches a p s e r x f =
      cond_both (nat_lt a.name m) (turning a p (a.name + 1)) (judged n m a) (LadderReachable n m) (λ yes'.
      let less = ltb-true a.name m yes' in
      let low : 1 ≤ a.name + 1 = omega arith in
      let high : a.name + 1 ≤ m = omega arith in
      turning_reaches a p (a.name + 1) s e (low, high) f) (λ _. judged_reaches a s e r)

  seeking_reaches : (a : Agent LadderPhase) → Sound a → a.section ≡ Asking → LadderReachable n m (seeking m a)
  seeking_reaches a s e =
      cond_both (nat_lt a.name m) (turning a Seek (a.name + 1)) (cond (times (seen_at a m) Empty == m) (turning (on_rung a 1) Take 1) (turning a Seek 1)) (LadderReachable n m) (λ yes'.
      let less = ltb-true a.name m yes' in
      let low : 1 ≤ a.name + 1 = omega arith in
      let high : a.name + 1 ≤ m = omega arith in
      turning_reaches a Seek (a.name + 1) s e (low, high) tt) (λ _.
      cond_both (times (seen_at a m) Empty == m) (turning (on_rung a 1) Take 1) (turning a Seek 1) (LadderReachable n m) (λ _. turning_reaches (on_rung a 1) Take 1 (on_rung_sound a 1 s) e first_name refl) (λ _. turning_reaches a Seek 1 s e first_name tt))

  taken_reaches : (a : Agent LadderPhase) (b : Bool) → Sound a → a.section ≡ Asking → a.rung ≡ 1 → Name m a.name → LadderReachable n m (taken n m a b)
  taken_reaches a true s e r x =
      let low : 1 ≤ a.rung = omega arith in
      let high : a.rung ≤ n = omega (arith, size.agents_low) in
      onward_reaches (flagging a true) Take (flagging_sound a true s) e (low, high) x r
  taken_reaches a false s e r x =
      let low : 1 ≤ a.rung = omega arith in
      let high : a.rung ≤ n = omega (arith, size.agents_low) in
      onward_reaches a Take s e (low, high) x r

  tried_reaches : (a : Agent LadderPhase) (b : Bool) → Sound a → a.section ≡ Asking → OnRung n a.rung → Name m a.name → LadderReachable n m (tried n m a b)
  tried_reaches a true s e r x = onward_reaches (flagging a true) Fill (flagging_sound a true s) e r x r
  tried_reaches a false s e r x = turning_reaches a Fill a.name s e x r

  filled_reaches : (a : Agent LadderPhase) (k : Mark) → Sound a → a.section ≡ Asking → OnRung n a.rung → Name m a.name → LadderReachable n m (filled n m a k)
  filled_reaches a Empty s e r x = turning_reaches a Try a.name s e x r
  filled_reaches a (Owner i) s e r x = turning_reaches a Try a.name s e x r
  filled_reaches a (Rung t) s e r x =
      cond_both (nat_le a.rung t) (onward n m a Fill) (turning a Try a.name) (LadderReachable n m) (λ _. onward_reaches a Fill s e r x r) (λ _. turning_reaches a Try a.name s e x r)

  module _ (a : Agent LadderPhase) (s : Sound a) (x : Name m a.name) (section_fits : SectionFits a.section m a) (moves : Moves a) where
    -- an agent that moves and does not drop is asking
    asks_in : (p : LadderPhase) → a.phase ≡ p → drops p ≡ false → a.section ≡ Asking
    asks_in p is no' = ⊎_elim (λ e. e) (λ e. absurd (false≢true (sym no' ∙ ap drops (sym is ∙ subst (λ t. SectionFits t m a) e section_fits)))) moves

    step_reaches : (p : LadderPhase) (r : Reply) → a.phase ≡ p → PhaseFits p n a → Fits m (want_at p a.name a.rung) r → LadderReachable n m (step_at p n m a r)
    step_reaches Seek (cell k) is f good =
        let e = asks_in Seek is refl in
        seeking_reaches (noting a k) (noting_sound a k good s) e
    step_reaches Take (went b) is f good =
        let e = asks_in Take is refl in
        taken_reaches a b s e f x
    step_reaches Raise done is f good =
        let e = asks_in Raise is refl in
        let long = length-take-le m a.flags (fits_in a s) in
        raising_reaches a (a.name + 1) (length (take m a.flags) - a.name) s e f.0 (omega arith) (omega arith)
    step_reaches Fill (cell k) is f good =
        let e = asks_in Fill is refl in
        filled_reaches a k s e f x
    step_reaches Try (went b) is f good =
        let e = asks_in Try is refl in
        tried_reaches a b s e f x
    step_reaches Drop done is f good = dropping_reaches (flagging a false) (flagging_sound a false s) moves
    step_reaches Seek (marks ms) is f good = absurd good
    step_reaches Seek done is f good = absurd good
    step_reaches Seek (went b) is f good = absurd good
    step_reaches Take (marks ms) is f good = absurd good
    step_reaches Take (cell k) is f good = absurd good
    step_reaches Take done is f good = absurd good
    step_reaches Raise (marks ms) is f good = absurd good
    step_reaches Raise (cell k) is f good = absurd good
    step_reaches Raise (went b) is f good = absurd good
    step_reaches Fill (marks ms) is f good = absurd good
    step_reaches Fill done is f good = absurd good
    step_reaches Fill (went b) is f good = absurd good
    step_reaches Try (marks ms) is f good = absurd good
    step_reaches Try (cell k) is f good = absurd good
    step_reaches Try done is f good = absurd good
    step_reaches Drop (marks ms) is f good = absurd good
    step_reaches Drop (cell k) is f good = absurd good
    step_reaches Drop (went b) is f good = absurd good

  pub reachable_step : (a : Agent LadderPhase) (r : Reply) → LadderReachable n m a → Moves a → Fits m (want_at a.phase a.name a.rung) r → LadderReachable n m (step_at a.phase n m a r)
  reachable_step a r h moves good =
      let s : Sound a = record { identity_fits = h.identity_fits; seen_fits = h.seen_fits; seen_all = h.seen_all; flags_all = h.flags_all } in
      step_reaches a s h.name_fits h.section_fits moves a.phase r refl h.phase_fits good
