-- The moves after a replacement of identities. Assumes nothing.
use Rattle.std.specs.Prelude.{◌≡◌, ℕ, ◌+◌, ◌-◌, Bool, true, false, cond, take, Some, None, Option, ◌==◌, nat_eq, nat_le, nat_lt, refl}
use Rattle.std.proofs.Common.{sym, ap, ◌∙◌}
use Rattle.std.proofs.lemmas.List.{length-map, map-set, take-map}
use Rattle.cells.specs.Marks.{lawful}
use Rattle.cells.specs.declared.mark.Mark.{Mark}
use Rattle.cells.specs.declared.mark.Mark.TheVariants.{Empty, Owner, Rung}
use Rattle.tally.specs.Counts.{times, flags_set, lowest_flag}
use Rattle.rules.specs.Lawful.{AllLawful, Permutes, Fits, replaced, replaced_agent, replaced_reply}
use Rattle.rules.specs.Records.{Reply, marks, cell, done, went, seen_at, flags_at, having_seen, on_rung}
use Rattle.rules.specs.declared.agent.Agent.{Agent}
use Rattle.rules.specs.declared.agent.Section.{Section}
use Rattle.rules.specs.declared.agent.Section.TheVariants.{Idle, Asking, Holding, Leaving}
use Rattle.rules.proofs.ReplaceLaws.{lawful_set, lawful_take, all_replaced, times_replaced}
use Rattle.rule_ladder.specs.declared.phase.LadderPhase.{LadderPhase}
use Rattle.rule_ladder.specs.declared.phase.LadderPhase.TheVariants.{Seek, Take, Raise, Fill, Try, Drop}
use Rattle.rule_ladder.specs.declared.verdict.Verdict.{Verdict}
use Rattle.rule_ladder.specs.declared.verdict.Verdict.TheVariants.{Withdraw, Hold, Climb}
use Rattle.rule_ladder.specs.Flags.{next_flag}
use Rattle.rule_ladder.specs.Verdicts.{verdict}
use Rattle.rule_ladder.specs.Moves.{turning, noting, flagging, seeking, sought, raising_at, dropping_at, judged_as, judged, onward}
use Rattle.rule_ladder.specs.Ladder.{want_at, filled, taken, tried, step_at, PhaseFits, SectionFits, LadderReachable}

module _ (π : ℕ → ℕ) where
  abbrev other : Agent LadderPhase → Agent LadderPhase
  other a = replaced_agent π a

  cond_other : (b : Bool) (x y : Agent LadderPhase) → cond b (other x) (other y) ≡ other (cond b x y)
  cond_other true x y = refl
  cond_other false x y = refl

  raising_other : (a : Agent LadderPhase) (o : Option ℕ) → raising_at (other a) o ≡ other (raising_at a o)
  raising_other a None = refl
  raising_other a (Some x) = refl

  dropping_other : (a : Agent LadderPhase) (o : Option ℕ) → dropping_at (other a) o ≡ other (dropping_at a o)
  dropping_other a None = refl
  dropping_other a (Some x) = refl

  judged_other : (v : Verdict) (m : ℕ) (a : Agent LadderPhase) → judged_as v m (other a) ≡ other (judged_as v m a)
  judged_other Withdraw m a = dropping_other (on_rung a 0) (lowest_flag (flags_at a m))
  judged_other Hold m a = refl
  judged_other Climb m a = raising_other (on_rung a _) (lowest_flag (flags_at a m))

  onward_other : (n m : ℕ) (a : Agent LadderPhase) (p : LadderPhase) → onward n m (other a) p ≡ other (onward n m a p)
  onward_other n m a p =
      let next = turning a p (a.name + 1) in
      ap (cond (nat_lt a.name m) (other next)) (judged_other (verdict (flags_set (flags_at a m)) n a.rung m) m a)
      ∙ cond_other (nat_lt a.name m) next (judged n m a)

  filled_other : (n m : ℕ) (a : Agent LadderPhase) (k : Mark) → filled n m (other a) (replaced π k) ≡ other (filled n m a k)
  filled_other n m a Empty = refl
  filled_other n m a (Owner i) = refl
  filled_other n m a (Rung r) =
      let try' = turning a Try a.name in
      ap (λ x. cond (nat_le a.rung r) x (other try')) (onward_other n m a Fill)
      ∙ cond_other (nat_le a.rung r) (onward n m a Fill) try'

  taken_other : (n m : ℕ) (a : Agent LadderPhase) (b : Bool) → taken n m (other a) b ≡ other (taken n m a b)
  taken_other n m a true = onward_other n m (flagging a true) Take
  taken_other n m a false = onward_other n m a Take

  tried_other : (n m : ℕ) (a : Agent LadderPhase) (b : Bool) → tried n m (other a) b ≡ other (tried n m a b)
  tried_other n m a true = onward_other n m (flagging a true) Fill
  tried_other n m a false = refl

  phase_other : (p : LadderPhase) (n : ℕ) (a : Agent LadderPhase) → PhaseFits p n a → PhaseFits p n (other a)
  phase_other Seek n a h = h
  phase_other Take n a h = h
  phase_other Raise n a h = h
  phase_other Fill n a h = h
  phase_other Try n a h = h
  phase_other Drop n a h = h

  section_other : (s : Section) (m : ℕ) (a : Agent LadderPhase) → SectionFits s m a → SectionFits s m (other a)
  section_other Idle m a h = h
  section_other Asking m a h = h
  section_other Holding m a h = h
  section_other Leaving m a h = h

  module _ (perm : Permutes π) where
    pub reachable_other : (n m : ℕ) (a : Agent LadderPhase) → LadderReachable n m a → LadderReachable n m (other a)
    reachable_other n m a h = record {
      identity_fits = perm.inside a.identity h.identity_fits.0 h.identity_fits.1;
      seen_fits = all_replaced π perm a.seen h.seen_fits;
      seen_all = length-map a.seen (replaced π) ∙ h.seen_all;
      flags_all = h.flags_all;
      name_fits = h.name_fits;
      phase_fits = phase_other a.phase n a h.phase_fits;
      section_fits = section_other a.section m a h.section_fits;
    }

    seeking_other : (m : ℕ) (a : Agent LadderPhase) → AllLawful a.seen → seeking m (other a) ≡ other (seeking m a)
    seeking_other m a all =
        let low = a.name in
        let next = turning a Seek (a.name + 1) in
        let take' = turning (on_rung a 1) Take 1 in
        let again = turning a Seek 1 in
        let same : times (seen_at (other a) m) Empty ≡ times (seen_at a m) Empty =
        ap (λ l. times l Empty) (take-map (replaced π) m a.seen) ∙ times_replaced π perm (take m a.seen) (lawful_take m a.seen all) Empty refl in
        let test = nat_eq (times (seen_at a m) Empty) m in
        ap (λ t. cond (nat_lt low m) (other next) (cond (t == m) (other take') (other again))) same
        ∙ ap (cond (nat_lt low m) (other next)) (cond_other test take' again)
        ∙ cond_other (nat_lt low m) next (cond test take' again)

    sought_other : (m : ℕ) (a : Agent LadderPhase) (k : Mark) → AllLawful a.seen → lawful k ≡ true → sought m (other a) (replaced π k) ≡ other (sought m a k)
    sought_other m a k all good =
        ap (λ l. seeking m (having_seen (other a) l)) (sym (map-set (replaced π) a.seen (a.name - 1) k))
        ∙ seeking_other m (noting a k) (lawful_set a.seen (a.name - 1) k all good)

    step_other : (p : LadderPhase) (n m : ℕ) (a : Agent LadderPhase) (r : Reply) → AllLawful a.seen → Fits m (want_at p a.name a.rung) r → step_at p n m (other a) (replaced_reply π r) ≡ other (step_at p n m a r)
    step_other Seek n m a (marks ms) all good = refl
    step_other Seek n m a (cell k) all good = sought_other m a k all good
    step_other Seek n m a done all good = refl
    step_other Seek n m a (went b) all good = refl
    step_other Take n m a (marks ms) all good = refl
    step_other Take n m a (cell k) all good = refl
    step_other Take n m a done all good = refl
    step_other Take n m a (went b) all good = taken_other n m a b
    step_other Raise n m a (marks ms) all good = refl
    step_other Raise n m a (cell k) all good = refl
    step_other Raise n m a done all good = raising_other a (next_flag (flags_at a m) a.name)
    step_other Raise n m a (went b) all good = refl
    step_other Fill n m a (marks ms) all good = refl
    step_other Fill n m a (cell k) all good = filled_other n m a k
    step_other Fill n m a done all good = refl
    step_other Fill n m a (went b) all good = refl
    step_other Try n m a (marks ms) all good = refl
    step_other Try n m a (cell k) all good = refl
    step_other Try n m a done all good = refl
    step_other Try n m a (went b) all good = tried_other n m a b
    step_other Drop n m a (marks ms) all good = refl
    step_other Drop n m a (cell k) all good = refl
    step_other Drop n m a done all good = dropping_other (flagging a false) (lowest_flag (flags_at (flagging a false) m))
    step_other Drop n m a (went b) all good = refl

    pub becomes_other : (n m : ℕ) (a : Agent LadderPhase) (r : Reply) → LadderReachable n m a → Fits m (want_at a.phase a.name a.rung) r → step_at a.phase n m (other a) (replaced_reply π r) ≡ other (step_at a.phase n m a r)
    becomes_other n m a r h good = step_other a.phase n m a r h.seen_fits good
