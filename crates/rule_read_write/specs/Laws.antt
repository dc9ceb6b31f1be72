-- The laws of rule 1. Assumes nothing.
use Rattle.std.specs.Prelude.{◌≡◌, ℕ, ◌+◌, ◌*◌, ◌≤◌, Bool, true, false, cond, not, ◌&&◌, ◌⊎◌, List, map, length, Some, None, Option, ◌==◌, nat_lt, refl}
use Rattle.std.proofs.Common.{ap, ◌∙◌, inl, inr, ⊎_elim, arith}
use Rattle.std.proofs.lemmas.List.{length-map}
use Rattle.std.proofs.lemmas.Bool.{cond_both, ltb-true}
use Rattle.numbers.proofs.FirstLaws.{first_tells_some}
use Rattle.numbers.proofs.RowLaws.{within_from}
use Rattle.cells.specs.Marks.{lawful, same_mark}
use Rattle.cells.specs.declared.mark.Mark.{Mark}
use Rattle.cells.specs.declared.mark.Mark.TheVariants.{Empty}
use Rattle.tally.specs.Counts.{has, times, lowest, identities}
use Rattle.rules.specs.Lawful.{Sized, LawfulIdentity, AllLawful, Moves, Fits, Permutes, replaced, replaced_agent, replaced_reply}
use Rattle.rules.specs.Records.{Reply, marks, cell, done, went, loaded_agent, own, going, having_seen, overlaid}
use Rattle.rules.specs.declared.agent.Section.{Section}
use Rattle.rules.specs.declared.agent.Section.TheVariants.{Idle, Asking, Holding, Leaving}
use Rattle.rules.proofs.ListLaws.{length_overlaid}
use Rattle.rules.proofs.ReplaceLaws.{lawful_nothing, lawful_overlaid, same_replaced, all_replaced, overlaid_replaced, times_replaced, lowest_replaced, identities_replaced}
use Rattle.rule_read_write.specs.declared.judging.Verdict.{Verdict}
use Rattle.rule_read_write.specs.declared.judging.Verdict.TheVariants.{Hold, Again, Put as PutAt, Withdraw}
use Rattle.rule_read_write.specs.declared.phase.ReadWritePhase.{ReadWritePhase}
use Rattle.rule_read_write.specs.declared.phase.ReadWritePhase.TheVariants.{Look, Put, Read, Clear}
use Rattle.rule_read_write.specs.Judging.{otherwise, verdict, look_verdict}
use Rattle.rule_read_write.specs.ReadWrite.{Record, first_asking, want_in, wants_next, led, looked, ended, onward, next_in, next, AtRest, Reached}

-- two sections or phases that differ
never : {A : Type 0} → ◌≡◌ {A = ℕ} 0 1 → A
never z = absurd (omega arith)

-- a record that went to a section, a phase and a name
pub reach : (n m : ℕ) (a : Record) (s : Section) (p : ReadWritePhase) (x : ℕ) → LawfulIdentity a.identity → AllLawful a.seen → length a.seen ≡ 64 → 1 ≤ x → x ≤ m → (AtRest s → (p ≡ Look) × (x ≡ 1)) → (s ≡ Leaving → (p ≡ Read) ⊎ (p ≡ Clear)) → Reached n m (going a s p x)
reach n m a s p x i seen long low high rests leaves = record { identity = i; seen = seen; long = long; low = low; high = high; rests = rests; leaves = leaves }

pub loads : (n m i : ℕ) → Sized n m → LawfulIdentity i → Reached n m (loaded_agent Look i)
loads n m i sized good = record {
  identity = good;
  seen = lawful_nothing 64;
  long = refl;
  low = omega arith;
  high = sized.cells_low;
  rests = λ _. (refl, refl);
  leaves = λ e. never (cc);
}

pub asks : (n m : ℕ) (a : Record) → Sized n m → Reached n m a → Reached n m (first_asking n m a)
asks n m a sized h = record {
  identity = h.identity;
  seen = lawful_nothing 64;
  long = refl;
  low = omega arith;
  high = sized.cells_low;
  rests = λ _. (refl, refl);
  leaves = λ e. never (cc);
}

-- what a look may lead to
verdict_cases : (P : Verdict → Type 0) (k e : ℕ) (o : Option ℕ) (d m : ℕ) → P Hold → P Again → ((x : ℕ) → o ≡ Some x → P (PutAt x)) → P Withdraw → P (verdict k e o d m)
verdict_cases P k e o d m hold again puts withdraw =
    cond_both (k == m) Hold _ P (λ _. hold) (λ _. cond_both (k == 0 && not (e == m)) Again (otherwise k o d m) P (λ _. again) (λ _. rest o refl))
  where
    rest : (q : Option ℕ) → o ≡ q → P (otherwise k q d m)
    rest (Some x) is = puts x is
    rest None is = cond_both (nat_lt (k * d) m) Withdraw Again P (λ _. withdraw) (λ _. again)

module _ (n m : ℕ) (a : Record) (sized : Sized n m) (h : Reached n m a) (moves : Moves a) where
  -- an agent that moves is not at rest
  not_at_rest : {A : Type 0} → AtRest a.section → A
  not_at_rest rest =
      ⊎_elim (λ e. ⊎_elim (λ f. never (cc (e, f))) (λ f. never (cc (e, f))) rest) (λ e. ⊎_elim (λ f. never (cc (e, f))) (λ f. never (cc (e, f))) rest) moves

  -- in LOOK and PUT an agent is asking
  asking_in : (p : ReadWritePhase) → a.phase ≡ p → (p ≡ Look) ⊎ (p ≡ Put) → a.section ≡ Leaving → {A : Type 0} → A
  asking_in p is in' e =
      ⊎_elim
      (λ f. ⊎_elim (λ g. never (cc (is, f, g))) (λ g. never (cc (is, f, g))) in')
      (λ f. ⊎_elim (λ g. never (cc (is, f, g))) (λ g. never (cc (is, f, g))) in')
      (h.leaves e)

  -- at rest after a step, at LOOK 1
  resting : (s : Section) → Reached n m (going a s Look 1) ⊎ (s ≡ Leaving)
  resting Idle = inl (reach n m a Idle Look 1 h.identity h.seen h.long (omega arith) sized.cells_low (λ _. (refl, refl)) (λ e. never (cc)))
  resting Asking = inl (reach n m a Asking Look 1 h.identity h.seen h.long (omega arith) sized.cells_low (λ _. (refl, refl)) (λ e. never (cc)))
  resting Holding = inl (reach n m a Holding Look 1 h.identity h.seen h.long (omega arith) sized.cells_low (λ _. (refl, refl)) (λ e. never (cc)))
  resting Leaving = inr refl

  ends : (s : Section) → Reached n m (ended s a)
  ends Idle = ⊎_elim (λ r. r) (λ e. never (cc)) (resting Idle)
  ends Asking = ⊎_elim (λ r. r) (λ e. never (cc)) (resting Asking)
  ends Holding = ⊎_elim (λ r. r) (λ e. never (cc)) (resting Holding)
  ends Leaving = ⊎_elim (λ r. r) (λ e. never (cc)) (resting Idle)

  onwards : Reached n m (onward m a)
  onwards =
      cond_both (nat_lt a.name m) (going a a.section Read (a.name + 1)) (ended a.section a) (Reached n m)
      (λ less.
      let l = ltb-true a.name m less in
      reach n m a a.section Read (a.name + 1) h.identity h.seen h.long (omega arith) (omega arith) not_at_rest (λ _. inl refl))
      (λ _. ends a.section)

  looks : (ms : List Mark) → a.phase ≡ Look → length ms ≡ m → AllLawful ms → Reached n m (looked m a ms)
  looks ms is long all =
      let b = having_seen a (overlaid ms a.seen) in
      let seen = lawful_overlaid ms a.seen all h.seen in
      let whole = length_overlaid ms a.seen ∙ h.long in
      verdict_cases (λ v. Reached n m (led v b)) (times ms (own a)) (times ms Empty) (lowest ms Empty) (identities ms) m
      (reach n m b Holding Look 1 h.identity seen whole (omega arith) sized.cells_low (λ _. (refl, refl)) (λ e. never (cc)))
      (reach n m b a.section Look 1 h.identity seen whole (omega arith) sized.cells_low (λ _. (refl, refl)) (λ e. asking_in Look is (inl refl) e))
      (λ x found.
      let first = first_tells_some (has ms Empty) 1 (length ms) (1 + length ms) x refl found in
      reach n m b a.section Put x h.identity seen whole first.from (omega (arith, first.below)) not_at_rest (λ e. asking_in Look is (inl refl) e))
      (reach n m b a.section Read 1 h.identity seen whole (omega arith) sized.cells_low not_at_rest (λ _. inl refl))

  step_in : (p : ReadWritePhase) (r : Reply) → a.phase ≡ p → Fits m (want_in p a) r → Reached n m (next_in p m a r)
  step_in Look (marks ms) is fits = looks ms is fits.0 fits.1
  step_in Look (cell k) is fits = absurd fits
  step_in Look done is fits = absurd fits
  step_in Look (went b) is fits = absurd fits
  step_in Put (marks ms) is fits = absurd fits
  step_in Put (cell k) is fits = absurd fits
  step_in Put done is fits = reach n m a a.section Look 1 h.identity h.seen h.long (omega arith) sized.cells_low (λ _. (refl, refl)) (λ e. asking_in Put is (inr refl) e)
  step_in Put (went b) is fits = absurd fits
  step_in Read (marks ms) is fits = absurd fits
  step_in Read (cell k) is fits =
      cond_both (same_mark k (own a)) (going a a.section Clear a.name) (onward m a) (Reached n m)
      (λ _. reach n m a a.section Clear a.name h.identity h.seen h.long h.low h.high not_at_rest (λ _. inr refl))
      (λ _. onwards)
  step_in Read done is fits = absurd fits
  step_in Read (went b) is fits = absurd fits
  step_in Clear (marks ms) is fits = absurd fits
  step_in Clear (cell k) is fits = absurd fits
  step_in Clear done is fits = onwards
  step_in Clear (went b) is fits = absurd fits

  pub steps : (r : Reply) → Fits m (wants_next n m a) r → Reached n m (next n m a r)
  steps r fits = step_in a.phase r refl fits

-- identities replaced

pub renamed : (n m : ℕ) (a : Record) (π : ℕ → ℕ) → Reached n m a → Permutes π → Reached n m (replaced_agent π a)
renamed n m a π h perm = record {
  identity = perm.inside a.identity h.identity.0 h.identity.1;
  seen = all_replaced π perm a.seen h.seen;
  long = length-map a.seen (replaced π) ∙ h.long;
  low = h.low;
  high = h.high;
  rests = h.rests;
  leaves = h.leaves;
}

module _ (n m : ℕ) (a : Record) (π : ℕ → ℕ) (h : Reached n m a) (perm : Permutes π) where
  abbrev new : Record
  new = replaced_agent π a

  own_lawful : lawful (own a) ≡ true
  own_lawful = within_from 1 65535 a.identity h.identity.0 h.identity.1

  led_replaced : (v : Verdict) (b : Record) → led v (replaced_agent π b) ≡ replaced_agent π (led v b)
  led_replaced Hold b = refl
  led_replaced Again b = refl
  led_replaced (PutAt x) b = refl
  led_replaced Withdraw b = refl

  look_replaced : (ms : List Mark) → AllLawful ms → looked m new (map (replaced π) ms) ≡ replaced_agent π (looked m a ms)
  look_replaced ms all =
      let k = times_replaced π perm ms all (own a) own_lawful in
      let e = times_replaced π perm ms all Empty refl in
      let o = lowest_replaced π perm ms all Empty refl in
      let d = identities_replaced π perm ms all in
      let seen = overlaid_replaced π perm ms a.seen in
      (λ i. led (verdict (k i) (e i) (o i) (d i) m) (having_seen new (seen i))) ∙ led_replaced (look_verdict ms (own a) m) (having_seen a (overlaid ms a.seen))

  ended_replaced : (s : Section) → ended s new ≡ replaced_agent π (ended s a)
  ended_replaced Idle = refl
  ended_replaced Asking = refl
  ended_replaced Holding = refl
  ended_replaced Leaving = refl

  cond_replaced : (b : Bool) (x y : Record) (x' y' : Record) → x' ≡ replaced_agent π x → y' ≡ replaced_agent π y → cond b x' y' ≡ replaced_agent π (cond b x y)
  cond_replaced true x y x' y' e f = e
  cond_replaced false x y x' y' e f = f

  onward_replaced : onward m new ≡ replaced_agent π (onward m a)
  onward_replaced = cond_replaced (nat_lt a.name m) _ (ended a.section a) _ (ended a.section new) refl (ended_replaced a.section)

  step_replaced : (p : ReadWritePhase) (r : Reply) → Fits m (want_in p a) r → next_in p m new (replaced_reply π r) ≡ replaced_agent π (next_in p m a r)
  step_replaced Look (marks ms) fits = look_replaced ms fits.1
  step_replaced Look (cell k) fits = refl
  step_replaced Look done fits = refl
  step_replaced Look (went b) fits = refl
  step_replaced Put (marks ms) fits = refl
  step_replaced Put (cell k) fits = refl
  step_replaced Put done fits = refl
  step_replaced Put (went b) fits = refl
  step_replaced Read (marks ms) fits = refl
  step_replaced Read (cell k) fits =
      ap (λ b. cond b (going new a.section Clear a.name) (onward m new)) (same_replaced π perm k (own a) fits own_lawful)
      ∙ cond_replaced (same_mark k (own a)) (going a a.section Clear a.name) (onward m a) _ (onward m new) refl onward_replaced
  step_replaced Read done fits = refl
  step_replaced Read (went b) fits = refl
  step_replaced Clear (marks ms) fits = refl
  step_replaced Clear (cell k) fits = refl
  step_replaced Clear done fits = onward_replaced
  step_replaced Clear (went b) fits = refl

  pub steps_replaced : (r : Reply) → Fits m (wants_next n m a) r → next n m new (replaced_reply π r) ≡ replaced_agent π (next n m a r)
  steps_replaced r fits = step_replaced a.phase r fits
