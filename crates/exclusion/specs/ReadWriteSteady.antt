-- Rule 1 leads where a lawful rule may lead. Assumes nothing.
use Rattle.std.specs.Prelude.{◌≡◌, ℕ, ◌+◌, nat_lt, refl}
use Rattle.std.proofs.Common.{inl, ⊎_elim, arith}
use Rattle.std.proofs.lemmas.Bool.{cond_both}
use Rattle.numbers.proofs.RowLaws.{within_from}
use Rattle.cells.specs.Marks.{same_mark}
use Rattle.rules.specs.Lawful.{Sized, Proper}
use Rattle.rules.specs.Records.{Reply, marks, cell, done, went, own, going, having_seen, overlaid}
use Rattle.rules.specs.declared.agent.Section.{Section}
use Rattle.rules.specs.declared.agent.Section.TheVariants.{Idle, Asking, Holding, Leaving}
use Rattle.rule_read_write.specs.declared.judging.Verdict.{Verdict}
use Rattle.rule_read_write.specs.declared.judging.Verdict.TheVariants.{Hold, Again, Put as PutAt, Withdraw}
use Rattle.rule_read_write.specs.declared.phase.ReadWritePhase.{ReadWritePhase}
use Rattle.rule_read_write.specs.declared.phase.ReadWritePhase.TheVariants.{Look, Put, Read, Clear}
use Rattle.rule_read_write.specs.Judging.{look_verdict}
use Rattle.rule_read_write.specs.ReadWrite.{Record, first_leaving, want_in, led, ended, onward, next_in, Reached}
use Rattle.rule_read_write.specs.Laws.{reach, loads, asks, steps}
use Rattle.model.specs.Meanings.{read_and_write}
use Rattle.runs.proofs.Lawfulness.{Steady}

-- two sections or phases that differ
never : {A : Type 0} → ◌≡◌ {A = ℕ} 0 1 → A
never z = absurd (omega arith)

leaves_reached : (n m : ℕ) (a : Record) → Sized n m → Reached n m a → Reached n m (first_leaving n m a)
leaves_reached n m a sized h =
    reach n m a Leaving Read 1 h.identity h.seen h.long (omega arith) sized.cells_low
    (⊎_elim (λ e. never (cc (e))) (λ e. never (cc (e)))) (λ _. inl refl)

proper_in : (p : ReadWritePhase) (n m : ℕ) (a : Record) → Reached n m a → Proper m (want_in p a)
proper_in Look n m a h = tt
proper_in Put n m a h = ((h.low, h.high), within_from 1 65535 a.identity h.identity.0 h.identity.1)
proper_in Read n m a h = (h.low, h.high)
proper_in Clear n m a h = ((h.low, h.high), refl)

-- no step changes the identity

led_identity : (v : Verdict) (a : Record) → (led v a).identity ≡ a.identity
led_identity Hold a = refl
led_identity Again a = refl
led_identity (PutAt x) a = refl
led_identity Withdraw a = refl

ended_identity : (s : Section) (a : Record) → (ended s a).identity ≡ a.identity
ended_identity Idle a = refl
ended_identity Asking a = refl
ended_identity Holding a = refl
ended_identity Leaving a = refl

onward_identity : (m : ℕ) (a : Record) → (onward m a).identity ≡ a.identity
onward_identity m a =
    cond_both (nat_lt a.name m) (going a a.section Read (a.name + 1)) (ended a.section a) (λ b. b.identity ≡ a.identity) (λ _. refl) (λ _. ended_identity a.section a)

next_identity : (p : ReadWritePhase) (m : ℕ) (a : Record) (r : Reply) → (next_in p m a r).identity ≡ a.identity
next_identity Look m a (marks ms) = led_identity (look_verdict ms (own a) m) (having_seen a (overlaid ms a.seen))
next_identity Look m a (cell k) = refl
next_identity Look m a done = refl
next_identity Look m a (went b) = refl
next_identity Put m a (marks ms) = refl
next_identity Put m a (cell k) = refl
next_identity Put m a done = refl
next_identity Put m a (went b) = refl
next_identity Read m a (marks ms) = refl
next_identity Read m a (cell k) =
    cond_both (same_mark k (own a)) (going a a.section Clear a.name) (onward m a) (λ b. b.identity ≡ a.identity) (λ _. refl) (λ _. onward_identity m a)
next_identity Read m a done = refl
next_identity Read m a (went b) = refl
next_identity Clear m a (marks ms) = refl
next_identity Clear m a (cell k) = refl
next_identity Clear m a done = onward_identity m a
next_identity Clear m a (went b) = refl

pub steady : Steady read_and_write
steady = record {
  reachable = Reached;
  loads = loads;
  asks = λ n m a sized h idle. asks n m a sized h;
  leaves = λ n m a sized h holds. leaves_reached n m a sized h;
  steps = λ n m a r sized h moves fits. steps n m a sized h moves r fits;
  proper = λ n m a sized h moves. proper_in a.phase n m a h;
  asking = λ n m a. (refl, refl);
  leaving = λ n m a. (refl, refl);
  identity = λ n m a r. next_identity a.phase m a r;
}
