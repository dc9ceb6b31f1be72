-- Rule 1: look, put, and take back. Assumes nothing.
use Rattle.std.specs.Prelude.{◌≡◌, ℕ, ◌+◌, ◌≤◌, cond, ◌⊎◌, List, length, replicate, nat_lt}
use Rattle.cells.specs.Marks.{same_mark}
use Rattle.cells.specs.declared.mark.Mark.{Mark}
use Rattle.cells.specs.declared.mark.Mark.TheVariants.{Empty}
use Rattle.rules.specs.Lawful.{AllLawful, LawfulIdentity}
use Rattle.rules.specs.Records.{Reply, marks, cell, done, went, own, going, having_seen, overlaid}
use Rattle.rules.specs.declared.agent.Agent.{Agent}
use Rattle.rules.specs.declared.agent.Section.{Section}
use Rattle.rules.specs.declared.agent.Section.TheVariants.{Idle, Asking, Holding, Leaving}
use Rattle.rules.specs.declared.want.Want.{Want}
use Rattle.rules.specs.declared.want.Want.TheVariants.{Look as WantLook, Read as WantRead, Write as WantWrite}
use Rattle.rule_read_write.specs.declared.judging.Verdict.{Verdict}
use Rattle.rule_read_write.specs.declared.judging.Verdict.TheVariants.{Hold, Again, Put as PutAt, Withdraw}
use Rattle.rule_read_write.specs.declared.phase.ReadWritePhase.{ReadWritePhase}
use Rattle.rule_read_write.specs.declared.phase.ReadWritePhase.TheVariants.{Look, Put, Read, Clear}
use Rattle.rule_read_write.specs.Judging.{look_verdict}

abbrev pub Record : Type 0
Record = Agent ReadWritePhase

-- a request begins at LOOK with no mark seen, a leave at READ 1
abbrev pub first_asking : ℕ → ℕ → Record → Record
first_asking n m a = going (having_seen a (replicate 64 Empty)) Asking Look 1

abbrev pub first_leaving : ℕ → ℕ → Record → Record
first_leaving n m a = going a Leaving Read 1

abbrev pub want_in : ReadWritePhase → Record → Want
want_in Look a = WantLook
want_in Put a = WantWrite a.name (own a)
want_in Read a = WantRead a.name
want_in Clear a = WantWrite a.name Empty

abbrev pub wants_next : ℕ → ℕ → Record → Want
wants_next n m a = want_in a.phase a

abbrev pub led : Verdict → Record → Record
led Hold a = going a Holding Look 1
led Again a = going a a.section Look 1
led (PutAt x) a = going a a.section Put x
led Withdraw a = going a a.section Read 1

-- LOOK notes all marks, and is judged in the same step
abbrev pub looked : ℕ → Record → List Mark → Record
looked m a ms = led (look_verdict ms (own a) m) (having_seen a (overlaid ms a.seen))

-- behind the last name an asking agent looks again, and a leaving one is idle
abbrev pub ended : Section → Record → Record
ended Idle a = going a Idle Look 1
ended Asking a = going a Asking Look 1
ended Holding a = going a Holding Look 1
ended Leaving a = going a Idle Look 1

abbrev pub onward : ℕ → Record → Record
onward m a = cond (nat_lt a.name m) (going a a.section Read (a.name + 1)) (ended a.section a)

abbrev pub next_in : ReadWritePhase → ℕ → Record → Reply → Record
next_in Look m a (marks ms) = looked m a ms
next_in Look m a (cell k) = a
next_in Look m a done = a
next_in Look m a (went b) = a
next_in Put m a (marks ms) = a
next_in Put m a (cell k) = a
next_in Put m a done = going a a.section Look 1
next_in Put m a (went b) = a
next_in Read m a (marks ms) = a
next_in Read m a (cell k) = cond (same_mark k (own a)) (going a a.section Clear a.name) (onward m a)
next_in Read m a done = a
next_in Read m a (went b) = a
next_in Clear m a (marks ms) = a
next_in Clear m a (cell k) = a
next_in Clear m a done = onward m a
next_in Clear m a (went b) = a

abbrev pub next : ℕ → ℕ → Record → Reply → Record
next n m a r = next_in a.phase m a r

-- at rest: idle or holding
abbrev pub AtRest : Section → Type 0
AtRest s = (s ≡ Idle) ⊎ (s ≡ Holding)

-- what calls can lead to
pub record Reached (n m : ℕ) (a : Record) : Type 0 where
  pub identity : LawfulIdentity a.identity
  pub seen : AllLawful a.seen
  pub long : length a.seen ≡ 64
  pub low : 1 ≤ a.name
  pub high : a.name ≤ m
  pub rests : AtRest a.section → (a.phase ≡ Look) × (a.name ≡ 1)
  pub leaves : a.section ≡ Leaving → (a.phase ≡ Read) ⊎ (a.phase ≡ Clear)
