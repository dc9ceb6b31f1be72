-- The laws of the ladder, and what its moves do to the flags. Assumes nothing.
use Rattle.std.specs.Prelude.{◌≡◌, ℕ, ◌+◌, ◌-◌, Bool, true, false, cond, List, Some, None, Option, nat_eq, nat_le, nat_lt, slice_set, refl}
use Rattle.std.proofs.Common.{arith}
use Rattle.std.proofs.lemmas.Bool.{cond_both}
use Rattle.numbers.proofs.RowLaws.{within_from}
use Rattle.cells.specs.Marks.{lawful}
use Rattle.cells.specs.declared.mark.Mark.{Mark}
use Rattle.cells.specs.declared.mark.Mark.TheVariants.{Empty, Owner, Rung}
use Rattle.tally.specs.Counts.{times, flags_set, lowest_flag}
use Rattle.rules.specs.Lawful.{Sized, Name, Proper}
use Rattle.rules.specs.Records.{Reply, marks, cell, done, went, seen_at, flags_at, on_rung}
use Rattle.rules.specs.declared.agent.Agent.{Agent}
use Rattle.rule_ladder.specs.declared.phase.LadderPhase.{LadderPhase}
use Rattle.rule_ladder.specs.declared.phase.LadderPhase.TheVariants.{Seek, Take, Raise, Fill, Try, Drop}
use Rattle.rule_ladder.specs.declared.verdict.Verdict.{Verdict}
use Rattle.rule_ladder.specs.declared.verdict.Verdict.TheVariants.{Withdraw, Hold, Climb}
use Rattle.rule_ladder.specs.Flags.{next_flag}
use Rattle.rule_ladder.specs.Verdicts.{verdict}
use Rattle.rule_ladder.specs.Moves.{turning, noting, flagging, seeking, raising_at, dropping_at, judged_as, judged, onward}
use Rattle.rule_ladder.specs.Ladder.{want_at, filled, step_at, OnRung, PhaseFits, LadderReachable, ladder_reachable}
use Rattle.rule_ladder.specs.ReachLaws.{reachable_step}
use Rattle.rule_ladder.specs.StartLaws.{loads_reachable, asks_reachable, leaves_reachable}
use Rattle.model.specs.Meanings.{by_ladder}
use Rattle.runs.proofs.Lawfulness.{Steady}

-- the same identity, and these flags
abbrev pub Has : Agent LadderPhase → List Bool → Agent LadderPhase → Type 0
Has a fs b = (b.identity ≡ a.identity) × (b.flags ≡ fs)

-- the flags after an answer: a swap that went sets the flag at the name, a drop clears it, and nothing else changes any
abbrev pub after_done : LadderPhase → Agent LadderPhase → List Bool
after_done Seek a = a.flags
after_done Take a = a.flags
after_done Raise a = a.flags
after_done Fill a = a.flags
after_done Try a = a.flags
after_done Drop a = slice_set a.flags (a.name - 1) false

abbrev pub after_swap : LadderPhase → Agent LadderPhase → List Bool
after_swap Seek a = a.flags
after_swap Take a = slice_set a.flags (a.name - 1) true
after_swap Raise a = a.flags
after_swap Fill a = a.flags
after_swap Try a = slice_set a.flags (a.name - 1) true
after_swap Drop a = a.flags

abbrev pub flags_after : LadderPhase → Agent LadderPhase → Reply → List Bool
flags_after p a (marks ms) = a.flags
flags_after p a (cell k) = a.flags
flags_after p a done = after_done p a
flags_after p a (went true) = after_swap p a
flags_after p a (went false) = a.flags

raising_keeps : (a : Agent LadderPhase) (o : Option ℕ) → Has a a.flags (raising_at a o)
raising_keeps a (Some x) = (refl, refl)
raising_keeps a None = (refl, refl)

dropping_keeps : (a : Agent LadderPhase) (o : Option ℕ) → Has a a.flags (dropping_at a o)
dropping_keeps a (Some x) = (refl, refl)
dropping_keeps a None = (refl, refl)

judged_keeps : (v : Verdict) (m : ℕ) (a : Agent LadderPhase) → Has a a.flags (judged_as v m a)
judged_keeps Withdraw m a = dropping_keeps (on_rung a 0) (lowest_flag (flags_at a m))
judged_keeps Hold m a = (refl, refl)
judged_keeps Climb m a = raising_keeps (on_rung a _) (lowest_flag (flags_at a m))

module _ (n m : ℕ) where
  onward_keeps : (a : Agent LadderPhase) (p : LadderPhase) → Has a a.flags (onward n m a p)
  onward_keeps a p =
      cond_both (nat_lt a.name m) (turning a p (a.name + 1)) (judged n m a) (Has a a.flags) (λ _. (refl, refl)) (λ _. judged_keeps (verdict (flags_set (flags_at a m)) n a.rung m) m a)

  seeking_keeps : (a : Agent LadderPhase) → Has a a.flags (seeking m a)
  seeking_keeps a =
      let P = Has a a.flags in
      let take' = turning (on_rung a 1) Take 1 in
      let again = turning a Seek 1 in
      let test = nat_eq (times (seen_at a m) Empty) m in
      cond_both (nat_lt a.name m) (turning a Seek (a.name + 1)) (cond test take' again) P (λ _. (refl, refl)) (λ _. cond_both test take' again P (λ _. (refl, refl)) (λ _. (refl, refl)))

  filled_keeps : (a : Agent LadderPhase) (k : Mark) → Has a a.flags (filled n m a k)
  filled_keeps a Empty = (refl, refl)
  filled_keeps a (Owner i) = (refl, refl)
  filled_keeps a (Rung s) =
      cond_both (nat_le a.rung s) (onward n m a Fill) (turning a Try a.name) (Has a a.flags) (λ _. onward_keeps a Fill) (λ _. (refl, refl))

  pub step_has : (p : LadderPhase) (a : Agent LadderPhase) (r : Reply) → Has a (flags_after p a r) (step_at p n m a r)
  step_has Seek a (marks ms) = (refl, refl)
  step_has Seek a (cell k) = seeking_keeps (noting a k)
  step_has Seek a done = (refl, refl)
  step_has Seek a (went true) = (refl, refl)
  step_has Seek a (went false) = (refl, refl)
  step_has Take a (marks ms) = (refl, refl)
  step_has Take a (cell k) = (refl, refl)
  step_has Take a done = (refl, refl)
  step_has Take a (went true) = onward_keeps (flagging a true) Take
  step_has Take a (went false) = onward_keeps a Take
  step_has Raise a (marks ms) = (refl, refl)
  step_has Raise a (cell k) = (refl, refl)
  step_has Raise a done = raising_keeps a (next_flag (flags_at a m) a.name)
  step_has Raise a (went true) = (refl, refl)
  step_has Raise a (went false) = (refl, refl)
  step_has Fill a (marks ms) = (refl, refl)
  step_has Fill a (cell k) = filled_keeps a k
  step_has Fill a done = (refl, refl)
  step_has Fill a (went true) = (refl, refl)
  step_has Fill a (went false) = (refl, refl)
  step_has Try a (marks ms) = (refl, refl)
  step_has Try a (cell k) = (refl, refl)
  step_has Try a done = (refl, refl)
  step_has Try a (went true) = onward_keeps (flagging a true) Fill
  step_has Try a (went false) = (refl, refl)
  step_has Drop a (marks ms) = (refl, refl)
  step_has Drop a (cell k) = (refl, refl)
  step_has Drop a done = dropping_keeps (flagging a false) (lowest_flag (flags_at (flagging a false) m))
  step_has Drop a (went true) = (refl, refl)
  step_has Drop a (went false) = (refl, refl)

  module _ (size : Sized n m) where
    lawful_rung : (r : ℕ) → OnRung n r → lawful (Rung r) ≡ true
    lawful_rung r on = within_from 1 16 r on.0 (omega (arith, on.1, size.agents_high))

    wants_proper : (p : LadderPhase) (a : Agent LadderPhase) → Name m a.name → PhaseFits p n a → Proper m (want_at p a.name a.rung)
    wants_proper Seek a x f = x
    wants_proper Take a x f = (x, refl, refl)
    wants_proper Raise a x f = (x, lawful_rung a.rung f.0)
    wants_proper Fill a x f = x
    wants_proper Try a x f = (x, refl, lawful_rung a.rung f)
    wants_proper Drop a x f = (x, refl)

pub steady : Steady by_ladder
steady = record {
  reachable = ladder_reachable;
  loads = loads_reachable;
  asks = λ n m a size h idles. asks_reachable n m a size h;
  leaves = leaves_reachable;
  steps = λ n m a r size h moves good. reachable_step n m size a r h moves good;
  proper = λ n m a size h moves. wants_proper n m size a.phase a h.name_fits h.phase_fits;
  asking = λ n m a. (refl, refl);
  leaving = λ n m a. (refl, refl);
  identity = λ n m a r. (step_has n m a.phase a r).0;
}

-- what such a record has
pub reached_ladder : (n m : ℕ) (a : Agent LadderPhase) → steady.reachable n m a → LadderReachable n m a
unfolding steady
reached_ladder n m a h = h
