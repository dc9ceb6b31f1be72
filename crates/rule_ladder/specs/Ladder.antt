-- The ladder, with n agents and m cells. Assumes nothing.
use Rattle.std.specs.Prelude.{◌≡◌, ℕ, ◌≤◌, Bool, true, false, cond, length, replicate, nat_le}
use Rattle.std.specs.Option.{unwrap_or}
use Rattle.cells.specs.declared.mark.Mark.{Mark}
use Rattle.cells.specs.declared.mark.Mark.TheVariants.{Empty, Owner, Rung}
use Rattle.tally.specs.Counts.{flag_at, flags_set, lowest_flag}
use Rattle.rules.specs.Lawful.{LawfulIdentity, AllLawful, Name}
use Rattle.rules.specs.Records.{Reply, marks, cell, done, went, flags_at, going, on_rung, flagged}
use Rattle.rules.specs.declared.agent.Agent.{Agent}
use Rattle.rules.specs.declared.agent.Section.{Section}
use Rattle.rules.specs.declared.agent.Section.TheVariants.{Idle, Asking, Holding, Leaving}
use Rattle.rules.specs.declared.want.Want.{Want}
use Rattle.rules.specs.declared.want.Want.TheVariants.{Read, Write, Swap}
use Rattle.rule_ladder.specs.declared.phase.LadderPhase.{LadderPhase}
use Rattle.rule_ladder.specs.declared.phase.LadderPhase.TheVariants.{Seek, Take, Raise, Fill, Try, Drop}
use Rattle.rule_ladder.specs.Moves.{turning, flagging, sought, raising_next, dropping, onward}

-- a request begins at SEEK 1, on rung 0 and with no flag
abbrev pub ladder_asked : ℕ → ℕ → Agent LadderPhase → Agent LadderPhase
ladder_asked n m a = going (flagged (on_rung a 0) (replicate 64 false)) Asking Seek 1

-- a leave begins at DROP, on rung 0, at the lowest flagged name
abbrev pub ladder_left : ℕ → ℕ → Agent LadderPhase → Agent LadderPhase
ladder_left n m a = going (on_rung a 0) Leaving Drop (unwrap_or (lowest_flag (flags_at a m)) 1)

-- by phase, local name and rung
abbrev pub want_at : LadderPhase → ℕ → ℕ → Want
want_at Seek x r = Read x
want_at Take x r = Swap x Empty (Rung 1)
want_at Raise x r = Write x (Rung r)
want_at Fill x r = Read x
want_at Try x r = Swap x Empty (Rung r)
want_at Drop x r = Write x Empty

abbrev pub ladder_wants : ℕ → ℕ → Agent LadderPhase → Want
ladder_wants n m a = want_at a.phase a.name a.rung

-- FILL goes on at the own rung or a higher one, and tries at anything else
abbrev pub filled : ℕ → ℕ → Agent LadderPhase → Mark → Agent LadderPhase
filled n m a Empty = turning a Try a.name
filled n m a (Owner i) = turning a Try a.name
filled n m a (Rung s) = cond (nat_le a.rung s) (onward n m a Fill) (turning a Try a.name)

-- TAKE goes on, with the flag set where the swap went
abbrev pub taken : ℕ → ℕ → Agent LadderPhase → Bool → Agent LadderPhase
taken n m a true = onward n m (flagging a true) Take
taken n m a false = onward n m a Take

-- TRY goes on as FILL does, with the flag set, or back to FILL at the same name
abbrev pub tried : ℕ → ℕ → Agent LadderPhase → Bool → Agent LadderPhase
tried n m a true = onward n m (flagging a true) Fill
tried n m a false = turning a Fill a.name

abbrev pub step_at : LadderPhase → ℕ → ℕ → Agent LadderPhase → Reply → Agent LadderPhase
step_at Seek n m a (marks ms) = a
step_at Seek n m a (cell k) = sought m a k
step_at Seek n m a done = a
step_at Seek n m a (went b) = a
step_at Take n m a (marks ms) = a
step_at Take n m a (cell k) = a
step_at Take n m a done = a
step_at Take n m a (went b) = taken n m a b
step_at Raise n m a (marks ms) = a
step_at Raise n m a (cell k) = a
step_at Raise n m a done = raising_next m a
step_at Raise n m a (went b) = a
step_at Fill n m a (marks ms) = a
step_at Fill n m a (cell k) = filled n m a k
step_at Fill n m a done = a
step_at Fill n m a (went b) = a
step_at Try n m a (marks ms) = a
step_at Try n m a (cell k) = a
step_at Try n m a done = a
step_at Try n m a (went b) = tried n m a b
step_at Drop n m a (marks ms) = a
step_at Drop n m a (cell k) = a
step_at Drop n m a done = dropping m (flagging a false)
step_at Drop n m a (went b) = a

abbrev pub ladder_becomes : ℕ → ℕ → Agent LadderPhase → Reply → Agent LadderPhase
ladder_becomes n m a r = step_at a.phase n m a r

-- the rung and the flag at the local name x, by phase
abbrev pub OnRung : ℕ → ℕ → Type 0
OnRung n r = (1 ≤ r) × (r ≤ n)

abbrev pub PhaseFits : LadderPhase → ℕ → Agent LadderPhase → Type 0
PhaseFits Seek n a = Unit {0}
PhaseFits Take n a = a.rung ≡ 1
PhaseFits Raise n a = OnRung n a.rung × (flag_at a.flags a.name ≡ true)
PhaseFits Fill n a = OnRung n a.rung
PhaseFits Try n a = OnRung n a.rung
PhaseFits Drop n a = flag_at a.flags a.name ≡ true

-- an idle or holding agent stands where a request begins, and one that holds has all m flags set; a leaving one drops
abbrev pub SectionFits : Section → ℕ → Agent LadderPhase → Type 0
SectionFits Idle m a = (a.phase ≡ Seek) × (a.name ≡ 1)
SectionFits Asking m a = Unit {0}
SectionFits Holding m a = (a.phase ≡ Seek) × (a.name ≡ 1) × (m ≤ flags_set (flags_at a m))
SectionFits Leaving m a = a.phase ≡ Drop

-- what every record has that calls can lead to
pub record LadderReachable (n m : ℕ) (a : Agent LadderPhase) : Type 0 where
  pub identity_fits : LawfulIdentity a.identity
  pub seen_fits : AllLawful a.seen
  pub seen_all : length a.seen ≡ 64
  pub flags_all : length a.flags ≡ 64
  pub name_fits : Name m a.name
  pub phase_fits : PhaseFits a.phase n a
  pub section_fits : SectionFits a.section m a

abbrev pub ladder_reachable : ℕ → ℕ → Agent LadderPhase → Type 0
ladder_reachable n m a = LadderReachable n m a
