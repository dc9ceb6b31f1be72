-- The rule `majority`. Own is an owner's mark with the agent's identity, m is the number of cells. Assumes nothing.
use Rattle.std.specs.Prelude.{◌≡◌, ℕ, ◌+◌, ◌*◌, ◌<◌, Bool, cond, length, replicate, Some, None, Option, ◌==◌, nat_lt}
use Rattle.std.specs.Option.{unwrap_or}
use Rattle.cells.specs.Marks.{mark_at, put}
use Rattle.cells.specs.declared.mark.Mark.{Mark}
use Rattle.cells.specs.declared.mark.Mark.TheVariants.{Empty}
use Rattle.tally.specs.Counts.{times, lowest, most_of_one}
use Rattle.rules.specs.Records.{Reply, marks, cell, done, went, own, seen_at, going, having_seen}
use Rattle.rules.specs.Lawful.{LawfulIdentity, AllLawful, Name}
use Rattle.rules.specs.declared.agent.Agent.{Agent}
use Rattle.rules.specs.declared.agent.Section.{Section}
use Rattle.rules.specs.declared.agent.Section.TheVariants.{Idle, Asking, Holding, Leaving}
use Rattle.rules.specs.declared.want.Want.{Want}
use Rattle.rules.specs.declared.want.Want.TheVariants.{Read, Write, Swap}
use Rattle.rule_majority.specs.declared.phase.MajorityPhase.{MajorityPhase}
use Rattle.rule_majority.specs.declared.phase.MajorityPhase.TheVariants.{Take, Scan, Give, Wait}
use Rattle.rule_majority.specs.declared.verdict.Verdict.{Verdict}
use Rattle.rule_majority.specs.declared.verdict.Verdict.TheVariants.{Withdraw, Hold, Again}
use Rattle.rule_majority.specs.Verdicts.{verdict}

abbrev pub Record : Type 0
Record = Agent MajorityPhase

-- what is seen

-- the lowest name seen as own
abbrev pub own_name : ℕ → Record → Option ℕ
own_name m a = lowest (seen_at a m) (own a)

-- how many marks are seen as own
abbrev pub own_seen : ℕ → Record → ℕ
own_seen m a = times (seen_at a m) (own a)

-- the most marks seen of one identity
abbrev pub most_seen : ℕ → Record → ℕ
most_seen m a = most_of_one (seen_at a m)

-- all m marks are seen as empty
abbrev pub all_empty : ℕ → Record → Bool
all_empty m a = times (seen_at a m) Empty == m

-- the mark noted at the agent's name
abbrev pub noted : Record → Mark → Record
noted a k = having_seen a (put a.seen a.name k)

-- to a phase at a name, in the same section
abbrev pub to : Record → MajorityPhase → ℕ → Record
to a p x = going a a.section p x

-- giving

-- asking goes on to wait, leaving to idle
abbrev pub nothing_left_in : Section → Record → Record
nothing_left_in Idle a = to a Wait 1
nothing_left_in Asking a = to a Wait 1
nothing_left_in Holding a = to a Wait 1
nothing_left_in Leaving a = going a Idle Take 1

abbrev pub nothing_left : Record → Record
nothing_left a = nothing_left_in a.section a

abbrev pub give_at : Option ℕ → Record → Record
give_at (Some x) a = to a Give x
give_at None a = nothing_left a

-- at the lowest name that is still seen as own
abbrev pub give_next : ℕ → Record → Record
give_next m a = give_at (own_name m a) a

-- after the last name of a scan and of a wait

abbrev pub by_verdict : Verdict → ℕ → Record → Record
by_verdict Withdraw m a = give_next m a
by_verdict Hold m a = going a Holding Take 1
by_verdict Again m a = to a Take 1

abbrev pub decided : ℕ → Record → Record
decided m a = by_verdict (verdict (own_seen m a) (most_seen m a) m) m a

abbrev pub waited : ℕ → Record → Record
waited m a = cond (all_empty m a) (to a Take 1) (to a Wait 1)

-- the rule

-- a request begins at TAKE 1 with no mark seen
abbrev pub majority_asked : ℕ → ℕ → Record → Record
majority_asked n m a = going (having_seen a (replicate 64 Empty)) Asking Take 1

-- a leave begins at GIVE, at the lowest name seen as own: every reachable record that holds has one
abbrev pub majority_left : ℕ → ℕ → Record → Record
majority_left n m a = going a Leaving Give (unwrap_or (own_name m a) 1)

abbrev pub want_in : MajorityPhase → Record → Want
want_in Take a = Swap a.name Empty (own a)
want_in Scan a = Read a.name
want_in Give a = Write a.name Empty
want_in Wait a = Read a.name

abbrev pub majority_wants : ℕ → ℕ → Record → Want
majority_wants n m a = want_in a.phase a

-- an answer of another kind changes nothing
abbrev pub step_in : MajorityPhase → ℕ → Record → Reply → Record
step_in Take m a (marks ms) = a
step_in Take m a (cell k) = a
step_in Take m a done = a
step_in Take m a (went b) = cond (nat_lt a.name m) (to a Take (a.name + 1)) (to a Scan 1)
step_in Scan m a (marks ms) = a
step_in Scan m a (cell k) = cond (nat_lt a.name m) (to (noted a k) Scan (a.name + 1)) (decided m (noted a k))
step_in Scan m a done = a
step_in Scan m a (went b) = a
step_in Give m a (marks ms) = a
step_in Give m a (cell k) = a
step_in Give m a done = give_next m (noted a Empty)
step_in Give m a (went b) = a
step_in Wait m a (marks ms) = a
step_in Wait m a (cell k) = cond (nat_lt a.name m) (to (noted a k) Wait (a.name + 1)) (waited m (noted a k))
step_in Wait m a done = a
step_in Wait m a (went b) = a

abbrev pub majority_becomes : ℕ → ℕ → Record → Reply → Record
majority_becomes n m a r = step_in a.phase m a r

-- what holds of every record that calls can lead to
pub record Reachable (m : ℕ) (a : Record) : Type 0 where
  pub lawful_identity : LawfulIdentity a.identity
  pub lawful_seen : AllLawful a.seen
  pub room : length a.seen ≡ 64
  pub named : Name m a.name
  -- while idle or holding, the phase is that of a new request
  pub idle : a.section ≡ Idle → (a.phase ≡ Take) × (a.name ≡ 1)
  pub holding : a.section ≡ Holding → (a.phase ≡ Take) × (a.name ≡ 1) × (m < 2 * own_seen m a)
  pub leaving : a.section ≡ Leaving → a.phase ≡ Give
  -- only what is seen as own is given
  pub giving : a.phase ≡ Give → mark_at a.seen a.name ≡ own a

abbrev pub majority_reachable : ℕ → ℕ → Record → Type 0
majority_reachable n m a = Reachable m a
