-- The moves of an agent on the ladder, with m cells. Assumes nothing.
use Rattle.std.specs.Prelude.{ℕ, ◌+◌, ◌-◌, min, Bool, cond, Some, None, Option, ◌==◌, nat_lt, slice_set}
use Rattle.cells.specs.declared.mark.Mark.{Mark}
use Rattle.cells.specs.declared.mark.Mark.TheVariants.{Empty}
use Rattle.tally.specs.Counts.{times, flags_set, lowest_flag}
use Rattle.rules.specs.Records.{seen_at, flags_at, going, on_rung, having_seen, flagged}
use Rattle.rules.specs.declared.agent.Agent.{Agent}
use Rattle.rules.specs.declared.agent.Section.{Section}
use Rattle.rules.specs.declared.agent.Section.TheVariants.{Idle, Asking, Holding, Leaving}
use Rattle.rule_ladder.specs.declared.phase.LadderPhase.{LadderPhase}
use Rattle.rule_ladder.specs.declared.phase.LadderPhase.TheVariants.{Seek, Take, Raise, Fill, Drop}
use Rattle.rule_ladder.specs.declared.verdict.Verdict.{Verdict}
use Rattle.rule_ladder.specs.declared.verdict.Verdict.TheVariants.{Withdraw, Hold, Climb}
use Rattle.rule_ladder.specs.Flags.{next_flag}
use Rattle.rule_ladder.specs.Verdicts.{verdict}

-- an agent goes to a phase at a name
abbrev pub turning : Agent LadderPhase → LadderPhase → ℕ → Agent LadderPhase
turning a p x = going a a.section p x

-- it notes the mark at its name, and sets or clears the flag there
abbrev pub noting : Agent LadderPhase → Mark → Agent LadderPhase
noting a k = having_seen a (slice_set a.seen (a.name - 1) k)

abbrev pub flagging : Agent LadderPhase → Bool → Agent LadderPhase
flagging a b = flagged a (slice_set a.flags (a.name - 1) b)

-- SEEK on to the next name; after m to TAKE on rung 1, if all m marks seen are empty, or else to SEEK again
abbrev pub seeking : ℕ → Agent LadderPhase → Agent LadderPhase
seeking m a = cond (nat_lt a.name m) (turning a Seek (a.name + 1)) (cond (times (seen_at a m) Empty == m) (turning (on_rung a 1) Take 1) (turning a Seek 1))

abbrev pub sought : ℕ → Agent LadderPhase → Mark → Agent LadderPhase
sought m a k = seeking m (noting a k)

-- RAISE at a flagged name, or FILL where there is none
abbrev pub raising_at : Agent LadderPhase → Option ℕ → Agent LadderPhase
raising_at a (Some x) = turning a Raise x
raising_at a None = turning a Fill 1

abbrev pub raising_lowest : ℕ → Agent LadderPhase → Agent LadderPhase
raising_lowest m a = raising_at a (lowest_flag (flags_at a m))

abbrev pub raising_next : ℕ → Agent LadderPhase → Agent LadderPhase
raising_next m a = raising_at a (next_flag (flags_at a m) a.name)

-- with all marks dropped, a leaving agent is idle
abbrev pub rested : Section → Section
rested Idle = Idle
rested Asking = Asking
rested Holding = Holding
rested Leaving = Idle

-- DROP at a flagged name; where there is none, an asking agent seeks again, and a leaving one is idle
abbrev pub dropping_at : Agent LadderPhase → Option ℕ → Agent LadderPhase
dropping_at a (Some x) = turning a Drop x
dropping_at a None = going a (rested a.section) Seek 1

abbrev pub dropping : ℕ → Agent LadderPhase → Agent LadderPhase
dropping m a = dropping_at a (lowest_flag (flags_at a m))

-- judged: withdraw from the ladder, hold, or climb by one rung
abbrev pub judged_as : Verdict → ℕ → Agent LadderPhase → Agent LadderPhase
judged_as Withdraw m a = dropping m (on_rung a 0)
judged_as Hold m a = going a Holding Seek 1
judged_as Climb m a = raising_lowest m (on_rung a (min (a.rung + 1) 255))

abbrev pub judged : ℕ → ℕ → Agent LadderPhase → Agent LadderPhase
judged n m a = judged_as (verdict (flags_set (flags_at a m)) n a.rung m) m a

-- on to the next name in a phase, or judged after m
abbrev pub onward : ℕ → ℕ → Agent LadderPhase → LadderPhase → Agent LadderPhase
onward n m a p = cond (nat_lt a.name m) (turning a p (a.name + 1)) (judged n m a)
