-- What a rule means: its functions on records, whatever its phases are. Assumes nothing.
use Rattle.std.specs.Prelude.{ℕ}
use Rattle.rules.specs.Records.{Reply}
use Rattle.rules.specs.declared.agent.Agent.{Agent}
use Rattle.rules.specs.declared.rule.Rule.{Ghosts}
use Rattle.rules.specs.declared.want.Want.{Want}
use Rattle.rule_read_write.specs.ReadWrite as read_write
use Rattle.rule_read_write.specs.declared.phase.ReadWritePhase.{ReadWritePhase}
use Rattle.rule_read_write.specs.declared.phase.ReadWritePhase.TheVariants.{Look}
use Rattle.rule_majority.specs.Majority as majority
use Rattle.rule_majority.specs.declared.phase.MajorityPhase.{MajorityPhase}
use Rattle.rule_majority.specs.declared.phase.MajorityPhase.TheVariants.{Take}
use Rattle.rule_ladder.specs.Ladder as ladder
use Rattle.rule_ladder.specs.declared.phase.LadderPhase.{LadderPhase}
use Rattle.rule_ladder.specs.declared.phase.LadderPhase.TheVariants.{Seek}

-- its number, a loaded agent's phase, the first records of a request and a leave, what is wanted next, and the next record
pub record Meaning (P : Type 0) : Type 0 where
  pub number : ℕ
  pub loaded : P
  pub asked : ℕ → ℕ → Agent P → Agent P
  pub left : ℕ → ℕ → Agent P → Agent P
  pub wants : ℕ → ℕ → Agent P → Want
  pub becomes : ℕ → ℕ → Agent P → Reply → Agent P

-- what an implementation of the trait `Rule` means: its ghost members
abbrev pub meaning_of : {S P : Type 0} → Ghosts S P → Meaning P
meaning_of r = record {
  number = r.NUMBER;
  loaded = r.loaded;
  asked = r.asked;
  left = r.left;
  wants = r.wants;
  becomes = r.becomes;
}

abbrev pub read_and_write : Meaning ReadWritePhase
read_and_write = record {
  number = 1;
  loaded = Look;
  asked = read_write.first_asking;
  left = read_write.first_leaving;
  wants = read_write.wants_next;
  becomes = read_write.next;
}

abbrev pub by_majority : Meaning MajorityPhase
by_majority = record {
  number = 2;
  loaded = Take;
  asked = majority.majority_asked;
  left = majority.majority_left;
  wants = majority.majority_wants;
  becomes = majority.majority_becomes;
}

abbrev pub by_ladder : Meaning LadderPhase
by_ladder = record {
  number = 3;
  loaded = Seek;
  asked = ladder.ladder_asked;
  left = ladder.ladder_left;
  wants = ladder.ladder_wants;
  becomes = ladder.ladder_becomes;
}
