use Rattle.std.proofs.Common.{rules}
use Rattle.lone.proofs.ReadWrite.{registers_alone}
use Rattle.lone.proofs.Majority.{majority_alone}
use Rattle.lone.proofs.Ladder.{ladder_alone}
use Rattle.lone.proofs.lone_steps.Goals as goal

pub returns : goal.returns
returns c = record {
  registers = search rules;
  majority = search rules;
  ladder = search rules;
  by_registers = registers_alone;
  by_majority = majority_alone;
  by_ladder = ladder_alone;
}
