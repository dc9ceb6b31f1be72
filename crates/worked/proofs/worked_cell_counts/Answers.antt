use Rattle.std.proofs.Common.{refl}
use Rattle.model.specs.Meanings.{read_and_write, by_majority, by_ladder}
use Rattle.lone.specs.Lone.{register_steps, majority_steps, ladder_steps}
use Rattle.lone.proofs.ReadWrite.{registers_alone}
use Rattle.lone.proofs.Majority.{majority_alone}
use Rattle.lone.proofs.Ladder.{ladder_alone}
use Rattle.worked.proofs.Counts.{every_file, eleven_bytes}
use Rattle.worked.proofs.Alone.{two_over_three}
use Rattle.worked.proofs.Examples.{accepted_over_five, accepted_over_twenty_five, example_plan, over_three, over_four, five_rounds}
use Rattle.worked.proofs.worked_cell_counts.Goals as goal

pub returns : goal.returns
returns c = record {
  value = refl;
  examples = record {
    cell_counts = every_file;
    accepted_over_five = accepted_over_five;
    accepted_over_twenty_five = accepted_over_twenty_five;
    eleven_bytes = eleven_bytes;
    plan = example_plan;
    registers_alone = two_over_three read_and_write register_steps registers_alone;
    majority_alone = two_over_three by_majority majority_steps majority_alone;
    ladder_alone = two_over_three by_ladder ladder_steps ladder_alone;
    registers_over_three = over_three read_and_write;
    majority_over_three = over_three by_majority;
    ladder_over_three = over_three by_ladder;
    registers_over_four = over_four read_and_write;
    majority_over_four = over_four by_majority;
    ladder_over_four = over_four by_ladder;
    five_rounds = five_rounds;
  };
}
