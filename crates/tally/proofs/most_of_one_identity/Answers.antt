use Rattle.std.proofs.Common.{◌≤◌, cond, length, max, take_all, ap, ◌∙◌, arith}
use Rattle.std.specs.List.{fold}
use Rattle.cells.specs.declared.mark.Mark.TheVariants.{Empty}
use Rattle.tally.specs.Counts.{is_owner, times}
use Rattle.tally.proofs.CountLaws.{largest_is}
use Rattle.tally.proofs.most_of_one_identity.Goals as goal

pub returns : goal.returns
returns c =
    let ms = c.args.marks.now in
    let end : length ms ≤ c.loop-mark.mark-index = omega (arith, c.loop-mark-test.false) in
    record {
      value =
          c.loop-mark.invariant
          ∙ ap (fold (λ a k. max a (cond (is_owner k) (times ms k) 0)) 0) (take_all c.loop-mark.mark-index ms end)
          ∙ largest_is ms Empty (λ k. cond (is_owner k) (times ms k) 0);
    }
