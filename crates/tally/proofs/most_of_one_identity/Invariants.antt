use Rattle.std.proofs.Common.{◌≡◌, cond, max, take}
use Rattle.std.specs.List.{fold}
use Rattle.tally.specs.Counts.{is_owner, times}
use Rattle.tally.proofs.most_of_one_identity.Given as goal

-- the most marks of an identity that owns one so far
abbrev pub invariant-loop-mark : goal.invariant-loop-mark
invariant-loop-mark l = l.most ≡ fold (λ a k. max a (cond (is_owner k) (times l.marks k) 0)) 0 (take l.mark-index l.marks)
