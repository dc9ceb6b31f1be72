use Rattle.std.proofs.Common.{◌≡◌, take, count_by}
use Rattle.tally.proofs.count.Given as goal

-- as often as the element stands so far
abbrev pub invariant-loop-other : goal.invariant-loop-other
invariant-loop-other g l = l.count ≡ count_by (λ x. g.T.PartialEq.eq x l.element) (take l.other-index l.list)
