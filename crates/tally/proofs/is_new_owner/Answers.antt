use Rattle.std.proofs.Common.{rules, tests, ◌≡◌, ◌&&◌, true, not, take, is_some, sym, ap, ◌∙◌}
use Rattle.std.specs.List.{list_any}
use Rattle.std.proofs.lemmas.List.{take_min}
use Rattle.std.proofs.lemmas.Iterator.{YieldsList-from_slice}
use Rattle.std.proofs.lemmas.Iterator.Search.{any_from_yields_List}
use Rattle.tally.specs.Counts.{is_owner, lowest}
use Rattle.tally.proofs.EqualLaws.{equals, stands}
use Rattle.tally.proofs.is_new_owner.Goals as goal

pub returns-then-is_owner : goal.returns-then-is_owner
returns-then-is_owner c =
    let front = take c.args.before c.args.marks.now in
    let k = c.args.mark in
    let owner : is_owner k ≡ true = search (rules, tests) in
    let fits : take c.min.result c.args.marks.now ≡ front = ap (λ n. take n c.args.marks.now) c.min.ensures ∙ take_min c.args.before c.args.marks.now in
    let found : c.any.result ≡ list_any (equals k) (take c.min.result c.args.marks.now) =
    any_from_yields_List (equals k) _ _ c.any.result c.any.ensures.ran (YieldsList-from_slice (take c.min.result c.args.marks.now) cc) (λ x b q g. search (rules, tests)) in
    record { value = ap not (found ∙ ap (list_any (equals k)) fits ∙ stands front k) ∙ ap (λ b. b && not (is_some (lowest front k))) (sym owner) }
