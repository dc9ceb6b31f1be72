use Rattle.std.proofs.Common.{rules, tests, ◌≡◌, ℕ, ◌-◌, Bool, ◌&&◌, take, not, is_some, length, ap, arith, ◌∙◌}
use Rattle.std.specs.List.{filter, enumerate_from}
use Rattle.std.proofs.lemmas.Iterator.{YieldsList-from_slice}
use Rattle.std.proofs.lemmas.Iterator.Consumers.{YieldsList-from_filter, YieldsList-from_enumerate, YieldsList-at, count_from_yields_List}
use Rattle.std.proofs.lemmas.List.Sums.{length-filter}
use Rattle.cells.specs.Marks.{mark_at}
use Rattle.cells.specs.declared.mark.Mark.{Mark}
use Rattle.cells.specs.declared.mark.Mark.TheVariants.{Empty}
use Rattle.tally.specs.Counts.{is_owner, is_new, lowest}
use Rattle.tally.proofs.CountLaws.{count_same, enumerated_is}
use Rattle.tally.proofs.EqualLaws.{front_same}
use Rattle.tally.proofs.count_identities.Goals as goal

pub returns : goal.returns
returns c =
    let ms = c.args.marks.now in
    let new : ℕ → Mark → Bool = λ i k. is_owner k && not (is_some (lowest (take i ms) k)) in
    let listed : c.count.result ≡ length (filter (λ q. new q.0 q.1) (enumerate_from 0 ms)) =
    count_from_yields_List c.filter.result c.count.result c.count.ensures.ran (YieldsList-from_filter _ (λ q. new q.0 q.1) (YieldsList-at c.filter.ensures.source (YieldsList-from_enumerate (YieldsList-from_slice ms cc) cc)) c.filter.ensures.closure (λ x b q k. search (rules, tests))) in
    record {
      value =
          listed
          ∙ length-filter (λ q. new q.0 q.1) (enumerate_from 0 ms)
          ∙ enumerated_is ms Empty new
          ∙ count_same _ (is_new ms) (length ms) (λ y a b. ap (λ o. is_owner (mark_at ms y) && not (is_some o)) (front_same ms (y - 1) (mark_at ms y) (omega arith)));
    }
