use Rattle.std.proofs.Common.{cond, sym, ap, ◌∙◌}
use Rattle.cells.specs.Marks.{same_mark, put}
use Rattle.cells.proofs.MarkLaws.{eq_is}
use Rattle.cells.proofs.StoreLaws.{swap_put}
use Rattle.mark_table.specs.Tables.{table_marks}
use Rattle.mark_table.proofs.TableLaws.{there, changes}
use Rattle.mark_table.proofs.store.MarkTableCellStore.swap.Goals as goal

pub returns-then-found-clause-after : goal.returns-then-found-clause-after
returns-then-found-clause-after c =
    let t = c.args.self.now in
    let n = c.count.result in
    let counted = c.count.ensures.value in
    let y = c.args.name in
    let old = c.args.old in
    let new = c.args.new in
    let name = c.in_ok-check_name.ensures.value in
    let found = c.eq-found.ensures ∙ eq_is _ old ∙ ap (λ k. same_mark k old) (there t n y counted name) in
    let put_if = sym (ap (λ b. cond b (put (table_marks t) y new) (table_marks t)) c.if-found.true) in
    swap_put (table_marks t) n y counted name old new _ c.in_ok-check_mark.ensures.value c.in_ok-check_mark-2.ensures.value found _ (changes t n y counted name new ∙ put_if)
