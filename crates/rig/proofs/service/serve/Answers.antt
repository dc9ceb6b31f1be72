use Rattle.std.proofs.Common.{Err, sym, ap, ◌∙◌}
use Rattle.std.proofs.lemmas.Result.{err_from_is_err_and}
use Rattle.cells.specs.Marks.{swap_answer}
use Rattle.model.specs.Rigs.{store_check}
use Rattle.rig.specs.Serving.{checked}
use Rattle.rig.specs.Worlds.{seat_over}
use Rattle.rig.proofs.ServiceLaws.{swap_refused}
use Rattle.rig.proofs.service.serve.Goals as goal

pub returns-in_err-found-in-Swap-clause-value : goal.returns-in_err-found-in-Swap-clause-value
returns-in_err-found-in-Swap-clause-value g c =
    let m = c.args.cells in
    let ms = g.S.CellStore.marks c.args.store.now in
    let s = seat_over m c.args.seat.now in
    let w = c.in-Swap in
    let p = err_from_is_err_and c.from_residual-in_err-found-in-Swap.result c.from_residual-in_err-found-in-Swap.ensures.1 in
    let here = c.entry-in-Swap.ensures.value in
    ap checked (p.1 ∙ ap Err p.2)
    ∙ sym (swap_refused ms _ w.old w.new _ (c.in_err-found-in-Swap.ensures.value ∙ ap (λ y. swap_answer ms y w.old w.new) here))
    ∙ ap (store_check m ms s) (sym w.is)
