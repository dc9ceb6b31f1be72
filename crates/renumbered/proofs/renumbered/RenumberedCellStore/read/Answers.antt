use Rattle.std.proofs.Common.{Ok, Err, ap, ◌∙◌}
use Rattle.std.proofs.lemmas.Result.{err_from_is_err_and}
use Rattle.renumbered.proofs.CallLaws.{answer_refused, answer_taken}
use Rattle.renumbered.proofs.renumbered.RenumberedCellStore.read.Goals as goal

pub returns-in_err-below : goal.returns-in_err-below
returns-in_err-below g c =
    let s = c.args.self.now in
    let p = err_from_is_err_and c.from_residual.result c.from_residual.ensures.1 in
    record {
      value = p.1 ∙ ap Err p.2 ∙ answer_refused s.numbering (g.S.CellStore.marks s.store) c.args.name Ok _ c.in_err-below.ensures.value;
    }

pub returns : goal.returns
returns g c =
    let s = c.args.self.now in
    record {
      value = c.read.ensures.value ∙ answer_taken s.numbering (g.S.CellStore.marks s.store) c.args.name Ok _ c.in_ok-below.ensures.value;
    }
