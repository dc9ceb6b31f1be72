use Rattle.std.proofs.Common.{is_ok, Err, refl, ap, ◌∙◌}
use Rattle.std.proofs.lemmas.Result.{err_from_is_err_and}
use Rattle.cells.specs.Marks.{mark_check}
use Rattle.renumbered.proofs.CallLaws.{answer_refused, after_refused, answer_taken, after_taken}
use Rattle.renumbered.proofs.renumbered.RenumberedCellStore.write.Goals as goal

pub returns-in_err-below : goal.returns-in_err-below
returns-in_err-below g c =
    let s = c.args.self.now in
    let ms = g.S.CellStore.marks s.store in
    let p = err_from_is_err_and c.from_residual.result c.from_residual.ensures.1 in
    let is = c.in_err-below.ensures.value in
    record {
      value = p.1 ∙ ap Err p.2 ∙ answer_refused s.numbering ms c.args.name (λ _. mark_check c.args.mark) _ is;
      after = after_refused s.numbering ms c.args.name (λ _. mark_check c.args.mark) is_ok c.args.mark _ refl is;
      same = refl;
    }

pub returns : goal.returns
returns g c =
    let s = c.args.self.now in
    let ms = g.S.CellStore.marks s.store in
    let is = c.in_ok-below.ensures.value in
    record {
      value = c.write.ensures.value ∙ answer_taken s.numbering ms c.args.name (λ _. mark_check c.args.mark) _ is;
      after = after_taken s.numbering ms c.args.name (λ _. mark_check c.args.mark) _ is is_ok c.args.mark _ c.write.ensures.after;
      same = c.write.ensures.same;
    }
