use Rattle.std.proofs.Common.{Ok, Err, refl, ap, ◌∙◌}
use Rattle.std.proofs.lemmas.Result.{err_from_is_err_and}
use Rattle.refusal.specs.Checks.{◌then◌}
use Rattle.cells.specs.Marks.{mark_check, same_mark, says_yes}
use Rattle.cells.specs.declared.mark.Mark.{Mark}
use Rattle.renumbered.proofs.CallLaws.{answer_refused, after_refused, answer_taken, after_taken}
use Rattle.renumbered.proofs.renumbered.RenumberedCellStore.swap.Goals as goal

pub returns-in_err-below : goal.returns-in_err-below
returns-in_err-below g c =
    let s = c.args.self.now in
    let ms = g.S.CellStore.marks s.store in
    let F = λ (m : Mark). mark_check c.args.old then mark_check c.args.new then Ok (same_mark m c.args.old) in
    let p = err_from_is_err_and c.from_residual.result c.from_residual.ensures.1 in
    let is = c.in_err-below.ensures.value in
    record {
      value = p.1 ∙ ap Err p.2 ∙ answer_refused s.numbering ms c.args.name F _ is;
      after = after_refused s.numbering ms c.args.name F says_yes c.args.new _ refl is;
      same = refl;
    }

pub returns : goal.returns
returns g c =
    let s = c.args.self.now in
    let ms = g.S.CellStore.marks s.store in
    let F = λ (m : Mark). mark_check c.args.old then mark_check c.args.new then Ok (same_mark m c.args.old) in
    let is = c.in_ok-below.ensures.value in
    record {
      value = c.swap.ensures.value ∙ answer_taken s.numbering ms c.args.name F _ is;
      after = after_taken s.numbering ms c.args.name F _ is says_yes c.args.new _ c.swap.ensures.after;
      same = c.swap.ensures.same;
    }
