use Rattle.std.proofs.Common.{sym, ◌∙◌}
use Rattle.renumbered.specs.Stores.{stands_for}
use Rattle.renumbered.proofs.RenumberingLaws.{length_renumbered}
use Rattle.renumbered.proofs.renumbered.RenumberedCellStore.count.Goals as goal

pub returns : goal.returns
returns g c =
    let s = c.args.self.now in
    let marks = g.S.CellStore.marks in
    record { value = c.count.ensures.value ∙ sym (length_renumbered (stands_for marks s) (marks s.store)); bound = c.count.ensures.bound }
