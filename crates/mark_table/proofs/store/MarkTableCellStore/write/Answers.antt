use Rattle.cells.proofs.StoreLaws.{write_put}
use Rattle.mark_table.specs.Tables.{table_marks}
use Rattle.mark_table.proofs.TableLaws.{changes}
use Rattle.mark_table.proofs.store.MarkTableCellStore.write.Goals as goal

pub returns-clause-after : goal.returns-clause-after
returns-clause-after c =
    let t = c.args.self.now in
    let n = c.count.result in
    let counted = c.count.ensures.value in
    let y = c.args.name in
    let k = c.args.mark in
    let name = c.in_ok-check_name.ensures.value in
    write_put (table_marks t) n y counted name k _ c.in_ok-check_mark.ensures.value (changes t n y counted name k)
