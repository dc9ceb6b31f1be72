use Rattle.std.proofs.Common.{◌∙◌}
use Rattle.cells.proofs.StoreLaws.{read_accepted}
use Rattle.record_file.specs.Records.{records}
use Rattle.record_file.proofs.RecordLaws.{room, read}
use Rattle.record_file.proofs.store.RecordFileCellStore.read.Goals as goal

pub mark_at-requires : goal.mark_at-requires
mark_at-requires c = room c.args.self.now.file.now c.count.result c.args.name c.count.ensures.value c.in_ok-check_name.ensures.value

pub returns : goal.returns
returns c =
    let f = c.args.self.now.file.now in
    let n = c.count.result in
    let y = c.args.name in
    let counted = c.count.ensures.value in
    let name = c.in_ok-check_name.ensures.value in
    record { value = read_accepted (records f) n y counted name _ (c.mark_at.ensures.value ∙ read f n y counted name) }
