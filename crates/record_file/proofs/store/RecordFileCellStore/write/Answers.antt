use Rattle.record_file.proofs.RecordLaws.{room, written}
use Rattle.record_file.proofs.store.RecordFileCellStore.write.Goals as goal

pub put-requires : goal.put-requires
put-requires c = room c.args.self.now.file.now c.count.result c.args.name c.count.ensures.value c.in_ok-check_name.ensures.value

pub returns-clause-after : goal.returns-clause-after
returns-clause-after c =
    let f = c.args.self.now.file.now in
    written f c.count.result c.args.name c.count.ensures.value c.in_ok-check_name.ensures.value c.args.mark c.put.new.self.file.now c.in_ok-check_mark.ensures.value c.put.ensures.after
