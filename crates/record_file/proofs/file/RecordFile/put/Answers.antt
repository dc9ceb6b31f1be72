use Rattle.std.proofs.Common.{◌≡◌, ◌+◌, ◌-◌, arith}
use Rattle.record_file.specs.Records.{start}
use Rattle.record_file.proofs.RecordLaws.{put_between}
use Rattle.record_file.proofs.file.RecordFile.put.Goals as goal

pub returns-clause-after : goal.returns-clause-after
returns-clause-after c =
    let f = c.args.self.now.file.now in
    let at = start c.args.name in
    let four : (at + 4) - at ≡ 4 = omega arith in
    rw (c.copy_from_slice.ensures.after, c.from-record.ensures.value, c.start-at.ensures, four) (put_between f at c.args.mark c.requires)
