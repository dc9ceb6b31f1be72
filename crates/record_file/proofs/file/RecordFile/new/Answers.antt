use Rattle.std.proofs.Common.{◌≡◌, ◌*◌, ◌++◌, length, drop, rules, ap, ◌∙◌}
use Rattle.record_file.specs.Records.{records, record_count, emptied}
use Rattle.record_file.proofs.RecordLaws.{cleared}
use Rattle.record_file.proofs.file.RecordFile.new.Goals as goal

pub returns-clause-marks : goal.returns-clause-marks
returns-clause-marks c =
    let f = c.args.file.now in
    let bytes : c.fill.new.self ++ drop (4 * c.cells_in-size.result) f ≡ emptied f (4 * record_count (length f)) = search rules in
    ap records bytes ∙ cleared f
