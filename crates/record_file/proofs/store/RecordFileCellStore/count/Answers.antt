use Rattle.std.proofs.Common.{◌∙◌}
use Rattle.record_file.proofs.RecordLaws.{count_is}
use Rattle.record_file.proofs.store.RecordFileCellStore.count.Goals as goal

pub returns-clause-value : goal.returns-clause-value
returns-clause-value c = c.cells_in.ensures.value ∙ count_is c.args.self.now.file.now
