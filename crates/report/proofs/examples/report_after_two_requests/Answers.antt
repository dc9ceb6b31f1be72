use Rattle.std.proofs.Common.{refl}
use Rattle.std.specs.Fmt.{digits}
use Rattle.numbers.specs.First.{first_of}
use Rattle.numbers.specs.Names.{named, listed}
use Rattle.tally.specs.Counts.{count_names, largest}
use Rattle.report.specs.Reports.{lines}
use Rattle.report.proofs.examples.report_after_two_requests.Goals as goal

pub returns : goal.returns
unfolding digits first_of named listed count_names largest lines
returns c = record { value = refl }
