use Rattle.std.proofs.Common.{refl}
use Rattle.std.specs.Fmt.{digits}
use Rattle.numbers.specs.First.{first_of}
use Rattle.report.specs.Reports.{lines}
use Rattle.report.proofs.examples.report_of_blank.Goals as goal

pub returns : goal.returns
unfolding digits first_of lines
returns c = record { value = λ ms. refl }
