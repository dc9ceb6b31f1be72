use Rattle.std.proofs.Common.{◌∙◌, arith}
use Rattle.std.proofs.lemmas.Bool.Decides.{not_from_Decides}
use Rattle.std.proofs.lemmas.Str.Pattern.{starts_char}
use Rattle.standoffs.proofs.NumberLaws.{number_plain}
use Rattle.standoffs.proofs.numerals.number_of.Goals as goal

pub returns : goal.returns
returns c =
    let plain = not_from_Decides c.starts_with.result (starts_char 43 c.args.word.now c.starts_with.result c.starts_with.ensures.cases (omega arith) (omega arith)) c.if-starts_with.false in
    record { value = c.ok.ensures.value ∙ number_plain c.args.word.now c.parse.result c.parse.ensures.value.0 plain }
