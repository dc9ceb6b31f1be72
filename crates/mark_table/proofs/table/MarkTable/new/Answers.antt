use Rattle.std.proofs.Common.{replicate, ap, ◌∙◌, arith}
use Rattle.std.proofs.lemmas.List.{take-replicate}
use Rattle.cells.specs.declared.mark.Mark.TheVariants.{Empty}
use Rattle.mark_table.proofs.table.MarkTable.new.Goals as goal

pub returns : goal.returns
returns c =
    record { value = take-replicate c.min.result 64 Empty (omega (arith, c.min.ensures)) ∙ ap (λ n. replicate n Empty) c.min.ensures }
