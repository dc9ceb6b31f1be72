use Rattle.std.proofs.Common.{◌≡◌, length, true, sym, ◌∙◌, subst, rules}
use Rattle.renumbered.specs.Renumberings.{entry, arranged}
use Rattle.renumbered.proofs.RenumberingLaws.{sigma_in, sigma_out, sigma_other}
use Rattle.renumbered.proofs.numbering.Numbering.below.Goals as goal
use Rattle.renumbered.proofs.numbering.Numbering.below.Goals.{else-len-cells-via-then-len-cells+else-is_name, else-len-cells-via-else-len-cells}

pub returns-then-is_name : goal.returns-then-is_name
returns-then-is_name c =
    let n = c.args.self.now in
    let good : arranged n (length n) ≡ true = subst (λ ns. arranged ns (length ns) ≡ true) c.self.view_is c.self.invariant in
    let full : length n ≡ c.args.cells = search rules in
    let there : c.from.result ≡ entry n c.args.name = search rules in
    record { value = there ∙ sym (sigma_in n (length n) c.args.cells c.args.name full (sym c.if-is_name.ensures.value) good) }

pub returns-else-len-cells : goal.returns-else-len-cells
returns-else-len-cells c =
    let n = c.args.self.now in
    record {
      value =
          sym
          (elim c.else-len-cells.branch [
            | else-len-cells-via-then-len-cells+else-is_name w ↦ sigma_out n (length n) c.args.cells c.args.name (sym w.if-is_name.ensures.value)
            | else-len-cells-via-else-len-cells w ↦ sigma_other n (length n) c.args.cells c.args.name (search rules)
          ]);
    }
