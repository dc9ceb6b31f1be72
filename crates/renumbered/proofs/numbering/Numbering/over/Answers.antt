use Rattle.renumbered.proofs.TableLaws.{table_all, both, both_distinct, both_stay}
use Rattle.renumbered.proofs.numbering.Numbering.over.Goals as goal

pub from_row-requires : goal.from_row-requires
from_row-requires c = record { small = c.requires; distinct = both_distinct c.args.self.now c.args.lower.now c.args.cells }

pub returns : goal.returns
returns c =
    let k = c.args.cells in
    let s = c.args.self.now in
    let lower = c.args.lower.now in
    record {
      names = table_all c.from_row.result k (both s lower k) c.from_row.ensures.count c.from_row.ensures.names (both_distinct s lower k) (both_stay s lower k);
    }
