use Rattle.std.proofs.Common.{◌≡◌, ◌<◌, ◌≤◌, [], ◌++◌, length, sym, subst, ◌∙◌, arith}
use Rattle.model.specs.Rigs.{is_holding, section_at}
use Rattle.rig.specs.Worlds.{world}
use Rattle.report.specs.Lines.{sizes_line, last_line, holder_number}
use Rattle.report.specs.Reports.{agent_lines, cell_lines, report_text}
use Rattle.report.specs.Sheets.{Puts}
use Rattle.report.proofs.BoundLaws.{first_small}
use Rattle.report.proofs.LengthLaws.{sizes_short, last_short, report_short, agents_short}
use Rattle.report.proofs.TextLaws.{◌then◌}
use Rattle.report.proofs.reporting.sheet_of.Goals as goal

pub returns : goal.returns
returns g c =
    let w = world g.S.CellStore.marks c.args.rig.now in
    let n = length w.rig.seats in
    let few : n ≤ 16 = subst (λ k. k ≤ 16) c.agents.ensures.value c.agents.ensures.few in
    let first = sizes_line c.agents.result c.cells.result c.NUMBER.result in
    let agents = agent_lines w.rig n in
    let cells = cell_lines w w.rig.cells in
    let last = last_line c.crowd.result c.holder.result in
    let put : Puts [] (first ++ (agents ++ (cells ++ last))) c.last_line.new.self =
    subst (λ t. Puts t (first ++ (agents ++ (cells ++ last))) c.last_line.new.self) c.new-sheet.ensures.value
    (c.sizes_line.ensures.after then c.write_agents.ensures.after then c.write_cells.ensures.after then c.last_line.ensures.after) in
    let low : holder_number c.holder.result < 100 = subst (λ o. holder_number o < 100) (sym c.holder.ensures.value) (first_small (λ k. is_holding (section_at w.rig k)) n few) in
    let sizes = sizes_short c.agents.result c.cells.result c.NUMBER.result (omega arith) (omega arith) (omega arith) in
    let each = agents_short c.args.rig.now n few in
    let end = last_short c.crowd.result c.holder.result (omega arith) low in
    let told : first ++ (agents ++ (cells ++ last)) ≡ report_text g.R.Rule.NUMBER w =
    λ i. sizes_line (c.agents.ensures.value i) (c.cells.ensures.value i) (c.NUMBER.ensures i) ++ (agent_lines w.rig n ++ (cell_lines w w.rig.cells ++ last_line (c.crowd.ensures.value i) (c.holder.ensures.value i))) in
    let fits = report_short first agents cells last sizes each c.write_cells.ensures.short end in
    record { value = put.whole fits ∙ told; fits = subst (λ t. length t ≤ 2336) told fits }
