use Rattle.std.proofs.Common.{◌≡◌, ℕ, ◌+◌, ◌-◌, ◌≤◌, length, get_or}
use Rattle.numbers.specs.First.{NonePasses}
use Rattle.cells.specs.Marks.{mark_at}
use Rattle.cells.specs.declared.mark.Mark.TheVariants.{Empty}
use Rattle.model.specs.Rigs.{entry}
use Rattle.rig.specs.Worlds.{seat_over}
use Rattle.rig.proofs.ServiceLaws.{lacks}
use Rattle.rig.proofs.service.look.Given as goal

abbrev pub invariant-loop-before : goal.invariant-loop-before
invariant-loop-before g l =
    (length l.seen ≡ 64)
    × NonePasses (lacks l.cells (g.S.CellStore.marks l.store) (seat_over l.cells l.seat)) 1 (l.before + 1)
    × ((x : ℕ) → 1 ≤ x → x ≤ l.before → get_or l.seen (x - 1) Empty ≡ mark_at (g.S.CellStore.marks l.store) (entry (seat_over l.cells l.seat) x))
