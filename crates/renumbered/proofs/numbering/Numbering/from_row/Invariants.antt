use Rattle.std.proofs.Common.{◌≡◌, ℕ, ◌+◌, ◌<◌, ◌≤◌, length}
use Rattle.renumbered.specs.Renumberings.{entry}
use Rattle.renumbered.proofs.numbering.Numbering.from_row.Given as goal

abbrev pub invariant-loop-name : goal.invariant-loop-name
invariant-loop-name g l = (length l.names.items + 1 ≡ l.name) × (l.name ≤ l.count + 1) × ((y : ℕ) → 1 ≤ y → y < l.name → entry l.names.items y ≡ g.R.Row.numbers l.row y)
