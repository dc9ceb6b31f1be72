-- What came of a want, as an answer and as a check. Assumes nothing.
use Rattle.std.specs.Prelude.{ℕ, take, Ok, Err, Result}
use Rattle.refusal.specs.Checks.{Check}
use Rattle.refusal.specs.declared.Refusal.{Refusal}
use Rattle.rules.specs.Records.{Reply, marks, cell, done, went}
use Rattle.rig.specs.declared.service.Outcome.{Outcome}
use Rattle.rig.specs.declared.service.Outcome.TheVariants.{Seen, Cell, Done, Went}

-- whether it was refused, whatever came of it
abbrev pub checked : {A : Type 0} → Result A Refusal → Check
checked (Ok a) = Ok tt
checked (Err e) = Err e

-- the answer over m cells
abbrev pub reply_by : ℕ → Outcome → Reply
reply_by m (Seen ms) = marks (take m ms)
reply_by m (Cell k) = cell k
reply_by m Done = done
reply_by m (Went b) = went b
