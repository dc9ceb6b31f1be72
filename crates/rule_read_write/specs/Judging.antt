-- What a look leads to. Assumes nothing.
use Rattle.std.specs.Prelude.{ℕ, ◌*◌, cond, not, ◌&&◌, List, Some, None, Option, ◌==◌, nat_lt}
use Rattle.cells.specs.declared.mark.Mark.{Mark}
use Rattle.cells.specs.declared.mark.Mark.TheVariants.{Empty}
use Rattle.tally.specs.Counts.{times, lowest, identities}
use Rattle.rule_read_write.specs.declared.judging.Verdict.{Verdict}
use Rattle.rule_read_write.specs.declared.judging.Verdict.TheVariants.{Hold, Again, Put, Withdraw}

-- some cell is empty: put at the lowest; else withdraw if k × d < m
abbrev pub otherwise : ℕ → Option ℕ → ℕ → ℕ → Verdict
otherwise k (Some x) d m = Put x
otherwise k None d m = cond (nat_lt (k * d) m) Withdraw Again

-- in this order: all own, hold; none own and not all empty, again; some empty, put; k × d < m, withdraw; else again
abbrev pub verdict : ℕ → ℕ → Option ℕ → ℕ → ℕ → Verdict
verdict k e x d m = cond (k == m) Hold (cond (k == 0 && not (e == m)) Again (otherwise k x d m))

-- the same, of the marks of all cells
abbrev pub look_verdict : List Mark → Mark → ℕ → Verdict
look_verdict ms own m = verdict (times ms own) (times ms Empty) (lowest ms Empty) (identities ms) m
