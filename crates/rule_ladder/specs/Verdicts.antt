-- What becomes of an agent with c flags on rung r, of n agents and m cells. Assumes nothing.
use Rattle.std.specs.Prelude.{ℕ, ◌+◌, ◌-◌, ◌*◌, Bool, cond, nat_le, nat_lt}
use Rattle.rule_ladder.specs.declared.verdict.Verdict.{Verdict}
use Rattle.rule_ladder.specs.declared.verdict.Verdict.TheVariants.{Withdraw, Hold, Climb}

-- as many flags for each agent that the rungs from r up have room for do not cover the cells
abbrev pub too_few : ℕ → ℕ → ℕ → ℕ → Bool
too_few c n r m = nat_lt (c * (n - r + 1)) m

abbrev pub verdict : ℕ → ℕ → ℕ → ℕ → Verdict
verdict c n r m = cond (too_few c n r m) Withdraw (cond (nat_le n r) Hold Climb)
