-- What follows from the counts after a scan. Assumes nothing.
use Rattle.std.specs.Prelude.{ℕ, ◌*◌, cond, nat_lt}
use Rattle.rule_majority.specs.declared.verdict.Verdict.{Verdict}
use Rattle.rule_majority.specs.declared.verdict.Verdict.TheVariants.{Withdraw, Hold, Again}

-- own marks against the most of one identity, among m: fewer withdraws, more than half of m holds
abbrev pub verdict : ℕ → ℕ → ℕ → Verdict
verdict own most m = cond (nat_lt own most) Withdraw (cond (nat_lt m (2 * own)) Hold Again)
