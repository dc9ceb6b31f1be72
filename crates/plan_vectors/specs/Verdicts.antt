-- The line of the verdict on a plan file. Assumes nothing.
use Rattle.std.specs.Prelude.{ℕ, List, Ok, Err, codes, Result}
use Rattle.refusal.specs.declared.Refusal.{Refusal}
use Rattle.refusal.specs.Refusals.{refusal_line}
use Rattle.plan.specs.Checks.{decoded}
use Rattle.plan.specs.Plans.{Sayings, rule_asked}

abbrev pub line_of : Result Sayings Refusal → List ℕ
line_of (Ok p) = codes "accepted"
line_of (Err e) = refusal_line e

-- for the rule that the file asks for
abbrev pub verdict_line : List ℕ → List ℕ
verdict_line f = line_of (decoded (rule_asked f) f)
