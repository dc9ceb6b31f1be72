-- The published rules and their numbers. Assumes nothing.
use Rattle.std.specs.Prelude.{◌≡◌, ℕ, cond, Some, None, Option, ◌==◌, refl}
use Rattle.plan.specs.declared.rule.PublishedRule.{PublishedRule}
use Rattle.plan.specs.declared.rule.PublishedRule.TheVariants.{ReadWrite, Majority, Ladder}

abbrev pub rule_number : PublishedRule → ℕ
rule_number ReadWrite = 1
rule_number Majority = 2
rule_number Ladder = 3

-- the rule of a number, if one has it
abbrev pub published : ℕ → Option PublishedRule
published n = cond (n == 1) (Some ReadWrite) (cond (n == 2) (Some Majority) (cond (n == 3) (Some Ladder) None))

-- a rule's number leads back to it
pub published_number : (rule : PublishedRule) → published (rule_number rule) ≡ Some rule
published_number ReadWrite = refl
published_number Majority = refl
published_number Ladder = refl
