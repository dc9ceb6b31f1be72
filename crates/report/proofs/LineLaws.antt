-- Lines put one after another. Assumes nothing.
use Rattle.std.proofs.Common.{◌≡◌, ℕ, zero, suc, ◌+◌, ◌-◌, ◌≤◌, List, ◌++◌, ap, ◌∙◌, arith}
use Rattle.report.specs.Reports.{lines}
use Rattle.report.specs.Sheets.{Puts}
use Rattle.report.proofs.TextLaws.{◌then◌, puts_none, puts_same}

pub lines_none : (line : ℕ → List ℕ) (t : List ℕ) → Puts t (lines line 0) t
unfolding lines
lines_none line t = puts_none t

-- the line of name k follows those of the names below it
pub lines_more : (line : ℕ → List ℕ) (k : ℕ) → 1 ≤ k → lines line (k - 1) ++ line k ≡ lines line k
unfolding lines
lines_more line zero low = absurd (omega arith)
lines_more line (suc n) low = let same : suc n - 1 ≡ n = omega arith in ap (λ m. lines line m ++ line (suc n)) same

pub lines_put : (line : ℕ → List ℕ) (k n : ℕ) {t u v : List ℕ} → 1 ≤ k → k ≡ n → Puts t (lines line (k - 1)) u → Puts u (line k) v → Puts t (lines line n) v
lines_put line k n low same p q = puts_same (lines_more line k low ∙ ap (lines line) same) (p then q)

pub lines_all : (line : ℕ → List ℕ) (k n : ℕ) {t u : List ℕ} → k ≡ n + 1 → Puts t (lines line (k - 1)) u → Puts t (lines line n) u
lines_all line k n past p = let same : k - 1 ≡ n = omega arith in puts_same (ap (lines line) same) p
