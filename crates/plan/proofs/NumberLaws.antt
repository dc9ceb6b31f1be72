-- What a test of a number against the names 1 to n tells of a list with these names. Assumes nothing.
use Rattle.std.proofs.Common.{◌≡◌, ℕ, ◌≤◌, Bool, true, false, cond, Some, None, refl, ap, ◌∙◌, arith}
use Rattle.numbers.specs.Names.{named, listed}
use Rattle.numbers.specs.Rows.{within}
use Rattle.numbers.proofs.NameLaws.{named_in, named_out}
use Rattle.numbers.proofs.RowLaws.{within_false}

failed : (b : Bool) (k : ℕ) → None ≡ cond b (Some k) None → b ≡ false
failed true k e = let z : ◌≡◌ {A = ℕ} 0 1 = cc in absurd (omega arith)
failed false k e = refl

passed : (b : Bool) (k j : ℕ) → Some j ≡ cond b (Some k) None → (b ≡ true) × (k ≡ j)
passed true k j e = (refl, cc)
passed false k j e = let z : ◌≡◌ {A = ℕ} 0 1 = cc in absurd (omega arith)

-- a number that fails the test is none of the names
pub no_name : (n k : ℕ) → None ≡ cond (within 1 n k) (Some k) None → 1 ≤ k → k ≤ n → ⊥
no_name n k e = within_false 1 n k (failed (within 1 n k) k e)

-- it names nothing, and one that passes names its element
pub name_out : {A : Type 0} (g : ℕ → A) (n k : ℕ) → None ≡ cond (within 1 n k) (Some k) None → named (listed g n) k ≡ None
name_out g n k e = named_out g n k (failed (within 1 n k) k e)

pub name_in : {A : Type 0} (g : ℕ → A) (n k j : ℕ) → Some j ≡ cond (within 1 n k) (Some k) None → named (listed g n) k ≡ Some (g j)
name_in g n k j e = let p = passed (within 1 n k) k j e in named_in g n k p.0 ∙ ap (λ i. Some (g i)) p.1
