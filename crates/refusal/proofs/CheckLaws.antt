-- Laws of checks that come one after another. Assumes nothing.
use Rattle.std.proofs.Common.{◌≡◌, ℕ, Ok, Err, Result, refl, ap, arith}
use Rattle.refusal.specs.declared.Refusal.{Refusal}
use Rattle.refusal.specs.Checks.{◌then◌, Check}

-- where checks came to an answer, the first passed
pub ok_then : {A : Type 0} (c : Check) (r : Result A Refusal) (x : A) → Ok x ≡ (c then r) → (c ≡ Ok tt) × (Ok x ≡ r)
ok_then (Ok u) r x e = (refl, e)
ok_then (Err d) r x e = let z : ◌≡◌ {A = ℕ} 0 1 = cc in absurd (omega arith)

-- where the rest would have answered, a refusal came from the check, and comes from it whatever the rest is
pub err_then : {A B : Type 0} (c : Check) (r : Result A Refusal) (s : Result B Refusal) (x : A) (e : Refusal) → r ≡ Ok x → Err e ≡ (c then r) → Err e ≡ (c then s)
err_then (Ok u) r s x e ok is = let z : ◌≡◌ {A = ℕ} 0 1 = cc in absurd (omega arith)
err_then (Err d) r s x e ok is = let same : e ≡ d = cc in ap Err same
