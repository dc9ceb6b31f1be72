-- Checks that come one after another: the first that refuses decides. Assumes nothing.
use Rattle.std.specs.Prelude.{ℕ, Bool, true, false, Some, None, Ok, Err, Option, Result}
use Rattle.refusal.specs.declared.Refusal.{Refusal}

infixr 5 ◌then◌
-- the first check that refuses decides; else what follows
abbrev pub ◌then◌ : {A : Type 0} → Result (Unit {0}) Refusal → Result A Refusal → Result A Refusal
Ok u then r = r
Err e then r = Err e

abbrev pub Check : Type 0
Check = Result (Unit {0}) Refusal

abbrev pub refuse_if : Bool → Refusal → Check
refuse_if true e = Err e
refuse_if false e = Ok tt

-- refuse at the place that was found
abbrev pub refuse_at : (ℕ → Refusal) → Option ℕ → Check
refuse_at e None = Ok tt
refuse_at e (Some k) = Err (e k)
