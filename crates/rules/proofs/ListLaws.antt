-- Marks put over others. Assumes nothing.
use Rattle.std.proofs.Common.{◌≡◌, ℕ, zero, suc, min, List, [], ◌∷◌, ◌++◌, length, take, drop, refl, ap, arith}
use Rattle.cells.specs.declared.mark.Mark.{Mark}
use Rattle.rules.specs.Records.{overlaid}

-- the marks for which there is room, and behind them the old ones
pub overlaid_is : (ks old : List Mark) (n : ℕ) → n ≡ min (length ks) (length old) → take n ks ++ drop n old ≡ overlaid ks old
overlaid_is [] old zero e = refl
overlaid_is [] old (suc n) e = absurd (omega arith)
overlaid_is (k ∷ ks) [] zero e = refl
overlaid_is (k ∷ ks) [] (suc n) e = absurd (omega arith)
overlaid_is (k ∷ ks) (o ∷ old) zero e = absurd (omega arith)
overlaid_is (k ∷ ks) (o ∷ old) (suc n) e = ap (λ r. k ∷ r) (overlaid_is ks old n (omega arith))

pub length_overlaid : (ks old : List Mark) → length (overlaid ks old) ≡ length old
length_overlaid [] old = refl
length_overlaid (k ∷ ks) [] = refl
length_overlaid (k ∷ ks) (o ∷ old) = ap suc (length_overlaid ks old)
