-- Texts put one after another. Assumes nothing.
use Rattle.std.proofs.Common.{◌≡◌, ℕ, ◌≤◌, List, [], ◌++◌, length, sym, ap, ◌∙◌, subst, append_assoc, append-nil, arith}
use Rattle.std.proofs.lemmas.List.{length-append}
use Rattle.report.specs.Sheets.{Puts}

-- nothing is put
pub puts_none : (t : List ℕ) → Puts t [] t
puts_none t = record { whole = λ _. sym (append-nil t) }

-- x is put, and then y
infixr 20 ◌then◌
pub ◌then◌ : {t x u y v : List ℕ} → Puts t x u → Puts u y v → Puts t (x ++ y) v
◌then◌ {t} {x} {u} {y} {v} p q = record {
  whole = λ fits.
      let first : u ≡ t ++ x = p.whole (omega (arith, fits, length-append t (x ++ y), length-append x y, length-append t x)) in
      let both : u ++ y ≡ t ++ (x ++ y) = ap (λ s. s ++ y) first ∙ append_assoc t x y in
      q.whole (subst (λ s. length s ≤ 2336) (sym both) fits) ∙ both;
}

-- the same text in other words
pub puts_same : {t x y u : List ℕ} → x ≡ y → Puts t x u → Puts t y u
puts_same {t} {x} {y} {u} e p = subst (λ s. Puts t s u) e p
