-- Counts compared: a narrower test, a test through distinct names, and two tests that never both pass. Assumes nothing.
use Rattle.std.specs.Prelude.{◌≡◌, ℕ, zero, suc, ◌+◌, ◌≤◌, Bool, true, false, cond, ◌==◌, ◌≢◌}
use Rattle.std.proofs.Common.{sym, ap, ⊎_elim, arith}
use Rattle.std.proofs.lemmas.Bool.{cases_eq, eq-eqb, ne_eqb, cond-true, cond-false, cond_both}
use Rattle.numbers.specs.Rows.{Distinct}
use Rattle.tally.specs.Counts.{count_names}
use Rattle.tally.proofs.CountLaws.{count_same}

-- a test that passes wherever another does passes at least as often
pub count_more : (f g : ℕ → Bool) (n : ℕ) → ((y : ℕ) → 1 ≤ y → y ≤ n → f y ≡ true → g y ≡ true) → count_names f n ≤ count_names g n
unfolding count_names
count_more f g zero h = omega arith
count_more f g (suc n) h =
    let before = count_more f g n (λ y a b. h y a (omega arith)) in
    let here = h (suc n) (omega arith) (omega arith) in
    cond_both (f (suc n)) 1 0 (λ k. count_names f n + k ≤ count_names g n + cond (g (suc n)) 1 0)
    (λ e. let z = cond-true {A = ℕ} (g (suc n)) 1 0 (here e) in omega arith)
    (λ _. omega arith)

-- two tests that never both pass
pub count_apart : (f g : ℕ → Bool) (n : ℕ) → ((y : ℕ) → 1 ≤ y → y ≤ n → f y ≡ true → g y ≢ true) → count_names f n + count_names g n ≤ n
unfolding count_names
count_apart f g zero h = omega arith
count_apart f g (suc n) h =
    let before = count_apart f g n (λ y a b. h y a (omega arith)) in
    let here = h (suc n) (omega arith) (omega arith) in
    cond_both (f (suc n)) 1 0 (λ k. count_names f n + k + (count_names g n + cond (g (suc n)) 1 0) ≤ suc n)
    (λ e.
    cond_both (g (suc n)) 1 0 (λ k. count_names f n + 1 + (count_names g n + k) ≤ suc n)
    (λ d. absurd (here e d))
    (λ _. omega arith))
    (λ _.
    cond_both (g (suc n)) 1 0 (λ k. count_names f n + 0 + (count_names g n + k) ≤ suc n) (λ _. omega arith) (λ _. omega arith))

-- the test without one name
abbrev pub all_but : (ℕ → Bool) → ℕ → ℕ → Bool
all_but f v y = cond (y == v) false (f y)

but_here : (f : ℕ → Bool) (v y : ℕ) → y ≡ v → all_but f v y ≡ false
but_here f v y e = cond-true (y == v) false (f y) (eq-eqb y v e)

but_other : (f : ℕ → Bool) (v y : ℕ) → (y ≢ v) → all_but f v y ≡ f y
but_other f v y e = cond-false (y == v) false (f y) (ne_eqb y v e)

pub count_all_but : (f : ℕ → Bool) (v m : ℕ) → 1 ≤ v → v ≤ m → count_names f m ≡ count_names (all_but f v) m + cond (f v) 1 0
unfolding count_names
count_all_but f v zero a b = absurd (omega arith)
count_all_but f v (suc m) a b =
    ⊎_elim
    (λ same.
    let before = count_same (all_but f v) f m (λ y c d. but_other f v y (λ e. omega arith)) in
    let here : ◌≡◌ {A = ℕ} (cond (all_but f v (suc m)) 1 0) 0 = ap (λ t. cond t 1 0) (but_here f v (suc m) (sym same)) in
    let last : ◌≡◌ {A = ℕ} (cond (f v) 1 0) (cond (f (suc m)) 1 0) = ap (λ y. cond (f y) 1 0) same in
    omega arith)
    (λ other.
    let before = count_all_but f v m a (omega arith) in
    let here : ◌≡◌ {A = ℕ} (cond (all_but f v (suc m)) 1 0) (cond (f (suc m)) 1 0) = ap (λ t. cond t 1 0) (but_other f v (suc m) (λ e. other (sym e))) in
    omega arith)
    (cases_eq v (suc m))

-- through distinct names a test passes no more often than over all names
pub count_injected : (f : ℕ → Bool) (t : ℕ → ℕ) (m c : ℕ) → Distinct t m c → count_names (λ x. f (t x)) c ≤ count_names f m
unfolding count_names
count_injected f t m zero d = omega arith
count_injected f t m (suc c) d =
    let v = t (suc c) in
    let w = d.inside (suc c) (omega arith) (omega arith) in
    let fewer : Distinct t m c = record { inside = λ k a b. d.inside k a (omega arith); apart = λ i j a b e. d.apart i j a b (omega arith) } in
    let before = count_injected (all_but f v) t m c fewer in
    let same = count_same (λ x. f (t x)) (λ x. all_but f v (t x)) c (λ y a b. sym (but_other f v (t y) (d.apart y (suc c) a (omega arith) (omega arith)))) in
    let all = count_all_but f v m w.0 w.1 in
    omega arith
