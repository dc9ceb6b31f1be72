-- The arithmetic of turned tables: agents in a ring, and cells that go round. Assumes nothing.
use Rattle.std.proofs.Common.{◌≡◌, ℕ, suc, ◌+◌, ◌-◌, ◌*◌, ◌/◌, ◌%◌, ◌<◌, ◌≤◌, cond, eqb, ltb, sym, refl, ap, ◌∙◌, ⊎_elim, mod-lt, suc-mul, mul_comm, mul-le-mul_left, mul-lt-mul_of_pos_right, zero-mul, mul-suc, arith}
use Prim.Native.Nat.{◌∣◌}
use native.Mathlib.Nat.{mod-add-mod, add-mod_right, div-add-mod, mul-div_cancel', mul-div_assoc}
use Rattle.std.proofs.lemmas.Bool.{cases_lt, cases_eq, cases_order, cond-true, cond-false, lt-ltb, le-ltb, eq-eqb, ne_eqb}
use Rattle.rules.specs.Lawful.{Permutes}
use Rattle.model.specs.Loads.{turned}

-- the next of the agents 1 to l, and after the last the first; what is above l stays
abbrev pub around : ℕ → ℕ → ℕ
around l k = cond (ltb k l) (k + 1) (cond (eqb k l) 1 k)

pub around_below : (l k : ℕ) → k < l → around l k ≡ k + 1
around_below l k less = cond-true (ltb k l) (k + 1) _ (lt-ltb k l less)

pub around_last : (l : ℕ) → around l l ≡ 1
around_last l = cond-false (ltb l l) (l + 1) _ (le-ltb l l (omega arith)) ∙ cond-true (eqb l l) 1 l (eq-eqb l l refl)

pub around_above : (l k : ℕ) → l < k → around l k ≡ k
around_above l k more = cond-false (ltb k l) (k + 1) _ (le-ltb k l (omega arith)) ∙ cond-false (eqb k l) 1 k (ne_eqb k l (λ e. omega arith))

-- where an agent's next one is
pub data Place (l k : ℕ) : Type 0 where
  below : k < l → around l k ≡ k + 1 → Place l k
  last : k ≡ l → around l k ≡ 1 → Place l k
  above : l < k → around l k ≡ k → Place l k

pub place : (l k : ℕ) → Place l k
place l k =
    ⊎_elim
    (λ same. last same (ap (around l) same ∙ around_last l))
    (⊎_elim (λ less. below less (around_below l k less)) (λ more. above more (around_above l k more)))
    (cases_order k l)

pub around_inside : (l k : ℕ) → 1 ≤ k → k ≤ l → (1 ≤ around l k) × (around l k ≤ l)
around_inside l k low high = go (place l k)
  where
    go : Place l k → (1 ≤ around l k) × (around l k ≤ l)
    go (below less e) = (omega arith, omega arith)
    go (last same e) = (omega arith, omega arith)
    go (above more e) = absurd (omega arith)

-- every agent is the next of one
pub around_from : (l k : ℕ) → 1 ≤ k → k ≤ l → (j : ℕ) × (1 ≤ j) × (j ≤ l) × (around l j ≡ k)
around_from l k low high =
    ⊎_elim
    (λ one. (l, omega arith, omega arith, around_last l ∙ sym one))
    (λ more. let less : k - 1 < l = omega arith in (k - 1, omega arith, omega arith, (let e = around_below l (k - 1) less in omega arith)))
    (cases_eq k 1)

around_apart : (l j k : ℕ) → 1 ≤ j → j < k → Place l j → Place l k → around l j ≡ around l k → ⊥
around_apart l j k low less (below a e) (below b f) same = omega arith
around_apart l j k low less (below a e) (last b f) same = omega arith
around_apart l j k low less (below a e) (above b f) same = omega arith
around_apart l j k low less (last a e) (below b f) same = omega arith
around_apart l j k low less (last a e) (last b f) same = omega arith
around_apart l j k low less (last a e) (above b f) same = omega arith
around_apart l j k low less (above a e) (below b f) same = omega arith
around_apart l j k low less (above a e) (last b f) same = omega arith
around_apart l j k low less (above a e) (above b f) same = omega arith

around_lawful : (l k : ℕ) → l ≤ 65535 → 1 ≤ k → k ≤ 65535 → Place l k → (1 ≤ around l k) × (around l k ≤ 65535)
around_lawful l k top low high (below a e) = (omega arith, omega arith)
around_lawful l k top low high (last a e) = (omega arith, omega arith)
around_lawful l k top low high (above a e) = (omega arith, omega arith)

-- as a replacement of identities
pub around_permutes : (l : ℕ) → l ≤ 65535 → Permutes (around l)
around_permutes l top = record {
  inside = λ k low high. around_lawful l k top low high (place l k);
  apart = λ j k low less high same. around_apart l j k low less (place l j) (place l k) same;
}

-- remainders of a sum tell the summands below m apart
below_turn : (m q p : ℕ) → q < p → m * q + m ≤ m * p
below_turn m q p less =
    let more : m * suc q ≤ m * p = mul-le-mul_left m less in
    let step = mul-suc m q in
    omega arith

pub mod_cancel : (m s a b : ℕ) → a < m → b < m → (s + a) % m ≡ (s + b) % m → a ≡ b
mod_cancel m s a b f g same =
    let one = div-add-mod (s + a) m in
    let two = div-add-mod (s + b) m in
    let q : ℕ = (s + a) / m in
    let p : ℕ = (s + b) / m in
    ⊎_elim
    (λ e. let t : m * q ≡ m * p = ap (λ z. m * z) e in omega arith)
    (⊎_elim
    (λ less. let t = below_turn m q p less in absurd (omega arith))
    (λ more. let t = below_turn m p q more in absurd (omega arith)))
    (cases_order q p)

-- the cell m / l after cell y, and after the last cell comes the first
abbrev pub onward : ℕ → ℕ → ℕ → ℕ
onward l m y = 1 + (y - 1 + m / l) % m

module _ (l m : ℕ) (some : 1 ≤ m) (two : 2 ≤ l) (parts : l ∣ m) where
  whole : l * (m / l) ≡ m
  whole = mul-div_cancel' l parts

  share : (k : ℕ) → k * m / l ≡ k * (m / l)
  share k = mul-div_assoc l k parts

  share_pos : 1 ≤ m / l
  share_pos =
      ⊎_elim
      (λ less.
      let none : m / l ≡ 0 = omega arith in
      let z : l * (m / l) ≡ l * 0 = ap (λ c. l * c) none in
      let y : l * 0 ≡ 0 = mul_comm l 0 ∙ zero-mul l in
      let e = whole in
      absurd (omega arith))
      (λ more. more)
      (cases_lt (m / l) 1)

  share_less : (k : ℕ) → k < l → k * (m / l) < m
  share_less k less =
      let c : ℕ = m / l in
      let pos = share_pos in
      let e = whole in
      let t : k * c < l * c = mul-lt-mul_of_pos_right less pos in
      omega arith

  pub onward_inside : (y : ℕ) → (1 ≤ onward l m y) × (onward l m y ≤ m)
  onward_inside y = let t = mod-lt (y - 1 + m / l) some in (omega arith, omega arith)

  pub onward_apart : (y z : ℕ) → 1 ≤ y → y ≤ m → 1 ≤ z → z ≤ m → onward l m y ≡ onward l m z → y ≡ z
  onward_apart y z a b c d same =
      let e : (y - 1 + m / l) % m ≡ (z - 1 + m / l) % m = omega arith in
      let f : y - 1 + m / l ≡ m / l + (y - 1) = omega arith in
      let g : z - 1 + m / l ≡ m / l + (z - 1) = omega arith in
      let h : y - 1 ≡ z - 1 = mod_cancel m (m / l) (y - 1) (z - 1) (omega arith) (omega arith) (ap (λ t. t % m) (sym f) ∙ e ∙ ap (λ t. t % m) g) in
      omega arith

  pub turned_inside : (k x : ℕ) → (1 ≤ turned l m k x) × (turned l m k x ≤ m)
  turned_inside k x = let t = mod-lt (x - 1 + (k - 1) * m / l) some in (omega arith, omega arith)

  -- the agents that move together call no cell by the same name
  pub turned_apart : (j k x : ℕ) → 1 ≤ j → j ≤ l → 1 ≤ k → k ≤ l → turned l m j x ≡ turned l m k x → j ≡ k
  turned_apart j k x a b c d same =
      let one = share (j - 1) in
      let two = share (k - 1) in
      let low = share_less (j - 1) (omega arith) in
      let high = share_less (k - 1) (omega arith) in
      let e : (x - 1 + (j - 1) * m / l) % m ≡ (x - 1 + (k - 1) * m / l) % m = omega arith in
      let h : (j - 1) * (m / l) ≡ (k - 1) * (m / l) = sym one ∙ mod_cancel m (x - 1) ((j - 1) * m / l) ((k - 1) * m / l) (omega arith) (omega arith) e ∙ two in
      let pos = share_pos in
      ⊎_elim
      (λ e. e)
      (⊎_elim
      (λ less. let t : (j - 1) * (m / l) < (k - 1) * (m / l) = mul-lt-mul_of_pos_right {m = j - 1} {n = k - 1} (omega arith) pos in absurd (omega arith))
      (λ more. let t : (k - 1) * (m / l) < (j - 1) * (m / l) = mul-lt-mul_of_pos_right {m = k - 1} {n = j - 1} (omega arith) pos in absurd (omega arith)))
      (cases_order j k)

  -- the next agent's table is a turn of this one's
  pub turned_around : (k x : ℕ) → 1 ≤ k → k ≤ l → turned l m (around l k) x ≡ onward l m (turned l m k x)
  turned_around k x low high =
      let c : ℕ = m / l in
      let here : ℕ = x - 1 + (k - 1) * m / l in
      let back : 1 + here % m - 1 ≡ here % m = omega arith in
      let drop : (1 + here % m - 1 + c) % m ≡ (here + c) % m = ap (λ t. (t + c) % m) back ∙ mod-add-mod here m c in
      ap (λ t. 1 + t) (go (place l k) ∙ sym drop)
    where
      go : Place l k → (x - 1 + (around l k - 1) * m / l) % m ≡ (x - 1 + (k - 1) * m / l + m / l) % m
      go (below less e) =
          let one = share (k - 1) in
          let f : around l k - 1 ≡ k = omega arith in
          let g : around l k - 1 ≡ suc (k - 1) = omega arith in
          let two : (around l k - 1) * m / l ≡ (k - 1) * (m / l) + m / l = share (around l k - 1) ∙ ap (λ t. t * (m / l)) g ∙ suc-mul (k - 1) (m / l) in
          ap (λ t. t % m) (omega arith)
      go (last same e) =
          let one = share (k - 1) in
          let f : around l k - 1 ≡ 0 = omega arith in
          let g : l ≡ suc (k - 1) = omega arith in
          let none : (around l k - 1) * m / l ≡ 0 = share (around l k - 1) ∙ ap (λ t. t * (m / l)) f ∙ zero-mul (m / l) in
          let all : (k - 1) * (m / l) + m / l ≡ m = sym (suc-mul (k - 1) (m / l)) ∙ ap (λ t. t * (m / l)) (sym g) ∙ whole in
          let left : x - 1 + (around l k - 1) * m / l ≡ x - 1 = omega arith in
          let right : x - 1 + (k - 1) * m / l + m / l ≡ x - 1 + m = omega arith in
          ap (λ t. t % m) left ∙ sym (add-mod_right (x - 1) m) ∙ ap (λ t. t % m) (sym right)
      go (above more e) = absurd (omega arith)
