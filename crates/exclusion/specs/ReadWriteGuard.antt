-- At most one of some agents holds under rule 1, and every move of one of them keeps it so. Assumes nothing.
use Rattle.std.specs.Prelude.{◌≡◌, ℕ, ◌-◌, ◌≤◌, ◌⊎◌, List, ◌≢◌, refl}
use Rattle.std.proofs.Common.{sym, ap, subst, subst₂, ◌∙◌, inl, inr, ⊎_elim, arith}
use Rattle.std.proofs.Math.Path.{fun_ext}
use Rattle.std.proofs.lemmas.List.{get_or-set_other}
use Rattle.std.proofs.lemmas.Bool.{cases_eq}
use Rattle.numbers.specs.Rows.{Distinct}
use Rattle.numbers.proofs.Pigeonhole.{every_number}
use Rattle.cells.specs.Marks.{mark_at, put}
use Rattle.cells.specs.declared.mark.Mark.{Mark}
use Rattle.cells.specs.declared.mark.Mark.TheVariants.{Empty, Owner}
use Rattle.rules.specs.Lawful.{Holds, Name}
use Rattle.rules.specs.Records.{own}
use Rattle.rule_read_write.specs.ReadWrite.{Record}
use Rattle.exclusion.specs.Cover.{Elsewhere, cover}
use Rattle.exclusion.specs.ReadWriteMoves.{never, Poised, Move, same, calms, enters, aims, strikes}

-- another name keeps its mark
mark_other : (ms : List Mark) (y z : ℕ) (c : Mark) → 1 ≤ y → 1 ≤ z → (z ≢ y) → mark_at (put ms y c) z ≡ mark_at ms z
mark_other ms y z c a b other = get_or-set_other ms (y - 1) (z - 1) c Empty (λ e. other (omega arith))

-- q agents over m cells, with their tables
module _ (q m : ℕ) (table : ℕ → ℕ → ℕ) where
  -- agent i holds: each other agent is given one cell; the cells given to nobody are marked by i, and only cells that are given are about to be written by others
  pub record Guard (a : ℕ → Record) (ms : List Mark) (i : ℕ) : Type 0 where
    pub cell_of : ℕ → ℕ
    pub marked : (y : ℕ) → 1 ≤ y → y ≤ m → Elsewhere cell_of i q y ⊎ (mark_at ms y ≡ own (a i))
    pub poised : (j : ℕ) → 1 ≤ j → j ≤ q → (j ≢ i) → Poised (a j) → Elsewhere cell_of i q (table j (a j).name)

  pub record Alone (a : ℕ → Record) (ms : List Mark) : Type 0 where
    pub guards : (i : ℕ) → 1 ≤ i → i ≤ q → Holds (a i) → Guard a ms i
    pub one : (i j : ℕ) → 1 ≤ i → i ≤ q → 1 ≤ j → j ≤ q → Holds (a i) → Holds (a j) → i ≡ j

  module _ (a b : ℕ → Record) (ms ns : List Mark) (k : ℕ) (low : 1 ≤ k) (high : k ≤ q) (coped : q ≤ m)
      (tables : (j : ℕ) → 1 ≤ j → j ≤ q → Distinct (table j) m m)
      (apart : (i j : ℕ) → 1 ≤ i → i ≤ q → 1 ≤ j → j ≤ q → (a i).identity ≡ (a j).identity → i ≡ j)
      (others : (j : ℕ) → (j ≢ k) → b j ≡ a j)
      (old : Alone a ms) where
    -- agent k moved, and i is another
    carry : (i : ℕ) → (i ≢ k) → (g : Guard a ms i) → ((y : ℕ) → 1 ≤ y → y ≤ m → Elsewhere g.cell_of i q y ⊎ (mark_at ns y ≡ own (a i))) → (Poised (b k) → Elsewhere g.cell_of i q (table k (b k).name)) → Guard b ns i
    carry i other g marked mine = record {
      cell_of = g.cell_of;
      marked = λ y c d. subst (λ r. Elsewhere g.cell_of i q y ⊎ (mark_at ns y ≡ own r)) (sym (others i other)) (marked y c d);
      poised = λ j c d not p.
          ⊎_elim
          (λ is. subst (λ z. Elsewhere g.cell_of i q (table z (b z).name)) (sym is) (mine (subst (λ z. Poised (b z)) is p)))
          (λ else. subst (λ r. Elsewhere g.cell_of i q (table j r.name)) (sym (others j else)) (g.poised j c d not (subst Poised (others j else) p)))
          (cases_eq j k);
    }

    -- no mark changed
    still_marked : (i : ℕ) (g : Guard a ms i) → ns ≡ ms → (y : ℕ) → 1 ≤ y → y ≤ m → Elsewhere g.cell_of i q y ⊎ (mark_at ns y ≡ own (a i))
    still_marked i g still y c d = subst (λ l. Elsewhere g.cell_of i q y ⊎ (mark_at l y ≡ own (a i))) (sym still) (g.marked y c d)

    -- k does not hold now
    quiet : (Holds (b k) → ⊥) → ((i : ℕ) → 1 ≤ i → i ≤ q → (i ≢ k) → Guard a ms i → Guard b ns i) → Alone b ns
    quiet not keep =
        let away : (i : ℕ) → Holds (b i) → i ≡ k → ⊥ = λ i h is. not (subst (λ z. Holds (b z)) is h) in
        let held : (i : ℕ) → Holds (b i) → Holds (a i) = λ i h. subst Holds (others i (away i h)) h in
        record {
          guards = λ i c d h. keep i c d (away i h) (old.guards i c d (held i h));
          one = λ i j c d e f h l. old.one i j c d e f (held i h) (held j l);
        }

    -- k saw all marks its own
    module _ (all : (x : ℕ) → Name m x → mark_at ms (table k x) ≡ own (a k)) where
      mine : (y : ℕ) → 1 ≤ y → y ≤ m → mark_at ms y ≡ own (a k)
      mine y c d =
          let x = every_number (table k) m y (tables k low high) c d in
          subst (λ z. mark_at ms z ≡ own (a k)) x.3 (all x.0 (x.1, x.2))

      -- so nobody else held
      nobody : (i : ℕ) → 1 ≤ i → i ≤ q → (i ≢ k) → Holds (a i) → ⊥
      nobody i c d other h =
          let g = old.guards i c d h in
          let more = cover g.cell_of i q m c d
          (λ y e f.
          ⊎_elim
          (λ found. found)
          (λ owned.
          let same_owner : own (a i) ≡ own (a k) = sym owned ∙ mine y e f in
          let same_identity : (a i).identity ≡ (a k).identity = cc (same_owner) in
          absurd (other (apart i k c d low high same_identity)))
          (g.marked y e f))
          in
          omega arith

      fresh_guard : (b k).identity ≡ (a k).identity → ns ≡ ms → Guard b ns k
      fresh_guard id still = record {
        cell_of = λ j. table j (b j).name;
        marked = λ y c d. inr (subst (λ l. mark_at l y ≡ own (b k)) (sym still) (mine y c d ∙ ap Owner (sym id)));
        poised = λ j c d not p. (j, c, d, not, refl);
      }

      entered : (b k).identity ≡ (a k).identity → ns ≡ ms → Alone b ns
      entered id still =
          let only : (i : ℕ) → 1 ≤ i → i ≤ q → Holds (b i) → i ≡ k =
          λ i c d h. ⊎_elim (λ is. is) (λ other. absurd (nobody i c d other (subst Holds (others i other) h))) (cases_eq i k)
          in
          record {
            guards = λ i c d h. subst (Guard b ns) (sym (only i c d h)) (fresh_guard id still);
            one = λ i j c d e f h l. only i c d h ∙ sym (only j e f l);
          }

    pub move_alone : Move m (table k) (a k) (b k) ms ns → Alone b ns
    move_alone (same is still) =
        let all : b ≡ a = fun_ext (λ j. ⊎_elim (λ here. subst (λ z. b z ≡ a z) (sym here) is) (others j) (cases_eq j k)) in
        subst₂ Alone (sym all) (sym still) old
    move_alone (calms not calm still) = quiet not (λ i c d other g. carry i other g (still_marked i g still) (λ p. absurd (calm p)))
    move_alone (enters all calm id still) = entered all id still
    move_alone (aims not name mark still) =
        quiet not
        (λ i c d other g.
        carry i other g (still_marked i g still)
        (λ _.
        let cell = table k (b k).name in
        let place = (tables k low high).inside (b k).name name.0 name.1 in
        ⊎_elim
        (λ found. found)
        (λ owned.
        ⊎_elim
        (λ empty. never (cc (empty, owned)))
        (λ own'.
        let same_owner : own (a i) ≡ own (a k) = sym owned ∙ own' in
        let same_identity : (a i).identity ≡ (a k).identity = cc (same_owner) in
        absurd (other (apart i k c d low high same_identity)))
        mark)
        (g.marked cell place.0 place.1)))
    move_alone (strikes mark poised name not calm write) =
        quiet not
        (λ i c d other g.
        let cell = table k (a k).name in
        let place = (tables k low high).inside (a k).name name.0 name.1 in
        let given = g.poised k low high (λ e. other (sym e)) poised in
        carry i other g
        (λ y e f.
        ⊎_elim
        (λ here. inl (subst (Elsewhere g.cell_of i q) (sym here) given))
        (λ else. ⊎_elim inl (λ owned. inr (ap (λ l. mark_at l y) write ∙ mark_other ms cell y mark place.0 e else ∙ owned)) (g.marked y e f))
        (cases_eq y cell))
        (λ p. absurd (calm p)))
