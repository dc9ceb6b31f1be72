-- Under the ladder no flagged cell is empty, and no cell is flagged by two agents: what keeps this. Assumes nothing.
use Rattle.std.specs.Prelude.{◌≡◌, ℕ, ◌-◌, ◌≤◌, ◌⊎◌, List, length, ◌≢◌}
use Rattle.std.proofs.Common.{sym, ap, subst, ◌∙◌, inl, inr, ⊎_elim, arith}
use Rattle.std.proofs.lemmas.List.{get_or-set_same, get_or-set_other}
use Rattle.std.proofs.lemmas.Bool.{cases_eq}
use Rattle.numbers.proofs.Pigeonhole.{apart_both}
use Rattle.cells.specs.Marks.{mark_at, put}
use Rattle.cells.specs.declared.mark.Mark.{Mark}
use Rattle.cells.specs.declared.mark.Mark.TheVariants.{Empty, Rung}
use Rattle.tally.specs.Counts.{flag_at}
use Rattle.rules.specs.Lawful.{Name}
use Rattle.rule_ladder.specs.declared.phase.LadderPhase.{LadderPhase}
use Rattle.model.specs.Meanings.{by_ladder}
use Rattle.model.specs.Rigs.{World}
use Rattle.runs.proofs.Views.{table_at, met_at}
use Rattle.runs.proofs.Effects.{Kept}
use Rattle.runs.proofs.Keeping.{Sound}
use Rattle.exclusion.specs.LadderSteady.{steady}
use Rattle.exclusion.specs.LadderDeeds.{Flagged, Deed, quiet, sets, clears}

-- a mark put, there and elsewhere
put_same : (ms : List Mark) (y : ℕ) (c : Mark) → 1 ≤ y → y ≤ length ms → mark_at (put ms y c) y ≡ c
put_same ms y c low high = get_or-set_same ms (y - 1) c Empty (omega arith)

put_other : (ms : List Mark) (y z : ℕ) (c : Mark) → 1 ≤ y → 1 ≤ z → (z ≢ y) → mark_at (put ms y c) z ≡ mark_at ms z
put_other ms y z c low from other = get_or-set_other ms (y - 1) (z - 1) c Empty (λ e. other (omega arith))

-- the name x of the agent j
pub record Spot (w : World LadderPhase) (j x : ℕ) : Type 0 where
  pub agent : Name (length w.rig.seats) j
  pub name : Name w.rig.cells x

-- no flagged cell is empty, and none is flagged by two agents
pub record Parted (w : World LadderPhase) : Type 0 where
  pub taken : (j x : ℕ) → Spot w j x → Flagged w j x → met_at w j x ≢ Empty
  pub apart : (j k x y : ℕ) → Spot w j x → Spot w k y → (j ≢ k) → Flagged w j x → Flagged w k y → table_at w j x ≢ table_at w k y

module _ (k : ℕ) (w v : World LadderPhase) (sound : Sound by_ladder steady w) (mine : Name (length w.rig.seats) k) (kept : Kept by_ladder k w v) (here : Parted w) where
  back : (j x : ℕ) → Spot v j x → Spot w j x
  back j x s = record {
    agent = (s.agent.0, omega (arith, s.agent.1, kept.agents));
    name = (s.name.0, subst (λ t. x ≤ t) kept.cells s.name.1);
  }

  cell_inside : (j x : ℕ) → Spot w j x → (1 ≤ table_at w j x) × (table_at w j x ≤ length w.store)
  cell_inside j x s =
      let inside = (sound.tables j s.agent.0 s.agent.1).inside x s.name.0 s.name.1 in
      (inside.0, omega (arith, inside.1, sound.room))

  -- the mark at a cell afterwards
  met_after : (ms : List Mark) (j x : ℕ) → v.store ≡ ms → met_at v j x ≡ mark_at ms (table_at w j x)
  met_after ms j x e = ap (λ t. mark_at t (table_at v j x)) e ∙ ap (mark_at ms) (kept.tables j x)

  -- another agent's flags
  theirs : (j x : ℕ) → (j ≢ k) → Flagged v j x → Flagged w j x
  theirs j x other f = sym (ap (λ a. flag_at a.flags x) (kept.others j other)) ∙ f

  -- agent k's flags, and those of the others
  fewer : ((y : ℕ) → Name w.rig.cells y → Flagged v k y → Flagged w k y) → (j y : ℕ) → Spot w j y → Flagged v j y → Flagged w j y
  fewer own j y s f =
      ⊎_elim
      (λ same. subst (λ t. Flagged w t y) (sym same) (own y s.name (subst (λ t. Flagged v t y) same f)))
      (λ other. theirs j y other f)
      (cases_eq j k)

  -- with no flag more, no cell is flagged by two agents
  still_apart : ((y : ℕ) → Name w.rig.cells y → Flagged v k y → Flagged w k y) → (i j x y : ℕ) → Spot v i x → Spot v j y → (i ≢ j) → Flagged v i x → Flagged v j y → table_at v i x ≢ table_at v j y
  still_apart own i j x y s t other f g e =
      let a = back i x s in
      let b = back j y t in
      here.apart i j x y a b other (fewer own i x a f) (fewer own j y b g) (sym (kept.tables i x) ∙ e ∙ kept.tables j y)

  -- a mark put at a cell that agent k calls x
  module _ (x : ℕ) (name : Name w.rig.cells x) (c : Mark) (written : v.store ≡ put w.store (table_at w k x) c) where
    spot : Spot w k x
    spot = record { agent = mine; name = name }

    met_there : (j y : ℕ) → table_at w j y ≡ table_at w k x → met_at v j y ≡ c
    met_there j y same =
        let room = cell_inside k x spot in
        met_after (put w.store (table_at w k x) c) j y written
        ∙ ap (mark_at (put w.store (table_at w k x) c)) same
        ∙ put_same w.store (table_at w k x) c room.0 room.1

    met_elsewhere : (j y : ℕ) → Spot w j y → (table_at w j y ≢ table_at w k x) → met_at v j y ≡ met_at w j y
    met_elsewhere j y s other =
        met_after (put w.store (table_at w k x) c) j y written
        ∙ put_other w.store (table_at w k x) (table_at w j y) c (cell_inside k x spot).0 (cell_inside j y s).0 other

  -- a rung put where the cell was empty or flagged
  module _ (x r : ℕ) (name : Name w.rig.cells x) (free : (met_at w k x ≡ Empty) ⊎ Flagged w k x) (own : (y : ℕ) → Name w.rig.cells y → Flagged v k y → (y ≡ x) ⊎ Flagged w k y) (written : v.store ≡ put w.store (table_at w k x) (Rung r)) where
    came : (j y : ℕ) → Spot w j y → Flagged v j y → ((j ≡ k) × (y ≡ x)) ⊎ Flagged w j y
    came j y s f =
        ⊎_elim
        (λ same.
        ⊎_elim
        (λ new. inl (same, new))
        (λ old. inr (subst (λ t. Flagged w t y) (sym same) old))
        (own y s.name (subst (λ t. Flagged v t y) same f)))
        (λ other. inr (theirs j y other f))
        (cases_eq j k)

    -- no other agent had the cell flagged
    clear_of : (j y : ℕ) → Spot w j y → (j ≢ k) → Flagged w j y → table_at w j y ≢ table_at w k x
    clear_of j y s other f e =
        ⊎_elim
        (λ empty. here.taken j y s f (ap (mark_at w.store) e ∙ empty))
        (λ flag. here.apart j k y x s (spot x name (Rung r) written) other f flag e)
        free

    set_taken : (j y : ℕ) → Spot v j y → Flagged v j y → met_at v j y ≢ Empty
    set_taken j y t f e =
        let s = back j y t in
        ⊎_elim
        (λ same. let z : ◌≡◌ {A = ℕ} 0 1 = cc (met_there x name (Rung r) written j y same, e) in omega arith)
        (λ other.
        ⊎_elim
        (λ new. other (ap (λ i. table_at w i y) new.0 ∙ ap (table_at w k) new.1))
        (λ old. here.taken j y s old (sym (met_elsewhere x name (Rung r) written j y s other) ∙ e))
        (came j y s f))
        (cases_eq (table_at w j y) (table_at w k x))

    set_apart : (i j y z : ℕ) → Spot v i y → Spot v j z → (i ≢ j) → Flagged v i y → Flagged v j z → table_at v i y ≢ table_at v j z
    set_apart i j y z s t other f g e =
        let a = back i y s in
        let b = back j z t in
        let same : table_at w i y ≡ table_at w j z = sym (kept.tables i y) ∙ e ∙ kept.tables j z in
        ⊎_elim
        (λ new.
        let is_x : table_at w i y ≡ table_at w k x = ap (λ q. table_at w q y) new.0 ∙ ap (table_at w k) new.1 in
        ⊎_elim
        (λ also. other (new.0 ∙ sym also.0))
        (λ old. clear_of j z b (λ q. other (new.0 ∙ sym q)) old (sym same ∙ is_x))
        (came j z b g))
        (λ old.
        ⊎_elim
        (λ new.
        let is_x : table_at w j z ≡ table_at w k x = ap (λ q. table_at w q z) new.0 ∙ ap (table_at w k) new.1 in
        clear_of i y a (λ q. other (q ∙ sym new.0)) old (same ∙ is_x))
        (λ also. here.apart i j y z a b other old also same)
        (came j z b g))
        (came i y a f)

  -- a flagged cell emptied
  module _ (x : ℕ) (name : Name w.rig.cells x) (flag : Flagged w k x) (own : (y : ℕ) → Name w.rig.cells y → Flagged v k y → (y ≢ x) × Flagged w k y) (written : v.store ≡ put w.store (table_at w k x) Empty) where
    less : (y : ℕ) → Name w.rig.cells y → Flagged v k y → Flagged w k y
    less y good f = (own y good f).1

    -- what is flagged afterwards is another cell
    differs : (j y : ℕ) → Spot w j y → Flagged v j y → table_at w j y ≢ table_at w k x
    differs j y s f e =
        ⊎_elim
        (λ same.
        let there : table_at w k y ≡ table_at w k x = ap (λ q. table_at w q y) (sym same) ∙ e in
        (own y s.name (subst (λ t. Flagged v t y) same f)).0
        (apart_both (table_at w k) w.rig.cells w.rig.cells y x (sound.tables k mine.0 mine.1) s.name.0 s.name.1 name.0 name.1 there))
        (λ other. here.apart j k y x s (spot x name Empty written) other (theirs j y other f) flag e)
        (cases_eq j k)

    clear_taken : (j y : ℕ) → Spot v j y → Flagged v j y → met_at v j y ≢ Empty
    clear_taken j y t f e =
        let s = back j y t in
        here.taken j y s (fewer less j y s f) (sym (met_elsewhere x name Empty written j y s (differs j y s f)) ∙ e)

  pub parted_deed : Deed k w v → Parted v
  parted_deed (quiet own same) = record {
    taken = λ j y t f e. let s = back j y t in here.taken j y s (fewer own j y s f) (sym (met_after w.store j y same) ∙ e);
    apart = still_apart own;
  }
  parted_deed (sets x r name free own written) =
      record { taken = set_taken x r name free own written; apart = set_apart x r name free own written }
  parted_deed (clears x name flag own written) =
      record { taken = clear_taken x name flag own written; apart = still_apart (less x name flag own written) }
