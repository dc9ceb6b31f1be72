-- What a call does to flags and cells under the ladder. Assumes nothing.
use Rattle.std.specs.Prelude.{◌≡◌, ℕ, ◌-◌, ◌≤◌, Bool, true, false, ◌⊎◌, List, length, replicate, ◌≢◌, slice_set}
use Rattle.std.proofs.Common.{sym, ap, ◌∙◌, inl, inr, ⊎_elim, arith}
use Rattle.std.proofs.lemmas.List.{get_or-set_same, get_or-set_other, get_or-replicate}
use Rattle.std.proofs.lemmas.Bool.{cases_eq, false≢true}
use Rattle.cells.specs.Marks.{put}
use Rattle.cells.specs.declared.mark.Mark.{Mark}
use Rattle.cells.specs.declared.mark.Mark.TheVariants.{Empty, Rung}
use Rattle.tally.specs.Counts.{flag_at}
use Rattle.rules.specs.Lawful.{Sized, Name}
use Rattle.rules.specs.Records.{marks, cell, done, went}
use Rattle.rules.specs.declared.agent.Agent.{Agent}
use Rattle.rules.specs.declared.want.Want.TheVariants.{Write, Swap}
use Rattle.rule_ladder.specs.declared.phase.LadderPhase.{LadderPhase}
use Rattle.rule_ladder.specs.declared.phase.LadderPhase.TheVariants.{Seek, Take, Raise, Fill, Try, Drop}
use Rattle.rule_ladder.specs.Ladder.{want_at, PhaseFits, LadderReachable}
use Rattle.model.specs.Meanings.{by_ladder}
use Rattle.model.specs.Rigs.{World}
use Rattle.runs.proofs.Views.{agent_at, table_at, met_at}
use Rattle.runs.proofs.Effects.{Change, stays, asks, leaves, looks, reads, writes, swaps, misses}
use Rattle.exclusion.specs.LadderSteady.{after_done, after_swap, step_has}

-- flags after one of them is set or cleared

pub flag_set_other : (fs : List Bool) (x y : ℕ) (b : Bool) → 1 ≤ x → 1 ≤ y → (y ≢ x) → flag_at (slice_set fs (x - 1) b) y ≡ flag_at fs y
flag_set_other fs x y b low from other = get_or-set_other fs (x - 1) (y - 1) b false (λ e. other (omega arith))

pub flag_set_same : (fs : List Bool) (x : ℕ) (b : Bool) → 1 ≤ x → x ≤ length fs → flag_at (slice_set fs (x - 1) b) x ≡ b
flag_set_same fs x b low high = get_or-set_same fs (x - 1) b false (omega arith)

pub no_flag : (y : ℕ) → y ≤ 64 → flag_at (replicate 64 false) y ≡ false
no_flag y high = get_or-replicate 64 (y - 1) false false (omega arith)

-- the flag of agent k at its name x is set
abbrev pub Flagged : World LadderPhase → ℕ → ℕ → Type 0
Flagged w k x = flag_at (agent_at by_ladder w k).flags x ≡ true

-- no flag more and the same marks; a rung where the cell was empty or flagged, which is flagged from then on; or a flagged cell emptied and its flag cleared
pub data Deed (k : ℕ) (w v : World LadderPhase) : Type 0 where
  quiet : ((y : ℕ) → Name w.rig.cells y → Flagged v k y → Flagged w k y) → v.store ≡ w.store → Deed k w v
  sets : (x r : ℕ) → Name w.rig.cells x → (met_at w k x ≡ Empty) ⊎ Flagged w k x → ((y : ℕ) → Name w.rig.cells y → Flagged v k y → (y ≡ x) ⊎ Flagged w k y) → v.store ≡ put w.store (table_at w k x) (Rung r) → Deed k w v
  clears : (x : ℕ) → Name w.rig.cells x → Flagged w k x → ((y : ℕ) → Name w.rig.cells y → Flagged v k y → (y ≢ x) × Flagged w k y) → v.store ≡ put w.store (table_at w k x) Empty → Deed k w v

module _ (k : ℕ) (w v : World LadderPhase) where
  abbrev was : Agent LadderPhase
  was = agent_at by_ladder w k

  abbrev is : Agent LadderPhase
  is = agent_at by_ladder v k

  abbrev n : ℕ
  n = length w.rig.seats

  abbrev m : ℕ
  m = w.rig.cells

  same_flags : is.flags ≡ was.flags → v.store ≡ w.store → Deed k w v
  same_flags e s = quiet (λ y name f. sym (ap (λ fs. flag_at fs y) e) ∙ f) s

  set_flag : (x y : ℕ) → Name m x → Name m y → is.flags ≡ slice_set was.flags (x - 1) true → Flagged v k y → (y ≡ x) ⊎ Flagged w k y
  set_flag x y name other e f =
      ⊎_elim
      (λ same. inl same)
      (λ apart. inr (sym (flag_set_other was.flags x y true name.0 other.0 apart) ∙ sym (ap (λ fs. flag_at fs y) e) ∙ f))
      (cases_eq y x)

  module _ (size : Sized n m) (h : LadderReachable n m was) where
    clear_flag : (x y : ℕ) → Name m x → Name m y → is.flags ≡ slice_set was.flags (x - 1) false → Flagged v k y → (y ≢ x) × Flagged w k y
    clear_flag x y name other e f =
        let now = sym (ap (λ fs. flag_at fs y) e) ∙ f in
        let apart : y ≡ x → ⊥ =
        λ same.
        let here = flag_set_same was.flags x false name.0 (omega (arith, name.1, size.cells_high, h.flags_all)) in
        false≢true (sym here ∙ sym (ap (λ t. flag_at (slice_set was.flags (x - 1) false) t) same) ∙ now)
        in
        (apart, sym (flag_set_other was.flags x y false name.0 other.0 apart) ∙ now)

    wrote : (p : LadderPhase) (x : ℕ) (c : Mark) → PhaseFits p n was → want_at p was.name was.rung ≡ Write x c → is.flags ≡ after_done p was → v.store ≡ put w.store (table_at w k x) c → Deed k w v
    wrote Seek x c fits want e s = let z : ◌≡◌ {A = ℕ} 0 1 = cc want in absurd (omega arith)
    wrote Take x c fits want e s = let z : ◌≡◌ {A = ℕ} 0 1 = cc want in absurd (omega arith)
    wrote Raise x c fits want e s =
        let same : was.name ≡ x = cc want in
        let mark : c ≡ Rung was.rung = cc want in
        sets was.name was.rung h.name_fits (inr fits.1) (λ y name f. inr (sym (ap (λ fs. flag_at fs y) e) ∙ f)) (s ∙ ap (λ t. put w.store (table_at w k t) c) (sym same) ∙ ap (put w.store (table_at w k was.name)) mark)
    wrote Fill x c fits want e s = let z : ◌≡◌ {A = ℕ} 0 1 = cc want in absurd (omega arith)
    wrote Try x c fits want e s = let z : ◌≡◌ {A = ℕ} 0 1 = cc want in absurd (omega arith)
    wrote Drop x c fits want e s =
        let same : was.name ≡ x = cc want in
        let mark : c ≡ Empty = cc want in
        clears was.name h.name_fits fits (λ y name f. clear_flag was.name y h.name_fits name e f) (s ∙ ap (λ t. put w.store (table_at w k t) c) (sym same) ∙ ap (put w.store (table_at w k was.name)) mark)

    swapped : (p : LadderPhase) (x : ℕ) (old new : Mark) → want_at p was.name was.rung ≡ Swap x old new → met_at w k x ≡ old → is.flags ≡ after_swap p was → v.store ≡ put w.store (table_at w k x) new → Deed k w v
    swapped Seek x old new want met e s = let z : ◌≡◌ {A = ℕ} 0 1 = cc want in absurd (omega arith)
    swapped Take x old new want met e s =
        let same : was.name ≡ x = cc want in
        let free : old ≡ Empty = cc want in
        let mark : new ≡ Rung 1 = cc want in
        sets was.name 1 h.name_fits (inl (ap (met_at w k) same ∙ met ∙ free)) (λ y name f. set_flag was.name y h.name_fits name e f) (s ∙ ap (λ t. put w.store (table_at w k t) new) (sym same) ∙ ap (put w.store (table_at w k was.name)) mark)
    swapped Raise x old new want met e s = let z : ◌≡◌ {A = ℕ} 0 1 = cc want in absurd (omega arith)
    swapped Fill x old new want met e s = let z : ◌≡◌ {A = ℕ} 0 1 = cc want in absurd (omega arith)
    swapped Try x old new want met e s =
        let same : was.name ≡ x = cc want in
        let free : old ≡ Empty = cc want in
        let mark : new ≡ Rung was.rung = cc want in
        sets was.name was.rung h.name_fits (inl (ap (met_at w k) same ∙ met ∙ free)) (λ y name f. set_flag was.name y h.name_fits name e f) (s ∙ ap (λ t. put w.store (table_at w k t) new) (sym same) ∙ ap (put w.store (table_at w k was.name)) mark)
    swapped Drop x old new want met e s = let z : ◌≡◌ {A = ℕ} 0 1 = cc want in absurd (omega arith)

    -- every change is such a deed
    pub deed : Change by_ladder k w v → Deed k w v
    deed (stays e s) = same_flags (ap (λ a. a.flags) e) s
    deed (asks idles e s) =
        quiet (λ y name f. absurd (false≢true (sym (no_flag y (omega (arith, name.1, size.cells_high))) ∙ sym (ap (λ a. flag_at a.flags y) e) ∙ f))) s
    deed (leaves holds e s) = same_flags (ap (λ a. a.flags) e) s
    deed (looks moves want e s) = same_flags (ap (λ a. a.flags) e ∙ (step_has n m was.phase was (marks _)).1) s
    deed (reads x moves name want e s) = same_flags (ap (λ a. a.flags) e ∙ (step_has n m was.phase was (cell (met_at w k x))).1) s
    deed (writes x c moves name good want e s) =
        wrote was.phase x c h.phase_fits want (ap (λ a. a.flags) e ∙ (step_has n m was.phase was done).1) s
    deed (swaps x old new moves name good want met e s) =
        swapped was.phase x old new want met (ap (λ a. a.flags) e ∙ (step_has n m was.phase was (went true)).1) s
    deed (misses x old new moves name want met e s) =
        same_flags (ap (λ a. a.flags) e ∙ (step_has n m was.phase was (went false)).1) s
