-- Under the ladder no two agents ever hold. Assumes nothing.
use Rattle.std.specs.Prelude.{◌≡◌, ℕ, zero, suc, ◌-◌, ◌≤◌, Bool, true, false, cond, List, length, take, refl}
use Rattle.std.proofs.Common.{sym, ap, subst, ◌∙◌, ⊎_elim, le_refl, arith, get_or-take, length-take-le}
use Rattle.std.proofs.lemmas.Bool.{cases_Bool, cases_eq, cond-true, cond-false, false≢true}
use Rattle.numbers.proofs.Pigeonhole.{every_number}
use Rattle.tally.specs.Counts.{count_names, flag_at}
use Rattle.tally.proofs.CountLaws.{count_at_most}
use Rattle.rules.specs.Lawful.{Holds, Name}
use Rattle.rules.specs.declared.agent.Agent.{Agent}
use Rattle.rule_ladder.specs.declared.phase.LadderPhase.{LadderPhase}
use Rattle.rule_ladder.specs.Ladder.{SectionFits, LadderReachable}
use Rattle.model.specs.Meanings.{by_ladder}
use Rattle.model.specs.Rigs.{World}
use Rattle.model.specs.Calls.{Call, play}
use Rattle.runs.proofs.Views.{agent_at, table_at}
use Rattle.runs.proofs.Effects.{Effect}
use Rattle.runs.proofs.Keeping.{Sound, Fresh, acting, play_keeps}
use Rattle.exclusion.specs.LadderSteady.{steady, reached_ladder}
use Rattle.exclusion.specs.LadderDeeds.{Flagged, deed, no_flag}
use Rattle.exclusion.specs.LadderParted.{Spot, Parted, parted_deed}

-- where as many names pass as there are, each one does
all_pass : (test : ℕ → Bool) (n : ℕ) → n ≤ count_names test n → (y : ℕ) → 1 ≤ y → y ≤ n → test y ≡ true
unfolding count_names
all_pass test zero full y a b = absurd (omega arith)
all_pass test (suc n) full y a b =
    let most = count_at_most test n in
    ⊎_elim
    (λ here.
    let one : ◌≡◌ {A = ℕ} (cond (test (suc n)) 1 0) 1 = cond-true (test (suc n)) 1 0 here in
    ⊎_elim (λ same. subst (λ t. test t ≡ true) (sym same) here) (λ other. all_pass test n (omega arith) y a (omega arith)) (cases_eq y (suc n)))
    (λ not-here. let none : ◌≡◌ {A = ℕ} (cond (test (suc n)) 1 0) 0 = cond-false (test (suc n)) 1 0 not-here in absurd (omega arith))
    (cases_Bool (test (suc n)))

-- every call keeps the agents, and that their flagged cells are apart
abbrev Apart : ℕ → World LadderPhase → Type 0
Apart n w = (length w.rig.seats ≡ n) × Parted w

apart_kept : (n k : ℕ) (w v : World LadderPhase) → Sound by_ladder steady w → 1 ≤ k → k ≤ acting w → Effect by_ladder k w v → Apart n w → Apart n v
apart_kept n k w v sound low acts effect here =
    let high : k ≤ length w.rig.seats = omega (arith, acts, sound.few) in
    let done_so = deed k w v sound.sized (reached_ladder (length w.rig.seats) w.rig.cells (agent_at by_ladder w k) (sound.reached k low high)) effect.change in
    (effect.kept.agents ∙ here.0, parted_deed k w v sound (low, high) effect.kept here.1 done_so)

-- nothing is flagged in a rig freshly loaded
fresh_parted : (w : World LadderPhase) → Fresh by_ladder steady w → Parted w
fresh_parted w fresh = record { taken = λ j x s f e. unflagged j x s f; apart = λ j k x y s t other f g e. unflagged j x s f }
  where
    unflagged : (j x : ℕ) → Spot w j x → Flagged w j x → ⊥
    unflagged j x s f =
        false≢true
        (sym (no_flag x (omega (arith, s.name.1, fresh.sound.sized.cells_high)))
        ∙ sym (ap (λ a. flag_at a.flags x) (fresh.loaded j))
        ∙ f)

-- one that holds has every flag set
holder_flags : (n m : ℕ) (a : Agent LadderPhase) → m ≤ 64 → LadderReachable n m a → Holds a → (y : ℕ) → Name m y → flag_at a.flags y ≡ true
holder_flags n m a fits h holds y name =
    let held = subst (λ s. SectionFits s m a) holds h.section_fits in
    let long = length-take-le m a.flags (omega (arith, h.flags_all, fits)) in
    let full = subst (λ t. m ≤ count_names (flag_at (take m a.flags)) t) long held.2 in
    sym (get_or-take m a.flags (y - 1) false (omega (arith, name.0, name.1)))
    ∙ all_pass (flag_at (take m a.flags)) m full y name.0 name.1

-- of two agents that hold, both would flag a cell
one_holds : (w : World LadderPhase) → Sound by_ladder steady w → Parted w → (j k : ℕ) → Name (length w.rig.seats) j → Name (length w.rig.seats) k → Holds (agent_at by_ladder w j) → Holds (agent_at by_ladder w k) → j ≡ k
one_holds w sound here j k a b hj hk =
    let n = length w.rig.seats in
    let m = w.rig.cells in
    let size = sound.sized in
    let first : Name m 1 = (le_refl 1, size.cells_low) in
    let inside = (sound.tables j a.0 a.1).inside 1 first.0 first.1 in
    let found = every_number (table_at w k) m (table_at w j 1) (sound.tables k b.0 b.1) inside.0 inside.1 in
    let name : Name m found.0 = (found.1, found.2) in
    let f = holder_flags n m (agent_at by_ladder w j) size.cells_high (reached_ladder n m (agent_at by_ladder w j) (sound.reached j a.0 a.1)) hj 1 first in
    let g = holder_flags n m (agent_at by_ladder w k) size.cells_high (reached_ladder n m (agent_at by_ladder w k) (sound.reached k b.0 b.1)) hk found.0 name in
    ⊎_elim
    (λ same. same)
    (λ other. absurd (here.apart j k 1 found.0 (record { agent = a; name = first }) (record { agent = b; name = name }) other f g (sym found.3)))
    (cases_eq j k)

-- no two agents ever hold
pub exclusive : (w : World LadderPhase) → Fresh by_ladder steady w → (cs : List Call) (j k : ℕ) → 1 ≤ j → j ≤ length w.rig.seats → 1 ≤ k → k ≤ length w.rig.seats → Holds (agent_at by_ladder (play by_ladder w cs) j) → Holds (agent_at by_ladder (play by_ladder w cs) k) → j ≡ k
exclusive w fresh cs j k a b c d hj hk =
    let n = length w.rig.seats in
    let now = play_keeps by_ladder steady (Apart n) (apart_kept n) cs w fresh.sound (refl, fresh_parted w fresh) in
    one_holds (play by_ladder w cs) now.0 now.1.1 j k (a, omega (arith, now.1.0, b)) (c, omega (arith, now.1.0, d)) hj hk
