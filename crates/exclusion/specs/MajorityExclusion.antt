-- Under the rule of majorities no two agents hold together: two majorities would overlap. Assumes nothing.
use Rattle.std.specs.Prelude.{◌≡◌, ℕ, ◌-◌, ◌*◌, ◌<◌, ◌≤◌, Bool, List, length, refl}
use Rattle.std.proofs.Common.{sym, ap, ◌∙◌, ⊎_elim, arith, get_or-take, length-take-le}
use Rattle.std.proofs.lemmas.List.{get_or-replicate}
use Rattle.std.proofs.lemmas.Bool.{cases_eq}
use Rattle.numbers.proofs.Pigeonhole.{apart_both}
use Rattle.cells.specs.Marks.{same_mark, mark_at}
use Rattle.cells.specs.declared.mark.Mark.TheVariants.{Empty}
use Rattle.tally.specs.Counts.{count_names, has}
use Rattle.tally.proofs.CountLaws.{count_same}
use Rattle.rules.specs.Records.{own, seen_at}
use Rattle.rules.specs.Lawful.{Holds}
use Rattle.rule_majority.specs.declared.phase.MajorityPhase.{MajorityPhase}
use Rattle.rule_majority.specs.Majority.{Record, own_seen, Reachable}
use Rattle.model.specs.Meanings.{by_majority}
use Rattle.model.specs.Rigs.{World}
use Rattle.model.specs.Calls.{Call, play}
use Rattle.runs.proofs.Views.{agent_at, table_at}
use Rattle.runs.proofs.Effects.{same_equal, equal_same}
use Rattle.runs.proofs.Keeping.{Sound, Fresh, play_keeps}
use Rattle.exclusion.specs.Counting.{count_more, count_apart, count_injected}
use Rattle.exclusion.specs.MajoritySteady.{steady}
use Rattle.exclusion.specs.MajoritySight.{empty_owner, own_of, SeesTruly, change_true}

-- what is counted as own is what is seen as own
own_counted : (m : ℕ) (a : Record) → m ≤ length a.seen → own_seen m a ≡ count_names (has a.seen (own a)) m
own_counted m a fits =
    ap (count_names (has (seen_at a m) (own a))) (length-take-le m a.seen fits)
    ∙ count_same (has (seen_at a m) (own a)) (has a.seen (own a)) m (λ y low high. ap (λ c. same_mark c (own a)) (get_or-take m a.seen (y - 1) Empty (omega arith)))

module _ (w : World MajorityPhase) (sound : Sound by_majority steady w) (sees : SeesTruly w) where
  -- the cell with store name y is agent j's own
  abbrev owned : ℕ → ℕ → Bool
  owned j y = has w.store (own_of w j) y

  -- a holder owns more than half of the cells
  majority_owned : (j : ℕ) → 1 ≤ j → j ≤ length w.rig.seats → Holds (agent_at by_majority w j) → w.rig.cells < 2 * count_names (owned j) w.rig.cells
  majority_owned j low high holds =
      let m = w.rig.cells in
      let a = agent_at by_majority w j in
      let reach : Reachable m a = sound.reached j low high in
      let most : m ≤ 64 = sound.sized.cells_high in
      let long : length a.seen ≡ 64 = reach.room in
      let counted = own_counted m a (omega arith) in
      let truly =
      count_more (has a.seen (own a)) (λ x. owned j (table_at w j x)) m
      (λ y b c e.
      let is_own = sees j y low high (b, c) (same_equal (mark_at a.seen y) (own a) e) in
      ap (λ k. same_mark k (own a)) is_own ∙ equal_same (own a))
      in
      let through = count_injected (owned j) (table_at w j) m m (sound.tables j low high) in
      let more : m < 2 * own_seen m a = (reach.holding holds).2 in
      omega arith

  pub one_holds : (j k : ℕ) → 1 ≤ j → j ≤ length w.rig.seats → 1 ≤ k → k ≤ length w.rig.seats → Holds (agent_at by_majority w j) → Holds (agent_at by_majority w k) → j ≡ k
  one_holds j k a b c d holds also =
      ⊎_elim
      (λ same. same)
      (λ other.
      let m = w.rig.cells in
      let first = majority_owned j a b holds in
      let second = majority_owned k c d also in
      let together =
      count_apart (owned j) (owned k) m
      (λ y _ _ e f.
      let marks_same : own_of w j ≡ own_of w k = sym (same_equal (mark_at w.store y) (own_of w j) e) ∙ same_equal (mark_at w.store y) (own_of w k) f in
      let i_same : (agent_at by_majority w j).identity ≡ (agent_at by_majority w k).identity = cc marks_same in
      other (apart_both (λ l. (agent_at by_majority w l).identity) 65535 (length w.rig.seats) j k sound.identities a b c d i_same))
      in
      absurd (omega arith))
      (cases_eq j k)

-- as many agents, and each sees truly
abbrev Truly : ℕ → World MajorityPhase → Type 0
Truly n w = (length w.rig.seats ≡ n) × SeesTruly w

fresh_true : (w : World MajorityPhase) → Fresh by_majority steady w → SeesTruly w
fresh_true w fresh j x a b name sees =
    let most = fresh.sound.sized.cells_high in
    let top = name.1 in
    let first = name.0 in
    absurd (empty_owner (agent_at by_majority w j).identity (sym (get_or-replicate 64 (x - 1) Empty Empty (omega arith)) ∙ ap (λ a. mark_at a.seen x) (sym (fresh.loaded j)) ∙ sees))

-- whatever a freshly loaded rig hears, no two agents hold
pub exclusive : (w : World MajorityPhase) → Fresh by_majority steady w → (cs : List Call) (j k : ℕ) → 1 ≤ j → j ≤ length w.rig.seats → 1 ≤ k → k ≤ length w.rig.seats → Holds (agent_at by_majority (play by_majority w cs) j) → Holds (agent_at by_majority (play by_majority w cs) k) → j ≡ k
exclusive w fresh cs j k a b c d holds also =
    let n = length w.rig.seats in
    let end = play by_majority w cs in
    let known =
    play_keeps by_majority steady (Truly n)
    (λ l u v sound low acts effect here.
    let high : l ≤ length u.rig.seats = omega (arith, sound.few) in
    (effect.kept.agents ∙ here.0, change_true l u v sound low high effect.kept here.1 effect.change))
    cs w fresh.sound (refl, fresh_true w fresh)
    in
    let count : length end.rig.seats ≡ n = known.1.0 in
    one_holds end known.0 known.1.1 j k a (omega arith) c (omega arith) holds also
