-- Under rule 1 no two agents ever hold. Assumes nothing.
use Rattle.std.specs.Prelude.{◌≡◌, ℕ, ◌<◌, ◌≤◌, List, length, refl}
use Rattle.std.proofs.Common.{sym, ap, subst, subst₂, ◌∙◌, ⊎_elim, arith}
use Rattle.std.proofs.Math.Path.{fun_ext}
use Rattle.std.proofs.lemmas.Bool.{cases_lt}
use Rattle.numbers.specs.Rows.{Distinct}
use Rattle.numbers.proofs.Pigeonhole.{apart_both}
use Rattle.numbers.proofs.RowLaws.{distinct_same}
use Rattle.rules.specs.Lawful.{Idles, Holds}
use Rattle.rule_read_write.specs.declared.phase.ReadWritePhase.{ReadWritePhase}
use Rattle.rule_read_write.specs.ReadWrite.{Record}
use Rattle.model.specs.Meanings.{read_and_write}
use Rattle.model.specs.Rigs.{World}
use Rattle.model.specs.Calls.{Call, play}
use Rattle.runs.proofs.Views.{agent_at, table_at}
use Rattle.runs.proofs.Effects.{Effect}
use Rattle.runs.proofs.Keeping.{acting_in, acting, Sound, Fresh, play_keeps}
use Rattle.exclusion.specs.ReadWriteSteady.{steady}
use Rattle.exclusion.specs.ReadWriteMoves.{never, Move, change_move}
use Rattle.exclusion.specs.ReadWriteGuard.{Alone, move_alone}

-- an agent is not both idle and holding
idle_or_holding : (a : Record) → Idles a → Holds a → ⊥
idle_or_holding a e f = never (cc (e, f))

-- q acting agents over m cells, with their tables
module _ (q m : ℕ) (table : ℕ → ℕ → ℕ) where
  -- what every call keeps: the rig's shape, the idleness of those that do not act, and that at most one holds
  record Safe (w : World ReadWritePhase) : Type 0 where
    acts : acting w ≡ q
    cells : w.rig.cells ≡ m
    tables : (j x : ℕ) → table_at w j x ≡ table j x
    rest : (j : ℕ) → q < j → Idles (agent_at read_and_write w j)
    alone : Alone q m table (agent_at read_and_write w) w.store

  keeps : q ≤ m → (k : ℕ) (w v : World ReadWritePhase) → Sound read_and_write steady w → 1 ≤ k → k ≤ acting w → Effect read_and_write k w v → Safe w → Safe v
  keeps coped k w v sound low high effect safe =
      let kept = effect.kept in
      let few = sound.few in
      let acts = safe.acts in
      let n = length w.rig.seats in
      let up : k ≤ q = omega arith in
      let there : (j : ℕ) → j ≤ q → j ≤ n = λ j d. omega arith in
      let rows : (j : ℕ) → 1 ≤ j → j ≤ q → Distinct (table j) m m =
      λ j c d.
      distinct_same (table_at w j) (table j) m m (λ x _ _. safe.tables j x)
      (subst (λ z. Distinct (table_at w j) z z) safe.cells (sound.tables j c (there j d)))
      in
      let apart : (i j : ℕ) → 1 ≤ i → i ≤ q → 1 ≤ j → j ≤ q → (agent_at read_and_write w i).identity ≡ (agent_at read_and_write w j).identity → i ≡ j =
      λ i j c d e f same. apart_both (λ z. (agent_at read_and_write w z).identity) 65535 n i j sound.identities c (there i d) e (there j f) same
      in
      let move : Move m (table k) (agent_at read_and_write w k) (agent_at read_and_write v k) w.store v.store =
      subst₂ (λ z t. Move z t (agent_at read_and_write w k) (agent_at read_and_write v k) w.store v.store) safe.cells (fun_ext (safe.tables k)) (change_move k w v effect.change)
      in
      record {
        acts = (λ i. acting_in (kept.standoff i) (kept.agents i)) ∙ acts;
        cells = kept.cells ∙ safe.cells;
        tables = λ j x. kept.tables j x ∙ safe.tables j x;
        rest = λ j past. subst Idles (sym (kept.others j (λ e. omega arith))) (safe.rest j past);
        alone = move_alone q m table (agent_at read_and_write w) (agent_at read_and_write v) w.store v.store k low up coped rows apart kept.others safe.alone move;
      }

-- nobody holds in a fresh rig
begins : (w : World ReadWritePhase) → Fresh read_and_write steady w → Safe (acting w) w.rig.cells (table_at w) w
begins w fresh =
    let idle : (j : ℕ) → Idles (agent_at read_and_write w j) = λ j. ap (λ a. a.section) (fresh.loaded j) in
    let not : (j : ℕ) → Holds (agent_at read_and_write w j) → ⊥ = λ j h. idle_or_holding (agent_at read_and_write w j) (idle j) h in
    record {
      acts = refl;
      cells = refl;
      tables = λ j x. refl;
      rest = λ j _. idle j;
      alone = record {
        guards = λ i _ _ h. absurd (not i h);
        one = λ i j _ _ _ _ h _. absurd (not i h);
      };
    }

pub exclusive : (w : World ReadWritePhase) → Fresh read_and_write steady w → (cs : List Call) (j k : ℕ) → 1 ≤ j → j ≤ length w.rig.seats → 1 ≤ k → k ≤ length w.rig.seats → Holds (agent_at read_and_write (play read_and_write w cs) j) → Holds (agent_at read_and_write (play read_and_write w cs) k) → j ≡ k
exclusive w fresh cs j k a b c d hj hk =
    let q = acting w in
    let m = w.rig.cells in
    let v = play read_and_write w cs in
    let safe : Safe q m (table_at w) v =
    (play_keeps read_and_write steady (Safe q m (table_at w)) (keeps q m (table_at w) fresh.coped) cs w fresh.sound (begins w fresh)).1
    in
    let acts : (i : ℕ) → Holds (agent_at read_and_write v i) → i ≤ q =
    λ i h. ⊎_elim (λ past. absurd (idle_or_holding (agent_at read_and_write v i) (safe.rest i past) h)) (λ low. low) (cases_lt q i)
    in
    safe.alone.one j k a (acts j hj) c (acts k hk) hj hk
