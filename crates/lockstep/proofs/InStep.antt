-- Agents in step on a stand-off: each one's record, table and marks are the turn of the one before. Assumes nothing.
use Rattle.std.proofs.Common.{◌≡◌, ℕ, zero, suc, ◌<◌, ◌≤◌, length, Some, sym, refl, ap, ◌∙◌, subst₂, ⊎_elim, arith}
use Prim.Native.Nat.{◌∣◌}
use Rattle.std.proofs.lemmas.Bool.{cases_eq}
use Rattle.cells.specs.Marks.{mark_at}
use Rattle.cells.specs.declared.mark.Mark.{Mark}
use Rattle.rules.specs.Records.{Reply}
use Rattle.rules.specs.Lawful.{Sized, Idles, Proper, Fits, Permutes, replaced, replaced_agent, replaced_want, replaced_reply}
use Rattle.rules.specs.declared.agent.Agent.{Agent}
use Rattle.rules.specs.declared.want.Want.{Want}
use Rattle.model.specs.Meanings.{Meaning}
use Rattle.model.specs.Rigs.{World}
use Rattle.model.specs.Loads.{turned}
use Rattle.model.specs.declared.Round.{Round}
use Rattle.model.specs.declared.Round.TheVariants.{Request, Step, Leave}
use Rattle.runs.proofs.Views.{agent_at, table_at, met_at}
use Rattle.runs.proofs.Lawfulness.{Steady, Blind}
use Rattle.runs.proofs.Keeping.{Sound}
use Rattle.lockstep.proofs.Turning.{around, around_below, around_inside, around_permutes, onward, turned_inside, turned_around}
use Rattle.lockstep.proofs.Deeds.{reply_to, reply_replaced, reply_fits}
use Rattle.lockstep.proofs.RoundEffects.{Allowed, aim, record_after}

-- l of n agents go round m cells
pub record Ring (l n m : ℕ) : Type 0 where
  pub two : 2 ≤ l
  pub few : l ≤ n
  pub most : n ≤ 16
  pub some : 1 ≤ m
  pub parts : l ∣ m

pub ring_permutes : (l n m : ℕ) → Ring l n m → Permutes (around l)
ring_permutes l n m ring = let a = ring.few in let b = ring.most in around_permutes l (omega arith)

-- what is the same for an agent and its next one is the same for all
pub same_for_all : {A : Type 0} (l : ℕ) (f : ℕ → A) → ((k : ℕ) → 1 ≤ k → k ≤ l → f (around l k) ≡ f k) → (k : ℕ) → 1 ≤ k → k ≤ l → f k ≡ f 1
same_for_all l f next zero low high = absurd (omega arith)
same_for_all l f next (suc k) low high =
    let before : 1 ≤ k → k ≤ l → f k ≡ f 1 = same_for_all l f next k in
    ⊎_elim
    (λ none. ap f (omega arith))
    (λ more.
    let one : suc k ≡ around l k = (let e = around_below l k (omega arith) in omega arith) in
    ap f one ∙ next k (omega arith) (omega arith) ∙ before (omega arith) (omega arith))
    (cases_eq k 0)

module _ {P : Type 0} (R : Meaning P) (S : Steady R) (l n m : ℕ) where
  pub record InStep (w : World P) : Type 0 where
    pub sound : Sound R S w
    pub agents : length w.rig.seats ≡ n
    pub cells : w.rig.cells ≡ m
    pub standoff : w.rig.standoff ≡ Some l
    pub tables : (k x : ℕ) → 1 ≤ k → k ≤ l → 1 ≤ x → x ≤ m → table_at w k x ≡ turned l m k x
    pub records : (k : ℕ) → 1 ≤ k → k ≤ l → agent_at R w (around l k) ≡ replaced_agent (around l) (agent_at R w k)
    pub marks : (y : ℕ) → 1 ≤ y → y ≤ m → mark_at w.store (onward l m y) ≡ replaced (around l) (mark_at w.store y)
    pub rest : (k : ℕ) → l < k → k ≤ n → Idles (agent_at R w k)

  module _ (B : Blind R S) (ring : Ring l n m) (w : World P) (in_step : InStep w) where
    perm : Permutes (around l)
    perm = ring_permutes l n m ring

    pub sized : Sized n m
    sized = subst₂ (λ p q. Sized p q) in_step.agents in_step.cells in_step.sound.sized

    pub reached : (k : ℕ) → 1 ≤ k → k ≤ n → S.reachable n m (agent_at R w k)
    reached k low high =
        let e = in_step.agents in
        subst₂ (λ p q. S.reachable p q (agent_at R w k)) in_step.agents in_step.cells (in_step.sound.reached k low (omega arith))

    pub same_section : (k : ℕ) → 1 ≤ k → k ≤ l → (agent_at R w k).section ≡ (agent_at R w 1).section
    same_section = same_for_all l (λ k. (agent_at R w k).section) (λ k low high. ap (λ a. a.section) (in_step.records k low high))

    pub table_next : (k x : ℕ) → 1 ≤ k → k ≤ l → 1 ≤ x → x ≤ m → table_at w (around l k) x ≡ onward l m (table_at w k x)
    table_next k x low high from to =
        let v = around_inside l k low high in
        in_step.tables (around l k) x v.0 v.1 from to
        ∙ turned_around l m ring.some ring.two ring.parts k x low high
        ∙ ap (onward l m) (sym (in_step.tables k x low high from to))

    pub table_inside : (k x : ℕ) → 1 ≤ k → k ≤ l → 1 ≤ x → x ≤ m → (1 ≤ table_at w k x) × (table_at w k x ≤ m)
    table_inside k x low high from to =
        let t = turned_inside l m ring.some ring.two ring.parts k x in
        let e = in_step.tables k x low high from to in
        (omega arith, omega arith)

    -- the next agent meets the same marks, with identities replaced
    pub met_next : (k x : ℕ) → 1 ≤ k → k ≤ l → 1 ≤ x → x ≤ m → met_at w (around l k) x ≡ replaced (around l) (met_at w k x)
    met_next k x low high from to =
        let t = table_inside k x low high from to in
        ap (mark_at w.store) (table_next k x low high from to) ∙ in_step.marks (table_at w k x) t.0 t.1

    -- a round in which each of the agents may do it
    module _ (r : Round) (may : (k : ℕ) → 1 ≤ k → k ≤ l → Allowed r (agent_at R w k)) where
      abbrev pub aim_of : ℕ → Want
      aim_of k = aim R r n m (agent_at R w k)

      abbrev pub outcome : ℕ → Agent P
      outcome k = record_after R r n m (agent_at R w k) (reply_to m (met_at w k) (aim_of k))

      aim_proper : (a : Agent P) → S.reachable n m a → Allowed r a → Proper m (aim R r n m a)
      aim_proper a here allowed = go r allowed
        where
          go : (q : Round) → Allowed q a → Proper m (aim R q n m a)
          go Request h = tt
          go Step h = S.proper n m a sized here h
          go Leave h = tt

      aim_replaced : (a : Agent P) → S.reachable n m a → Allowed r a → aim R r n m (replaced_agent (around l) a) ≡ replaced_want (around l) (aim R r n m a)
      aim_replaced a here allowed = go r allowed
        where
          go : (q : Round) → Allowed q a → aim R q n m (replaced_agent (around l) a) ≡ replaced_want (around l) (aim R q n m a)
          go Request h = refl
          go Step h = B.renamedwant n m a (around l) sized here h perm
          go Leave h = refl

      record_replaced : (a : Agent P) (f : ℕ → Mark) → S.reachable n m a → Allowed r a → Fits m (aim R r n m a) (reply_to m f (aim R r n m a)) → record_after R r n m (replaced_agent (around l) a) (replaced_reply (around l) (reply_to m f (aim R r n m a))) ≡ replaced_agent (around l) (record_after R r n m a (reply_to m f (aim R r n m a)))
      record_replaced a f here allowed fits = go r allowed (reply_to m f (aim R r n m a)) fits
        where
          go : (q : Round) → Allowed q a → (y : Reply) → Fits m (aim R q n m a) y → record_after R q n m (replaced_agent (around l) a) (replaced_reply (around l) y) ≡ replaced_agent (around l) (record_after R q n m a y)
          go Request h y fits = B.renamedask n m a (around l) sized here perm
          go Step h y fits = B.renamedstep n m a y (around l) sized here h fits perm
          go Leave h y fits = B.renamedleave n m a (around l) sized here perm

      there : (k : ℕ) → 1 ≤ k → k ≤ l → S.reachable n m (agent_at R w k)
      there k low high = let a = ring.few in reached k low (omega arith)

      pub proper_aim : (k : ℕ) → 1 ≤ k → k ≤ l → Proper m (aim_of k)
      proper_aim k low high = aim_proper (agent_at R w k) (there k low high) (may k low high)

      pub aim_next : (k : ℕ) → 1 ≤ k → k ≤ l → aim_of (around l k) ≡ replaced_want (around l) (aim_of k)
      aim_next k low high = ap (aim R r n m) (in_step.records k low high) ∙ aim_replaced (agent_at R w k) (there k low high) (may k low high)

      pub outcome_next : (k : ℕ) → 1 ≤ k → k ≤ l → outcome (around l k) ≡ replaced_agent (around l) (outcome k)
      outcome_next k low high =
          let lawful_met = λ (x : ℕ). in_step.sound.lawful_marks (table_at w k x) in
          ap (λ a. record_after R r n m a (reply_to m (met_at w (around l k)) (aim_of (around l k)))) (in_step.records k low high)
          ∙ ap (λ a. record_after R r n m (replaced_agent (around l) (agent_at R w k)) (reply_to m (met_at w (around l k)) a)) (aim_next k low high)
          ∙ ap (record_after R r n m (replaced_agent (around l) (agent_at R w k))) (reply_replaced (around l) perm m (met_at w k) (met_at w (around l k)) (aim_of k) (λ x from to. met_next k x low high from to) lawful_met (proper_aim k low high))
          ∙ record_replaced (agent_at R w k) (met_at w k) (there k low high) (may k low high) (reply_fits m (met_at w k) (aim_of k) lawful_met)
