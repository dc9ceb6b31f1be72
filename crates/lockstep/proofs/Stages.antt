-- A round on a stand-off, agent by agent: no agent meets what another has changed in the round, so the agents stay in step. Assumes nothing.
use Rattle.std.proofs.Common.{◌≡◌, ℕ, zero, suc, ◌<◌, ◌≤◌, true, length, Some, sym, refl, ap, ◌∙◌, subst, ⊎_elim, arith}
use mathlib.Core.Path.{fun_ext}
use Rattle.std.proofs.lemmas.Bool.{cases_eq, cases_Bool}
use Rattle.numbers.proofs.Pigeonhole.{find_number}
use Rattle.cells.specs.Marks.{mark_at}
use Rattle.rules.specs.Lawful.{Idles, Name, replaced, replaced_agent}
use Rattle.rules.specs.declared.agent.Agent.{Agent}
use Rattle.rules.specs.declared.want.Want.{Want}
use Rattle.model.specs.Meanings.{Meaning}
use Rattle.model.specs.Rigs.{World, moved}
use Rattle.model.specs.Rounds.{given, in_turn}
use Rattle.model.specs.declared.Round.{Round}
use Rattle.runs.proofs.Views.{agent_at, table_at, met_at}
use Rattle.runs.proofs.Lawfulness.{Steady, Blind}
use Rattle.runs.proofs.Keeping.{Sound, effect_sound}
use Rattle.lockstep.proofs.Turning.{around, around_inside, around_from, onward, onward_inside, onward_apart, turned_apart}
use Rattle.lockstep.proofs.Deeds.{reply_to, marks_after, touched, mark_after, is_quiet, touched_inside, after_here, after_other, quiet_same, reply_same, touched_replaced, quiet_replaced, after_replaced}
use Rattle.lockstep.proofs.RoundEffects.{Allowed, aim, record_after, Deed, deed}
use Rattle.lockstep.proofs.InStep.{Ring, ring_permutes, same_for_all, InStep, aim_of, outcome, proper_aim, aim_next, outcome_next, table_next, table_inside}

module _ {P : Type 0} (R : Meaning P) (S : Steady R) where
  -- what a deed does, by the numbers, the record and the table that the agent is known to have
  record_known : (r : Round) (k : ℕ) (w v : World P) (p q : ℕ) (a : Agent P) (t : ℕ → ℕ) → length w.rig.seats ≡ p → w.rig.cells ≡ q → agent_at R w k ≡ a → table_at w k ≡ t → Deed R S r k w v → agent_at R v k ≡ record_after R r p q a (reply_to q (λ x. mark_at w.store (t x)) (aim R r p q a))
  record_known r k w v p q a t agents cells here table d =
      d.record_is
      ∙ ap (λ i. record_after R r i w.rig.cells (agent_at R w k) (reply_to w.rig.cells (met_at w k) (aim R r i w.rig.cells (agent_at R w k)))) agents
      ∙ ap (λ i. record_after R r p i (agent_at R w k) (reply_to i (met_at w k) (aim R r p i (agent_at R w k)))) cells
      ∙ ap (λ i. record_after R r p q i (reply_to q (met_at w k) (aim R r p q i))) here
      ∙ ap (λ i. record_after R r p q a (reply_to q (λ x. mark_at w.store (i x)) (aim R r p q a))) table

  store_known : (r : Round) (k : ℕ) (w v : World P) (p q : ℕ) (a : Agent P) (t : ℕ → ℕ) → length w.rig.seats ≡ p → w.rig.cells ≡ q → agent_at R w k ≡ a → table_at w k ≡ t → Deed R S r k w v → v.store ≡ marks_after w.store t (aim R r p q a)
  store_known r k w v p q a t agents cells here table d =
      d.store_is
      ∙ ap (λ i. marks_after w.store (table_at w k) (aim R r i w.rig.cells (agent_at R w k))) agents
      ∙ ap (λ i. marks_after w.store (table_at w k) (aim R r p i (agent_at R w k))) cells
      ∙ ap (λ i. marks_after w.store (table_at w k) (aim R r p q i)) here
      ∙ ap (λ i. marks_after w.store i (aim R r p q a)) table

module _ {P : Type 0} (R : Meaning P) (S : Steady R) (l n m : ℕ) (B : Blind R S) (ring : Ring l n m) (w : World P) (in_step : InStep R S l n m w) (r : Round) (may : (k : ℕ) → 1 ≤ k → k ≤ l → Allowed r (agent_at R w k)) where
  -- what agent k wants, and what its record becomes
  abbrev want : ℕ → Want
  want k = aim_of R S l n m B ring w in_step r may k

  abbrev new : ℕ → Agent P
  new k = outcome R S l n m B ring w in_step r may k

  -- the one local name that all of them may change, and agent k's cell of that name
  abbrev at : ℕ
  at = touched (want 1)

  abbrev spot : ℕ → ℕ
  spot k = table_at w k at

  first_low : 1 ≤ l
  first_low = let a = ring.two in omega arith

  same_name : (k : ℕ) → 1 ≤ k → k ≤ l → touched (want k) ≡ at
  same_name = same_for_all l (λ k. touched (want k)) (λ k low high. ap touched (aim_next R S l n m B ring w in_step r may k low high) ∙ touched_replaced (around l) (want k))

  same_quiet : (k : ℕ) → 1 ≤ k → k ≤ l → is_quiet (want k) ≡ is_quiet (want 1)
  same_quiet = same_for_all l (λ k. is_quiet (want k)) (λ k low high. ap is_quiet (aim_next R S l n m B ring w in_step r may k low high) ∙ quiet_replaced (around l) (want k))

  at_inside : Name m at
  at_inside = touched_inside m (want 1) ring.some (proper_aim R S l n m B ring w in_step r may 1 (omega arith) first_low)

  spot_inside : (k : ℕ) → 1 ≤ k → k ≤ l → (1 ≤ spot k) × (spot k ≤ m)
  spot_inside k low high = table_inside R S l n m B ring w in_step k at low high at_inside.0 at_inside.1

  spot_apart : (j k : ℕ) → 1 ≤ j → j ≤ l → 1 ≤ k → k ≤ l → spot j ≡ spot k → j ≡ k
  spot_apart j k a b c d same =
      turned_apart l m ring.some ring.two ring.parts j k at a b c d
      (sym (in_step.tables j at a b at_inside.0 at_inside.1) ∙ same ∙ in_step.tables k at c d at_inside.0 at_inside.1)

  spot_next : (k : ℕ) → 1 ≤ k → k ≤ l → spot (around l k) ≡ onward l m (spot k)
  spot_next k low high = table_next R S l n m B ring w in_step k at low high at_inside.0 at_inside.1

  -- after the first j agents
  record Stage (j : ℕ) (v : World P) : Type 0 where
    sound : Sound R S v
    agents : length v.rig.seats ≡ n
    cells : v.rig.cells ≡ m
    standoff : v.rig.standoff ≡ Some l
    tables : (k x : ℕ) → table_at v k x ≡ table_at w k x
    gone : (k : ℕ) → 1 ≤ k → k ≤ j → agent_at R v k ≡ new k
    still : (k : ℕ) → j < k → agent_at R v k ≡ agent_at R w k
    quiet : is_quiet (want 1) ≡ true → v.store ≡ w.store
    wrote : (k : ℕ) → 1 ≤ k → k ≤ j → mark_at v.store (spot k) ≡ mark_after (want k) (mark_at w.store (spot k))
    untouched : (y : ℕ) → 1 ≤ y → ((k : ℕ) → 1 ≤ k → k ≤ j → spot k ≡ y → ⊥) → mark_at v.store y ≡ mark_at w.store y

  start : Stage 0 w
  start = record {
    sound = in_step.sound;
    agents = in_step.agents;
    cells = in_step.cells;
    standoff = in_step.standoff;
    tables = λ k x. refl;
    gone = λ k low high. absurd (omega arith);
    still = λ k more. refl;
    quiet = λ e. refl;
    wrote = λ k low high. absurd (omega arith);
    untouched = λ y low other. refl;
  }

  module _ (j : ℕ) (v : World P) (stage : Stage j v) (high : suc j ≤ l) where
    abbrev k : ℕ
    k = suc j

    abbrev v' : World P
    v' = moved R v (given r k)

    low : 1 ≤ k
    low = omega arith

    top : k ≤ length v.rig.seats
    top = let a = ring.few in let b = stage.agents in omega arith

    as_before : agent_at R v k ≡ agent_at R w k
    as_before = stage.still k (omega arith)

    done : Deed R S r k v v'
    done = deed R S k v stage.sound low top r (subst (Allowed r) (sym as_before) (may k low high))

    my_table : table_at v k ≡ table_at w k
    my_table = fun_ext (stage.tables k)

    my_spot : table_at w k (touched (want k)) ≡ spot k
    my_spot = ap (table_at w k) (same_name k low high)

    -- agent k meets the mark of the start at its cell
    fresh : mark_at v.store (spot k) ≡ mark_at w.store (spot k)
    fresh = stage.untouched (spot k) (spot_inside k low high).0 (λ i a b same. let e = spot_apart i k a (omega arith) low high same in omega arith)

    same_reply : reply_to m (λ x. mark_at v.store (table_at w k x)) (want k) ≡ reply_to m (met_at w k) (want k)
    same_reply =
        ⊎_elim
        (λ yes'. ap (λ ms. reply_to m (λ x. mark_at ms (table_at w k x)) (want k)) (stage.quiet (sym (same_quiet k low high) ∙ yes')))
        (λ no'. reply_same m (λ x. mark_at v.store (table_at w k x)) (met_at w k) (want k) no' (ap (mark_at v.store) my_spot ∙ fresh ∙ ap (mark_at w.store) (sym my_spot)))
        (cases_Bool (is_quiet (want k)))

    my_record : agent_at R v' k ≡ new k
    my_record =
        record_known R S r k v v' n m (agent_at R w k) (table_at w k) stage.agents stage.cells as_before my_table done
        ∙ ap (record_after R r n m (agent_at R w k)) same_reply

    my_store : v'.store ≡ marks_after v.store (table_at w k) (want k)
    my_store = store_known R S r k v v' n m (agent_at R w k) (table_at w k) stage.agents stage.cells as_before my_table done

    my_mark : mark_at v'.store (spot k) ≡ mark_after (want k) (mark_at w.store (spot k))
    my_mark =
        let where' = spot_inside k low high in
        let long = stage.sound.room in
        let wide = stage.cells in
        let e = my_spot in
        ap (λ ms. mark_at ms (spot k)) my_store
        ∙ subst (λ y. mark_at (marks_after v.store (table_at w k) (want k)) y ≡ mark_after (want k) (mark_at v.store y)) my_spot (after_here v.store (table_at w k) (want k) (omega arith) (omega arith))
        ∙ ap (mark_after (want k)) fresh

    other_mark : (y : ℕ) → 1 ≤ y → (spot k ≡ y → ⊥) → mark_at v'.store y ≡ mark_at v.store y
    other_mark y from other =
        let where' = spot_inside k low high in
        let e = my_spot in
        ap (λ ms. mark_at ms y) my_store
        ∙ after_other v.store (table_at w k) (want k) y (omega arith) from (λ same. other (sym (same ∙ my_spot)))

    next : Stage k v'
    next = record {
      sound = effect_sound R S k v v' stage.sound low top done.effect;
      agents = done.effect.kept.agents ∙ stage.agents;
      cells = done.effect.kept.cells ∙ stage.cells;
      standoff = done.effect.kept.standoff ∙ stage.standoff;
      tables = λ i x. done.effect.kept.tables i x ∙ stage.tables i x;
      gone = λ i from to.
          ⊎_elim
          (λ same. subst (λ h. agent_at R v' h ≡ new h) (sym same) my_record)
          (λ other. done.effect.kept.others i other ∙ stage.gone i from (omega arith))
          (cases_eq i k);
      still = λ i more. done.effect.kept.others i (λ e. omega arith) ∙ stage.still i (omega arith);
      quiet = λ e. my_store ∙ quiet_same v.store (table_at w k) (want k) (same_quiet k low high ∙ e) ∙ stage.quiet e;
      wrote = λ i from to.
          ⊎_elim
          (λ same. subst (λ h. mark_at v'.store (spot h) ≡ mark_after (want h) (mark_at w.store (spot h))) (sym same) my_mark)
          (λ other.
          let up : i ≤ l = omega arith in
          other_mark (spot i) (spot_inside i from up).0 (λ same. other (spot_apart i k from up low high (sym same)))
          ∙ stage.wrote i from (omega arith))
          (cases_eq i k);
      untouched = λ y from other. other_mark y from (other k low (omega arith)) ∙ stage.untouched y from (λ i a b same. other i a (omega arith) same);
    }

  abbrev after_first : ℕ → World P
  after_first j = in_turn (λ v k. moved R v (given r k)) w j

  stages : (j : ℕ) → j ≤ l → Stage j (after_first j)
  stages zero high = start
  stages (suc j) high = next j (after_first j) (stages j (omega arith)) high

  -- after all of them

  marks_next : (v : World P) → Stage l v → (y : ℕ) → 1 ≤ y → y ≤ m → mark_at v.store (onward l m y) ≡ replaced (around l) (mark_at v.store y)
  marks_next v stage y low high =
      ⊎_elim
      (λ found.
      let k : ℕ = found.0 in
      let a : 1 ≤ k = found.1 in
      let b : k ≤ l = found.2 in
      let here : spot k ≡ y = found.3 in
      let c = around_inside l k a b in
      let there : spot (around l k) ≡ onward l m y = spot_next k a b ∙ ap (onward l m) here in
      ap (mark_at v.store) (sym there)
      ∙ stage.wrote (around l k) c.0 c.1
      ∙ ap (λ z. mark_after (want (around l k)) (mark_at w.store z)) there
      ∙ ap (mark_after (want (around l k))) (in_step.marks y low high)
      ∙ ap (λ z. mark_after z (replaced (around l) (mark_at w.store y))) (aim_next R S l n m B ring w in_step r may k a b)
      ∙ after_replaced (around l) (ring_permutes l n m ring) m (want k) (mark_at w.store y) (proper_aim R S l n m B ring w in_step r may k a b) (in_step.sound.lawful_marks y)
      ∙ ap (replaced (around l)) (ap (λ z. mark_after (want k) (mark_at w.store z)) (sym here) ∙ sym (stage.wrote k a b) ∙ ap (mark_at v.store) here))
      (λ none.
      stage.untouched (onward l m y) (onward_inside l m ring.some ring.two ring.parts y).0 (no_spot none)
      ∙ in_step.marks y low high
      ∙ ap (replaced (around l)) (sym (stage.untouched y low none)))
      (find_number spot l y)
    where
      no_spot : ((k : ℕ) → 1 ≤ k → k ≤ l → spot k ≡ y → ⊥) → (k : ℕ) → 1 ≤ k → k ≤ l → spot k ≡ onward l m y → ⊥
      no_spot none k a b same =
          let from = around_from l k a b in
          let j : ℕ = from.0 in
          let c : 1 ≤ j = from.1 in
          let d : j ≤ l = from.2 in
          let e : around l j ≡ k = from.3 in
          let f = spot_inside j c d in
          none j c d (onward_apart l m ring.some ring.two ring.parts (spot j) y f.0 f.1 low high (sym (spot_next j c d) ∙ ap spot e ∙ same))

  -- a round that each of them may do leaves them in step
  pub round_done : InStep R S l n m (in_turn (λ v k. moved R v (given r k)) w l)
  round_done = let v : World P = after_first l in let stage = stages l (omega arith) in record {
    sound = stage.sound;
    agents = stage.agents;
    cells = stage.cells;
    standoff = stage.standoff;
    tables = λ k x a b c d. stage.tables k x ∙ in_step.tables k x a b c d;
    records = λ k a b.
        let c = around_inside l k a b in
        stage.gone (around l k) c.0 c.1 ∙ outcome_next R S l n m B ring w in_step r may k a b ∙ ap (replaced_agent (around l)) (sym (stage.gone k a b));
    marks = marks_next v stage;
    rest = λ k a b. subst Idles (sym (stage.still k a)) (in_step.rest k a b);
  }
