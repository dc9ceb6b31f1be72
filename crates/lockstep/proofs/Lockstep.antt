-- On a stand-off the agents that move together are always in the same section, whatever is called, under every lawful rule. Assumes nothing.
use Rattle.std.proofs.Common.{◌≡◌, ℕ, zero, suc, ◌+◌, ◌<◌, ◌≤◌, false, cond, not, eqb, leb, List, [], ◌∷◌, is_some, Some, None, Ok, Err, Option, sym, refl, ap, ◌∙◌, subst, arith}
use Prim.Native.Nat.{◌∣◌}
use Rattle.std.proofs.lemmas.Bool.{cond-true, le-leb, ne_eqb}
use Rattle.numbers.specs.Factors.{smallest_common_factor}
use Rattle.numbers.specs.First.{first_of}
use Rattle.numbers.specs.Rows.{within}
use Rattle.numbers.proofs.FirstLaws.{first_tells_none}
use Rattle.numbers.proofs.NameLaws.{length_listed, getD_listed, named_listed}
use Rattle.refusal.specs.Checks.{◌then◌, Check, refuse_if}
use Rattle.refusal.specs.declared.Refusal.{Refusal}
use Rattle.refusal.specs.declared.Refusal.TheVariants.{NotBlank, OnStandoff, StandoffAgents, StandoffCells, NoCommonFactor, HeardAll}
use Rattle.cells.specs.Marks.{mark_at}
use Rattle.cells.specs.declared.mark.Mark.{Mark}
use Rattle.cells.specs.declared.mark.Mark.TheVariants.{Empty}
use Rattle.rules.specs.Records.{loaded_agent}
use Rattle.rules.specs.Lawful.{Idles, replaced, replaced_agent}
use Rattle.plan.specs.Checks.{decoded}
use Rattle.plan.specs.declared.event.Event.{Event}
use Rattle.model.specs.Meanings.{Meaning}
use Rattle.model.specs.Rigs.{World, after_check, agent_of, agent_check, section_at, section_check, heard_at_most, moved, turned_away, after}
use Rattle.model.specs.Loads.{turned, empty_check, blank_world, standoff_seat, standoff_world, load_answer, standoff_answer, plan_answer, filled, filled_standoff, after_load, after_standoff}
use Rattle.model.specs.Rounds.{given, in_turn, moving, may_not, refusal_of, all_may, round_hearing, after_round}
use Rattle.model.specs.Calls.{Call, load, load_standoff, event, round, ask_section, ask_figures, ask_holder, ask_cell, after_call, play}
use Rattle.model.specs.declared.Round.{Round}
use Rattle.model.specs.declared.Round.TheVariants.{Request, Step, Leave}
use Rattle.runs.proofs.Views.{agent_in, agent_at, table_in, table_at}
use Rattle.runs.proofs.Lawfulness.{Steady, Blind}
use Rattle.runs.proofs.Keeping.{Sound, effect_sound, turned_effect}
use Rattle.runs.proofs.Freshness.{Stands, standing_fresh}
use Rattle.lockstep.proofs.Turning.{around, around_inside, onward}
use Rattle.lockstep.proofs.RoundEffects.{Allowed, allowed_from, away_records, away_store}
use Rattle.lockstep.proofs.InStep.{Ring, InStep, same_section}
use Rattle.lockstep.proofs.Stages.{round_done}

-- what holds whichever way a check goes
either : {A : Type 0} (I : A → Type 0) (c : Check) (x y : A) → (c ≡ Ok tt → I x) → I y → I (after_check c x y)
either I (Ok u) x y f g = f refl
either I (Err e) x y f g = g

-- a check that refuses
refused : {A : Type 0} (I : A → Type 0) (c : Check) (x y : A) (e : Refusal) → c ≡ Err e → I y → I (after_check c x y)
refused I c x y e is here = subst (λ d. I (after_check d x y)) (sym is) here

then_refused : {A : Type 0} (I : A → Type 0) (b c : Check) (x y : A) → (e : Refusal) → c ≡ Err e → I y → I (after_check (b then c) x y)
then_refused I (Ok u) c x y e is here = refused I c x y e is here
then_refused I (Err d) c x y e is here = here

given_for : (r : Round) (k : ℕ) → agent_of (given r k) ≡ k
given_for Request k = refl
given_for Step k = refl
given_for Leave k = refl

-- where no agent is found that may not, all may
none_found : (o : Option ℕ) (e : Refusal) → refuse_if (is_some o) e ≡ Ok tt → o ≡ None
none_found None e ok = refl
none_found (Some k) e ok = let z : ◌≡◌ {A = ℕ} 0 1 = cc in absurd (omega arith)

module _ {P : Type 0} (R : Meaning P) (S : Steady R) (l n m : ℕ) (B : Blind R S) (ring : Ring l n m) where
  abbrev Now : World P → Type 0
  Now w = InStep R S l n m w

  all_allowed : (r : Round) (w : World P) → all_may r w.rig l ≡ Ok tt → (k : ℕ) → 1 ≤ k → k ≤ l → Allowed r (agent_at R w k)
  all_allowed r w ok k low high =
      let none = none_found (first_of (may_not r w.rig) 1 l) (refusal_of r) ok in
      allowed_from R r w k (first_tells_none (may_not r w.rig) 1 l (1 + l) refl none k low (omega arith))

  -- a refusal that is counted
  away_one : (r : Round) (k : ℕ) (w : World P) → 1 ≤ k → k ≤ l → Now w → Now (turned_away R w (given r k))
  away_one r k w low high now =
      let e : Event = given r k in
      let v : World P = turned_away R w e in
      let mine = given_for r k in
      let a = ring.few in
      let b = now.agents in
      let effect = turned_effect R S k w e in
      let same : (j : ℕ) → agent_at R v j ≡ agent_at R w j = λ j. away_records R S w e j (omega arith) (omega arith) in
      let store : v.store ≡ w.store = away_store R S w e in
      record {
        sound = effect_sound R S k w v now.sound low (omega arith) effect;
        agents = effect.kept.agents ∙ now.agents;
        cells = effect.kept.cells ∙ now.cells;
        standoff = effect.kept.standoff ∙ now.standoff;
        tables = λ j x c d f g. effect.kept.tables j x ∙ now.tables j x c d f g;
        records = λ j c d. same (around l j) ∙ now.records j c d ∙ ap (replaced_agent (around l)) (sym (same j));
        marks = λ y c d. ap (λ ms. mark_at ms (onward l m y)) store ∙ now.marks y c d ∙ ap (λ ms. replaced (around l) (mark_at ms y)) (sym store);
        rest = λ j c d. subst Idles (sym (same j)) (now.rest j c d);
      }

  away_all : (r : Round) (w : World P) → Now w → (j : ℕ) → j ≤ l → Now (in_turn (λ v k. turned_away R v (given r k)) w j)
  away_all r w now zero high = now
  away_all r w now (suc j) high = away_one r (suc j) _ (omega arith) high (away_all r w now j (omega arith))

  by_round : (r : Round) (w : World P) → Now w → Now (after_round R w r)
  by_round r w now =
      subst
      (λ o. Now (after_check (round_hearing w.rig o)
      (after_check (all_may r w.rig (moving o))
      (in_turn (λ v k. moved R v (given r k)) w (moving o))
      (in_turn (λ v k. turned_away R v (given r k)) w (moving o)))
      w))
      (sym now.standoff)
      (either Now (round_hearing w.rig (Some l)) _ w
      (λ _. either Now (all_may r w.rig l) _ _ (λ ok. round_done R S l n m B ring w now r (all_allowed r w ok)) (away_all r w now l (omega arith)))
      now)

  not_blank : (w : World P) → Now w → eqb w.rig.cells 0 ≡ false
  not_blank w now = let a = ring.some in let b = now.cells in ne_eqb w.rig.cells 0 (λ e. omega arith)

  by_load : (file : List ℕ) (w : World P) → Now w → Now (after_load R w file)
  by_load file w now =
      refused Now (load_answer R w file) (filled R w (decoded R.number file)) w NotBlank
      (ap (λ b. refuse_if (not b) NotBlank then plan_answer R w.store (decoded R.number file)) (not_blank w now)) now

  by_standoff : (p q : ℕ) (w : World P) → Now w → Now (after_standoff R w p q)
  by_standoff p q w now =
      refused Now (standoff_answer R w p q) (filled_standoff R w p q (smallest_common_factor p q)) w NotBlank
      (ap (λ b. refuse_if (not b) NotBlank then refuse_if (not (within 2 16 p)) StandoffAgents then refuse_if (not (within 2 64 q)) StandoffCells then refuse_if (not (is_some (smallest_common_factor p q))) NoCommonFactor then empty_check q w.store) (not_blank w now)) now

  by_event : (e : Event) (w : World P) → Now w → Now (after R w e)
  by_event e w now =
      let heard : Check = refuse_if (leb heard_at_most w.rig.heard) HeardAll in
      then_refused Now (agent_check w.rig (agent_of e)) (refuse_if (is_some w.rig.standoff) OnStandoff then heard)
      (after_check (section_check e (section_at w.rig (agent_of e))) (moved R w e) (turned_away R w e)) w OnStandoff
      (ap (λ o. refuse_if (is_some o) OnStandoff then heard) now.standoff) now

  by_call : (c : Call) (w : World P) → Now w → Now (after_call R w c)
  by_call (load file) w now = by_load file w now
  by_call (load_standoff p q) w now = by_standoff p q w now
  by_call (event e) w now = by_event e w now
  by_call (round r) w now = by_round r w now
  by_call (ask_section k) w now = now
  by_call (ask_figures k) w now = now
  by_call ask_holder w now = now
  by_call (ask_cell y) w now = now

  -- whatever is called, they stay in step
  pub plays_in_step : (cs : List Call) (w : World P) → InStep R S l n m w → InStep R S l n m (play R w cs)
  plays_in_step [] w now = now
  plays_in_step (c ∷ cs) w now = plays_in_step cs (after_call R w c) (by_call c w now)

-- a stand-off as it is loaded is in step

module _ {P : Type 0} (R : Meaning P) (S : Steady R) (l n m : ℕ) (ms : List Mark) where
  abbrev loaded_now : World P
  loaded_now = standoff_world R l n m ms

  loaded_is : (k : ℕ) → 1 ≤ k → k ≤ n → agent_at R loaded_now k ≡ loaded_agent R.loaded k
  loaded_is k low high = ap (agent_in R) (named_listed (standoff_seat R l m) n k low high)

  table_is : (k x : ℕ) → 1 ≤ k → k ≤ l → l ≤ n → 1 ≤ x → x ≤ m → table_at loaded_now k x ≡ turned l m k x
  table_is k x low high few from to =
      ap (λ o. table_in o x) (named_listed (standoff_seat R l m) n k low (omega arith))
      ∙ getD_listed (λ y. cond (leb k l) (turned l m k y) y) m x 0 from to
      ∙ cond-true (leb k l) (turned l m k x) x (le-leb k l high)

  pub loads_in_step : Ring l n m → ((y : ℕ) → mark_at ms y ≡ Empty) → Sound R S loaded_now → InStep R S l n m loaded_now
  loads_in_step ring empty sound = let few = ring.few in record {
    sound = sound;
    agents = length_listed (standoff_seat R l m) n;
    cells = refl;
    standoff = refl;
    tables = λ k x a b c d. table_is k x a b few c d;
    records = λ k a b.
        let v = around_inside l k a b in
        loaded_is (around l k) v.0 (omega arith) ∙ ap (replaced_agent (around l)) (sym (loaded_is k a (omega arith)));
    marks = λ y a b. empty (onward l m y) ∙ ap (replaced (around l)) (sym (empty y));
    rest = λ k a b. ap (λ c. c.section) (loaded_is k (omega arith) b);
  }

-- the agents 1 to l are all in the same section, and every other agent is idle
pub record Together {P : Type 0} (R : Meaning P) (l n : ℕ) (w : World P) : Type 0 where
  pub same : (j k : ℕ) → 1 ≤ j → j ≤ l → 1 ≤ k → k ≤ l → (agent_at R w j).section ≡ (agent_at R w k).section
  pub idle : (k : ℕ) → l < k → k ≤ n → Idles (agent_at R w k)

module _ {P : Type 0} (R : Meaning P) (S : Steady R) (B : Blind R S) where
  pub together : (l n m : ℕ) → Ring l n m → (w : World P) → InStep R S l n m w → Together R l n w
  together l n m ring w now = record {
    same = λ j k a b c d. same_section R S l n m B ring w now j a b ∙ sym (same_section R S l n m B ring w now k c d);
    idle = now.rest;
  }

  -- whatever is called after a stand-off is loaded
  pub lockstep : (l n m : ℕ) → 2 ≤ l → l ≤ n → n ≤ 16 → 1 ≤ m → l ∣ m → (ms : List Mark) → ((y : ℕ) → mark_at ms y ≡ Empty) → Sound R S (standoff_world R l n m ms) → (cs : List Call) → Together R l n (play R (standoff_world R l n m ms) cs)
  lockstep l n m two few most some parts ms empty sound cs =
      let ring : Ring l n m = record { two = two; few = few; most = most; some = some; parts = parts } in
      together l n m ring (play R (standoff_world R l n m ms) cs) (plays_in_step R S l n m B ring cs (standoff_world R l n m ms) (loads_in_step R S l n m ms ring empty sound))

  -- whatever is called after a stand-off load that was accepted
  pub lockstep_loaded : (l n m : ℕ) (ms : List Mark) → Stands R S ms n m l → (cs : List Call) → Together R l n (play R (after_standoff R (blank_world P ms) n m) cs)
  lockstep_loaded l n m ms h cs =
      let fresh = standing_fresh R S ms n m l h in
      let sized = fresh.sound.sized in
      subst (λ v. Together R l n (play R v cs)) (sym h.world)
      (lockstep l n m h.factor.from_two h.factor.up_to h.agents_good.1 sized.cells_low h.factor.divides ms h.empty fresh.sound cs)
