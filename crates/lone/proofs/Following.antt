-- A world in which one agent alone moves goes as its scene goes. Assumes nothing.
use Rattle.std.proofs.Common.{◌≡◌, ℕ, zero, suc, ◌+◌, ◌-◌, ◌<◌, ◌≤◌, cond, not, leb, List, length, set, replicate, is_some, is_ok, Some, None, Ok, sym, refl, ap, ◌∙◌, subst, subst₂, ⊎_elim, arith}
use Rattle.std.proofs.lemmas.List.{length-set, get_or-set_same, get_or-set_other}
use Rattle.std.proofs.lemmas.Bool.{cases_Bool, cases_order, lt-leb, cond-true, cond-false}
use Rattle.numbers.specs.Names.{named, listed}
use Rattle.numbers.specs.Rows.{Distinct}
use Rattle.numbers.proofs.NameLaws.{getD_listed, listed_same, listed_set}
use Rattle.numbers.proofs.RowLaws.{distinct_same, within_from}
use Rattle.refusal.specs.Checks.{◌then◌, refuse_if}
use Rattle.refusal.specs.declared.Refusal.TheVariants.{NoSuchAgent, NotIdle, AtRest, HeardAll, OnStandoff}
use Rattle.plan.specs.declared.event.Event.{Event}
use Rattle.plan.specs.declared.event.Event.TheVariants.{Request, Step}
use Rattle.cells.specs.Marks.{same_mark, mark_at, put, says_yes}
use Rattle.cells.specs.declared.mark.Mark.{Mark}
use Rattle.cells.specs.declared.mark.Mark.TheVariants.{Empty}
use Rattle.rules.specs.Records.{marks, cell, went}
use Rattle.rules.specs.Lawful.{Proper, Name}
use Rattle.rules.specs.declared.agent.Section.TheVariants.{Idle}
use Rattle.rules.specs.declared.want.Want.{Want}
use Rattle.rules.specs.declared.want.Want.TheVariants.{Look, Read, Write, Swap}
use Rattle.model.specs.Meanings.{Meaning}
use Rattle.model.specs.Rigs.{Seat, World, entry, served, store_after, wanted, serving_check, with_agent, stepped, at_seat, after_check, agent_of, agent_check, hearing_check, section_check, section_at, section_answer, is_idle, is_at_rest, heard_at_most, done_by, moved, turned_away, after, run}
use Rattle.runs.proofs.Views.{agent_in, agent_at, table_in, table_at, met_at, named_find}
use Rattle.runs.proofs.Effects.{granted, write_granted, swap_granted, agent_seated, kept_seated}
use Rattle.runs.proofs.Keeping.{section_view}
use Rattle.lone.proofs.Scenes.{Scene, answered, changed, turn, turns, Ready}

-- the mark at each of the agent's names after a write at one of them
written : (ms : List Mark) (m : ℕ) (row : ℕ → ℕ) (x : ℕ) (c : Mark) → length ms ≡ m → Distinct row m m → Name m x → listed (λ z. mark_at (put ms (row x) c) (row z)) m ≡ put (listed (λ z. mark_at ms (row z)) m) x c
written ms m row x c room apart name =
    let at = apart.inside x name.0 name.1 in
    listed_set (λ z. mark_at ms (row z)) (λ z. mark_at (put ms (row x) c) (row z)) m x c name.0 name.1
    (get_or-set_same ms (row x - 1) c Empty (omega (arith, at.0, at.1)))
    (λ z a b other.
    let there = apart.inside z a b in
    get_or-set_other ms (row x - 1) (row z - 1) c Empty
    (λ e.
    let same : row z ≡ row x = omega (arith, at.0, there.0) in
    ⊎_elim other (⊎_elim (λ less. apart.apart z x a less name.1 same) (λ more. apart.apart x z name.0 more b (sym same))) (cases_order z x)))

module _ {P : Type 0} (R : Meaning P) (k : ℕ) where
  abbrev pub scene_of : World P → Scene P
  scene_of v = record { agent = agent_at R v k; met = listed (met_at v k) v.rig.cells }

  -- a rig that hears agent k
  pub record Hears (v : World P) : Type 0 where
    pub low : 1 ≤ k
    pub high : k ≤ length v.rig.seats
    pub standoff : v.rig.standoff ≡ None
    pub heard : v.rig.heard < heard_at_most
    pub room : length v.store ≡ v.rig.cells
    pub table : Distinct (table_at v k) v.rig.cells v.rig.cells

  agent_there : (v : World P) → Hears v → agent_check v.rig k ≡ Ok tt
  agent_there v h = ap (λ t. refuse_if (not t) (NoSuchAgent k)) (within_from 1 (length v.rig.seats) k h.low h.high)

  hears : (v : World P) → Hears v → hearing_check v.rig k ≡ Ok tt
  hears v h =
      ap (λ c. c then refuse_if (is_some v.rig.standoff) OnStandoff then refuse_if (leb heard_at_most v.rig.heard) HeardAll) (agent_there v h)
      ∙ ap (λ o. refuse_if (is_some o) OnStandoff then refuse_if (leb heard_at_most v.rig.heard) HeardAll) h.standoff
      ∙ ap (λ b. refuse_if b HeardAll) (lt-leb heard_at_most v.rig.heard h.heard)

  -- its section
  section_is : (v : World P) → section_at v.rig k ≡ (agent_at R v k).section
  section_is v = section_view R (named v.rig.seats k)

  pub section_told : (v : World P) → Hears v → section_answer v.rig k ≡ Ok (agent_at R v k).section
  section_told v h = ap (λ c. c then Ok (section_at v.rig k)) (agent_there v h) ∙ ap Ok (section_is v)

  -- what a call of agent k leaves
  pub record Goes (v u : World P) (e : Scene P) : Type 0 where
    pub agents : length u.rig.seats ≡ length v.rig.seats
    pub cells : u.rig.cells ≡ v.rig.cells
    pub standoff : u.rig.standoff ≡ None
    pub heard : u.rig.heard ≡ v.rig.heard + 1
    pub room : length u.store ≡ u.rig.cells
    pub table : Distinct (table_at u k) u.rig.cells u.rig.cells
    pub scene : scene_of u ≡ e

  module _ (v : World P) (h : Hears v) (s : Seat P) (there : named v.rig.seats k ≡ Some s) where
    abbrev n : ℕ
    n = length v.rig.seats

    abbrev m : ℕ
    m = v.rig.cells

    abbrev ms : List Mark
    ms = v.store

    abbrev all : List Mark
    all = listed (met_at v k) m

    same_agent : agent_at R v k ≡ s.agent
    same_agent = ap (agent_in R) there

    through : (x : ℕ) → entry s x ≡ table_at v k x
    through x = sym (ap (λ o. table_in o x) there)

    entry_there : (x : ℕ) → Name m x → (1 ≤ entry s x) × (entry s x ≤ length ms)
    entry_there x name =
        let p = h.table.inside x name.0 name.1 in
        let same = through x in
        let room = h.room in
        (omega (arith, p.0), omega (arith, p.1))

    met_there : (x : ℕ) → Name m x → mark_at ms (entry s x) ≡ mark_at all x
    met_there x name = ap (mark_at ms) (through x) ∙ sym (getD_listed (met_at v k) m x Empty name.0 name.1)

    -- what the store answers
    reply_same : (q : Want) → Proper m q → served m ms s q ≡ answered all q
    reply_same Look proper = λ i. marks (listed (λ x. mark_at ms (through x i)) m)
    reply_same (Read x) proper = ap cell (met_there x proper)
    reply_same (Write x c) proper = refl
    reply_same (Swap x old new) proper =
        let p = entry_there x proper.0 in
        ap (λ a. went (says_yes a)) (swap_granted ms (entry s x) old new p.0 p.1 proper.1 proper.2)
        ∙ ap (λ c. went (same_mark c old)) (met_there x proper.0)

    -- what the store is afterwards, by the agent's names
    abbrev seen_through : List Mark → List Mark
    seen_through l = listed (λ x. mark_at l (table_at v k x)) m

    put_same : (x : ℕ) (c : Mark) → Name m x → seen_through (put ms (entry s x) c) ≡ put all x c
    put_same x c name = ap (λ y. seen_through (put ms y c)) (through x) ∙ written ms m (table_at v k) x c h.room h.table name

    store_same : (q : Want) → Proper m q → (length (store_after ms s q) ≡ m) × (seen_through (store_after ms s q) ≡ changed all q)
    store_same Look proper = (h.room, refl)
    store_same (Read x) proper = (h.room, refl)
    store_same (Write x c) proper =
        let p = entry_there x proper.0 in
        let now : store_after ms s (Write x c) ≡ put ms (entry s x) c = ap (λ a. cond (is_ok a) (put ms (entry s x) c) ms) (write_granted ms (entry s x) c p.0 p.1 proper.1) in
        (ap length now ∙ length-set ms (entry s x - 1) c ∙ h.room, ap seen_through now ∙ put_same x c proper.0)
    store_same (Swap x old new) proper =
        let p = entry_there x proper.0 in
        let ok = ap says_yes (swap_granted ms (entry s x) old new p.0 p.1 proper.1 proper.2) ∙ ap (λ c. same_mark c old) (met_there x proper.0) in
        let b = same_mark (mark_at all x) old in
        let now : store_after ms s (Swap x old new) ≡ cond b (put ms (entry s x) new) ms = ap (λ a. cond a (put ms (entry s x) new) ms) ok in
        let Good : List Mark → Type 0 = λ l. (length l ≡ m) × (seen_through l ≡ cond b (put all x new) all) in
        subst Good (sym now)
        (⊎_elim
        (λ t. subst Good (sym (cond-true b _ _ t)) (length-set ms (entry s x - 1) new ∙ h.room, put_same x new proper.0 ∙ sym (cond-true b _ _ t)))
        (λ f. subst Good (sym (cond-false b _ _ f)) (h.room, sym (cond-false b _ _ f)))
        (cases_Bool b))

    -- a world with another seat for agent k
    seated_goes : (u : World P) (t : Seat P) (e : Scene P) → u.rig.seats ≡ set v.rig.seats (k - 1) t → t.table ≡ s.table → u.rig.cells ≡ m → u.rig.standoff ≡ v.rig.standoff → u.rig.heard ≡ v.rig.heard + 1 → length u.store ≡ m → t.agent ≡ e.agent → seen_through u.store ≡ e.met → Goes v u e
    seated_goes u t e seats table cells standoff heard room agent met =
        let kept = kept_seated R k v u s t there seats table cells standoff in
        let is : agent_at R u k ≡ e.agent = agent_seated R k v u s t there seats ∙ agent in
        let all_met : listed (met_at u k) u.rig.cells ≡ e.met = ap (listed (met_at u k)) cells ∙ listed_same (met_at u k) (λ x. mark_at u.store (table_at v k x)) m (λ x a b. ap (mark_at u.store) (kept.tables k x)) ∙ met in
        record {
          agents = kept.agents;
          cells = cells;
          standoff = standoff ∙ h.standoff;
          heard = heard;
          room = room ∙ sym cells;
          table = subst (λ c. Distinct (table_at u k) c c) (sym cells) (distinct_same (table_at v k) (table_at u k) m m (λ x a b. sym (kept.tables k x)) h.table);
          scene = λ i. record { agent = is i; met = all_met i };
        }

    step_goes : Proper m (R.wants n m (agent_at R v k)) → Goes v (done_by R v (Step k) s) (turn R n m (scene_of v))
    step_goes proper =
        let proper_there = subst (λ a. Proper m (R.wants n m a)) same_agent proper in
        let q = R.wants n m s.agent in
        let store = store_same q proper_there in
        seated_goes (done_by R v (Step k) s) (stepped s (R.becomes n m s.agent (served m ms s q))) (turn R n m (scene_of v)) refl refl refl refl refl store.0
        (ap (R.becomes n m s.agent) (reply_same q proper_there) ∙ ap (λ a. R.becomes n m a (answered all (R.wants n m a))) (sym same_agent))
        (store.1 ∙ ap (λ a. changed all (R.wants n m a)) (sym same_agent))

    request_goes : Goes v (done_by R v (Request k) s) (record { agent = R.asked n m (agent_at R v k); met = all })
    request_goes =
        seated_goes (done_by R v (Request k) s) (with_agent s (R.asked n m s.agent)) (record { agent = R.asked n m (agent_at R v k); met = all }) refl refl refl refl refl h.room
        (ap (R.asked n m) (sym same_agent))
        refl

    store_grants : Proper m (R.wants n m (agent_at R v k)) → serving_check R v (Step k) s ≡ Ok tt
    store_grants proper = granted R k v s there h.room h.table (wanted R v.rig s) (subst (λ a. Proper m (R.wants n m a)) same_agent proper)

  -- a call that passes the checks
  moves : (v : World P) (e : Event) → hearing_check v.rig (agent_of e) ≡ Ok tt → section_check e (section_at v.rig (agent_of e)) ≡ Ok tt → after R v e ≡ moved R v e
  moves v e heard section =
      ap (λ c. after_check c (after_check (section_check e (section_at v.rig (agent_of e))) (moved R v e) (turned_away R v e)) v) heard
      ∙ ap (λ c. after_check c (moved R v e) (turned_away R v e)) section

  pub after_step : (v : World P) → Hears v → Ready R (length v.rig.seats) v.rig.cells (scene_of v) → Goes v (after R v (Step k)) (turn R (length v.rig.seats) v.rig.cells (scene_of v))
  after_step v h ready =
      let (s, there) = named_find v.rig.seats k h.low h.high in
      let section : section_check (Step k) (section_at v.rig k) ≡ Ok tt = ap (λ c. refuse_if (is_at_rest c) (AtRest k)) (section_is v ∙ ready.asks) in
      let here : moved R v (Step k) ≡ done_by R v (Step k) s =
      ap (λ o. at_seat o (λ s. after_check (serving_check R v (Step k) s) (done_by R v (Step k) s) v) v) there ∙ ap (λ c. after_check c (done_by R v (Step k) s) v) (store_grants v h s there ready.proper)
      in
      subst (λ u. Goes v u (turn R (length v.rig.seats) v.rig.cells (scene_of v))) (sym (moves v (Step k) (hears v h) section ∙ here)) (step_goes v h s there ready.proper)

  pub after_request : (v : World P) → Hears v → (agent_at R v k).section ≡ Idle → Goes v (after R v (Request k)) (record { agent = R.asked (length v.rig.seats) v.rig.cells (agent_at R v k); met = listed (met_at v k) v.rig.cells })
  after_request v h idle =
      let (s, there) = named_find v.rig.seats k h.low h.high in
      let section : section_check (Request k) (section_at v.rig k) ≡ Ok tt = ap (λ c. refuse_if (not (is_idle c)) (NotIdle k)) (section_is v ∙ idle) in
      let here : moved R v (Request k) ≡ done_by R v (Request k) s = ap (λ o. at_seat o (λ s. done_by R v (Request k) s) v) there in
      subst (λ u. Goes v u (record { agent = R.asked (length v.rig.seats) v.rig.cells (agent_at R v k); met = listed (met_at v k) v.rig.cells })) (sym (moves v (Request k) (hears v h) section ∙ here)) (request_goes v h s there)

  -- after a call, with h calls heard, the agent is in scene e
  pub record At (n m h : ℕ) (e : Scene P) (v : World P) : Type 0 where
    pub agents : length v.rig.seats ≡ n
    pub cells : v.rig.cells ≡ m
    pub standoff : v.rig.standoff ≡ None
    pub heard : v.rig.heard ≡ h
    pub room : length v.store ≡ v.rig.cells
    pub table : Distinct (table_at v k) v.rig.cells v.rig.cells
    pub scene : scene_of v ≡ e

  module _ (n m : ℕ) (low : 1 ≤ k) (high : k ≤ n) where
    pub at_hears : (h : ℕ) (e : Scene P) (v : World P) → h < heard_at_most → At n m h e v → Hears v
    at_hears h e v less at = record {
      low = low;
      high = subst (λ l. k ≤ l) (sym at.agents) high;
      standoff = at.standoff;
      heard = subst (λ l. l < heard_at_most) (sym at.heard) less;
      room = at.room;
      table = at.table;
    }

    pub at_goes : (h : ℕ) (e d : Scene P) (v u : World P) → At n m h e v → Goes v u d → At n m (h + 1) d u
    at_goes h e d v u at goes = record {
      agents = goes.agents ∙ at.agents;
      cells = goes.cells ∙ at.cells;
      standoff = goes.standoff;
      heard = goes.heard ∙ ap (λ x. x + 1) at.heard;
      room = goes.room;
      table = goes.table;
      scene = goes.scene;
    }

    at_step : (h : ℕ) (e : Scene P) (v : World P) → h < heard_at_most → At n m h e v → Ready R n m e → At n m (h + 1) (turn R n m e) (after R v (Step k))
    at_step h e v less at ready =
        let there : Ready R (length v.rig.seats) v.rig.cells (scene_of v) =
        subst₂ (λ l c. Ready R l c (scene_of v)) (sym at.agents) (sym at.cells) (subst (Ready R n m) (sym at.scene) ready)
        in
        let same : turn R (length v.rig.seats) v.rig.cells (scene_of v) ≡ turn R n m e = λ i. turn R (at.agents i) (at.cells i) (at.scene i) in
        subst (λ d. At n m (h + 1) d (after R v (Step k))) same (at_goes h e _ v _ at (after_step v (at_hears h e v less at) there))

    -- t steps, by an agent that is ready for each of them
    pub follows : (t h : ℕ) (e : Scene P) (v : World P) → h + t ≤ heard_at_most → At n m h e v → ((u : ℕ) → u < t → Ready R n m (turns R n m u e)) → At n m (h + t) (turns R n m t e) (run R v (replicate t (Step k)))
    follows zero h e v fits at ready = let same : h ≡ h + 0 = omega arith in subst (λ x. At n m x e v) same at
    follows (suc t) h e v fits at ready =
        let same : h + 1 + t ≡ h + suc t = omega arith in
        subst (λ x. At n m x (turns R n m t (turn R n m e)) (run R (after R v (Step k)) (replicate t (Step k)))) same
        (follows t (h + 1) (turn R n m e) (after R v (Step k)) (omega arith) (at_step h e v (omega arith) at (ready 0 (omega arith))) (λ u less. ready (suc u) (omega arith)))
