-- What every call keeps, under every lawful rule, and what holds of a freshly loaded rig. Assumes nothing.
use Rattle.std.proofs.Common.{◌≡◌, ℕ, zero, suc, ◌+◌, ◌-◌, ◌<◌, ◌≤◌, Bool, true, false, not, leb, ◌⊎◌, List, [], ◌∷◌, length, get_or, is_some, is_ok, Some, None, Ok, Err, Option, sym, refl, ap, ◌∙◌, subst, subst₂, inl, inr, ⊎_elim, arith}
use Rattle.std.proofs.lemmas.List.{length-set, get_or_past}
use Rattle.std.proofs.lemmas.Bool.{cases_eq, cases_lt, not-false, true≢false, false≢true, ne_eqb}
use Rattle.numbers.specs.Names.{named, listed}
use Rattle.numbers.specs.Rows.{Distinct, within}
use Rattle.numbers.specs.Factors.{smallest_common_factor}
use Rattle.numbers.proofs.FirstLaws.{first_tells_none}
use Rattle.numbers.proofs.NameLaws.{length_listed, getD_listed}
use Rattle.numbers.proofs.RowLaws.{distinct_same, within_true}
use Rattle.refusal.specs.Checks.{◌then◌, Check, refuse_if}
use Rattle.refusal.specs.declared.Refusal.{Refusal}
use Rattle.refusal.specs.declared.Refusal.TheVariants.{OnStandoff, HeardAll, NotBlank, StandoffAgents, StandoffCells, NoCommonFactor}
use Rattle.refusal.proofs.CheckLaws.{ok_then}
use Rattle.plan.specs.Checks.{decoded}
use Rattle.cells.specs.Marks.{lawful, mark_at, put}
use Rattle.cells.specs.declared.mark.Mark.{Mark}
use Rattle.cells.specs.declared.mark.Mark.TheVariants.{Empty}
use Rattle.rules.specs.Records.{Reply, marks, loaded_agent}
use Rattle.rules.specs.Lawful.{Sized, AllLawful, Idles, Holds, Moves, Fits}
use Rattle.rules.specs.declared.want.Want.{Want}
use Rattle.rules.specs.declared.want.Want.TheVariants.{Look, Read, Write, Swap}
use Rattle.rules.proofs.ReplaceLaws.{lawful_set, from_index}
use Rattle.rules.specs.declared.agent.Agent.{Agent}
use Rattle.rules.specs.declared.agent.Section.{Section}
use Rattle.rules.specs.declared.agent.Section.TheVariants.{Idle, Asking, Holding, Leaving}
use Rattle.plan.specs.declared.event.Event.{Event}
use Rattle.plan.specs.declared.event.Event.TheVariants.{Request, Step, Leave}
use Rattle.model.specs.Meanings.{Meaning}
use Rattle.model.specs.Rigs.{Seat, Rig, World, moved, turned_away, after, done_by, with_agent, stepped as stepped-seat, served, wanted, serving_check, after_check, at_seat, agent_of, heard_once, seated, refused_once, is_idle, is_holding, is_at_rest, section_in, section_at, section_check, agent_check, hearing_check, heard_at_most}
use Rattle.model.specs.Loads.{is_blank, empty_check, plan_answer, filled, filled_standoff}
use Rattle.model.specs.Rounds.{given, may_not, all_may, round_hearing, moving, in_turn, after_round}
use Rattle.model.specs.declared.Round.{Round}
use Rattle.model.specs.declared.Round.TheVariants as round
use Rattle.model.specs.Calls.{Call, load, load_standoff, event, round, ask_section, ask_figures, ask_holder, ask_cell, after_call, play}
use Rattle.runs.proofs.Views.{agent_in, agent_at, table_at, met_at, named_find}
use Rattle.runs.proofs.Lawfulness.{Steady}
use Rattle.runs.proofs.Effects.{Change, stays, asks, leaves, looks, reads, writes, swaps, misses, Effect, agent_before, agent_seated, kept_seated, granted, step_change}

-- how many agents act: all, or on a stand-off those that move together
abbrev pub acting_in : Option ℕ → ℕ → ℕ
acting_in None n = n
acting_in (Some l) n = l

abbrev pub acting : {P : Type 0} → World P → ℕ
acting w = acting_in w.rig.standoff (length w.rig.seats)

-- what checks tell

pub after_both : {A : Type 0} (c : Check) (x y : A) (Q : A → Type 0) → (c ≡ Ok tt → Q x) → ((e : Refusal) → c ≡ Err e → Q y) → Q (after_check c x y)
after_both (Ok u) x y Q f g = f refl
after_both (Err e) x y Q f g = g e refl

pub passed : (b : Bool) (e : Refusal) → refuse_if b e ≡ Ok tt → b ≡ false
passed true e is = absurd (false≢true (ap is_ok is))
passed false e is = refl

idle_told : (s : Section) → is_idle s ≡ true → s ≡ Idle
idle_told Idle e = refl
idle_told Asking e = absurd (false≢true e)
idle_told Holding e = absurd (false≢true e)
idle_told Leaving e = absurd (false≢true e)

holding_told : (s : Section) → is_holding s ≡ true → s ≡ Holding
holding_told Idle e = absurd (false≢true e)
holding_told Asking e = absurd (false≢true e)
holding_told Holding e = refl
holding_told Leaving e = absurd (false≢true e)

pub moving_told : (s : Section) → is_at_rest s ≡ false → (s ≡ Asking) ⊎ (s ≡ Leaving)
moving_told Idle e = absurd (true≢false e)
moving_told Asking e = inl refl
moving_told Holding e = absurd (true≢false e)
moving_told Leaving e = inr refl

pub none_told : {A : Type 0} (o : Option A) → is_some o ≡ false → o ≡ None
none_told None e = refl
none_told (Some x) e = absurd (true≢false e)

module _ {P : Type 0} where
  pub section_view : (R : Meaning P) (o : Option (Seat P)) → section_in o ≡ (agent_in R o).section
  section_view R None = refl
  section_view R (Some s) = refl

  pub there_told : (g : Rig P) (k : ℕ) → agent_check g k ≡ Ok tt → (1 ≤ k) × (k ≤ length g.seats)
  there_told g k ok = within_true 1 (length g.seats) k (not-false _ (passed _ _ ok))

  hearing_told : (g : Rig P) (k : ℕ) → hearing_check g k ≡ Ok tt → (1 ≤ k) × (k ≤ length g.seats) × (g.standoff ≡ None)
  hearing_told g k ok =
      let p = ok_then (agent_check g k) (refuse_if (is_some g.standoff) OnStandoff then refuse_if (leb heard_at_most g.heard) HeardAll) tt (sym ok) in
      let q = ok_then (refuse_if (is_some g.standoff) OnStandoff) (refuse_if (leb heard_at_most g.heard) HeardAll) tt p.1 in
      let r = there_told g k p.0 in
      (r.0, r.1, none_told g.standoff (passed _ _ q.0))

  standing_told : (g : Rig P) (o : Option ℕ) (n : ℕ) → round_hearing g o ≡ Ok tt → acting_in o n ≡ moving o
  standing_told g None n ok = absurd (false≢true (ap is_ok ok))
  standing_told g (Some l) n ok = refl

  may_told : (r : Round) (g : Rig P) (l : ℕ) → all_may r g l ≡ Ok tt → (k : ℕ) → 1 ≤ k → k ≤ l → section_check (given r k) (section_at g k) ≡ Ok tt
  may_told r g l ok k low high =
      go (section_check (given r k) (section_at g k)) (first_tells_none (may_not r g) 1 l (1 + l) refl (none_told _ (passed _ _ ok)) k low (omega arith))
    where
      go : (c : Check) → after_check c false true ≡ false → c ≡ Ok tt
      go (Ok u) e = refl
      go (Err d) e = absurd (true≢false e)

-- marks that are all lawful make a lawful list
pub lawful_listed : (f : ℕ → Mark) (m : ℕ) → ((x : ℕ) → lawful (f x) ≡ true) → AllLawful (listed f m)
lawful_listed f m good =
    from_index (listed f m)
    (λ i.
    ⊎_elim
    (λ less. let back : i + 1 - 1 ≡ i = omega arith in subst (λ k. lawful k ≡ true) (sym (ap (λ j. get_or (listed f m) j Empty) (sym back) ∙ getD_listed f m (i + 1) Empty (omega arith) (omega arith))) (good (i + 1)))
    (λ past. let long = length_listed f m in subst (λ k. lawful k ≡ true) (sym (get_or_past (listed f m) i Empty (omega arith))) refl)
    (cases_lt i m))

module _ {P : Type 0} (R : Meaning P) (S : Steady R) where
  -- what every call keeps
  pub record Sound (w : World P) : Type 0 where
    pub sized : Sized (length w.rig.seats) w.rig.cells
    pub room : length w.store ≡ w.rig.cells
    pub lawful_marks : AllLawful w.store
    pub reached : (k : ℕ) → 1 ≤ k → k ≤ length w.rig.seats → S.reachable (length w.rig.seats) w.rig.cells (agent_at R w k)
    pub tables : (k : ℕ) → 1 ≤ k → k ≤ length w.rig.seats → Distinct (table_at w k) w.rig.cells w.rig.cells
    pub identities : Distinct (λ k. (agent_at R w k).identity) 65535 (length w.rig.seats)
    pub few : acting w ≤ length w.rig.seats

  -- freshly loaded: every agent is as it was loaded, every cell is empty, and no more agents act than there are cells
  pub record Fresh (w : World P) : Type 0 where
    pub sound : Sound w
    pub loaded : (k : ℕ) → agent_at R w k ≡ loaded_agent R.loaded (agent_at R w k).identity
    pub empty : (y : ℕ) → mark_at w.store y ≡ Empty
    pub coped : acting w ≤ w.rig.cells

  module _ (k : ℕ) (w v : World P) (sound : Sound w) (low : 1 ≤ k) (high : k ≤ length w.rig.seats) where
    abbrev n : ℕ
    n = length w.rig.seats

    abbrev m : ℕ
    m = w.rig.cells

    abbrev was : Agent P
    was = agent_at R w k

    met_lawful : (x : ℕ) → lawful (met_at w k x) ≡ true
    met_lawful x = sound.lawful_marks (table_at w k x)

    -- every answer of the store fits the want
    look_fits : Fits m Look (marks (listed (met_at w k) m))
    look_fits = (length_listed (met_at w k) m, lawful_listed (met_at w k) m met_lawful)

    stepped : (q : Want) (r : Reply) → Moves was → R.wants n m was ≡ q → Fits m q r → S.reachable n m (R.becomes n m was r)
    stepped q r moves is fits = S.steps n m was r sound.sized (sound.reached k low high) moves (subst (λ a. Fits m a r) (sym is) fits)

    abbrev Reached : Agent P → Type 0
    Reached = S.reachable n m

    change_reached : Change R k w v → Reached (agent_at R v k)
    change_reached (stays is store) = subst Reached (sym is) (sound.reached k low high)
    change_reached (asks idles is store) = subst Reached (sym is) (S.asks n m was sound.sized (sound.reached k low high) idles)
    change_reached (leaves holds is store) = subst Reached (sym is) (S.leaves n m was sound.sized (sound.reached k low high) holds)
    change_reached (looks moves want is store) = subst Reached (sym is) (stepped Look _ moves want look_fits)
    change_reached (reads x moves name want is store) = subst Reached (sym is) (stepped (Read x) _ moves want (met_lawful x))
    change_reached (writes x c moves name good want is store) = subst Reached (sym is) (stepped (Write x c) _ moves want tt)
    change_reached (swaps x old new moves name good want found is store) = subst Reached (sym is) (stepped (Swap x old new) _ moves want tt)
    change_reached (misses x old new moves name want lost is store) = subst Reached (sym is) (stepped (Swap x old new) _ moves want tt)

    became : (r : Reply) → agent_at R v k ≡ R.becomes n m was r → (agent_at R v k).identity ≡ was.identity
    became r is = ap (λ a. a.identity) is ∙ S.identity n m was r

    pub change_identity : Change R k w v → (agent_at R v k).identity ≡ was.identity
    change_identity (stays is store) = ap (λ a. a.identity) is
    change_identity (asks idles is store) = ap (λ a. a.identity) is ∙ (S.asking n m was).1
    change_identity (leaves holds is store) = ap (λ a. a.identity) is ∙ (S.leaving n m was).1
    change_identity (looks moves want is store) = became _ is
    change_identity (reads x moves name want is store) = became _ is
    change_identity (writes x c moves name good want is store) = became _ is
    change_identity (swaps x old new moves name good want found is store) = became _ is
    change_identity (misses x old new moves name want lost is store) = became _ is

    abbrev Good : List Mark → Type 0
    Good ms = (length ms ≡ m) × AllLawful ms

    same_store : v.store ≡ w.store → Good v.store
    same_store store = subst Good (sym store) (sound.room, sound.lawful_marks)

    put_store : (y : ℕ) (c : Mark) → lawful c ≡ true → v.store ≡ put w.store y c → Good v.store
    put_store y c good store =
        subst Good (sym store) (length-set w.store (y - 1) c ∙ sound.room, lawful_set w.store (y - 1) c sound.lawful_marks good)

    change_store : Change R k w v → Good v.store
    change_store (stays is store) = same_store store
    change_store (asks idles is store) = same_store store
    change_store (leaves holds is store) = same_store store
    change_store (looks moves want is store) = same_store store
    change_store (reads x moves name want is store) = same_store store
    change_store (writes x c moves name good want is store) = put_store (table_at w k x) c good store
    change_store (swaps x old new moves name good want found is store) = put_store (table_at w k x) new good store
    change_store (misses x old new moves name want lost is store) = same_store store

  -- one agent's call keeps what every call keeps
  pub effect_sound : (k : ℕ) (w v : World P) → Sound w → 1 ≤ k → k ≤ length w.rig.seats → Effect R k w v → Sound v
  effect_sound k w v sound low high effect =
      let kept = effect.kept in
      let change = effect.change in
      let store = change_store k w v sound low high change in
      let each : (j : ℕ) → 1 ≤ j → j ≤ length w.rig.seats → S.reachable (length w.rig.seats) w.rig.cells (agent_at R v j) =
      λ j a b.
      ⊎_elim
      (λ same. subst (λ i. S.reachable (length w.rig.seats) w.rig.cells (agent_at R v i)) (sym same) (change_reached k w v sound low high change))
      (λ other. subst (S.reachable (length w.rig.seats) w.rig.cells) (sym (kept.others j other)) (sound.reached j a b))
      (cases_eq j k)
      in
      let same_identity : (j : ℕ) → 1 ≤ j → j ≤ length w.rig.seats → (agent_at R w j).identity ≡ (agent_at R v j).identity =
      λ j a b.
      ⊎_elim
      (λ same. subst (λ i. (agent_at R w i).identity ≡ (agent_at R v i).identity) (sym same) (sym (change_identity k w v sound low high change)))
      (λ other. ap (λ a. a.identity) (sym (kept.others j other)))
      (cases_eq j k)
      in
      record {
        sized = subst₂ Sized (sym kept.agents) (sym kept.cells) sound.sized;
        room = store.0 ∙ sym kept.cells;
        lawful_marks = store.1;
        reached = λ j a b. subst₂ (λ n m. S.reachable n m (agent_at R v j)) (sym kept.agents) (sym kept.cells) (each j a (omega (arith, kept.agents)));
        tables = λ j a b.
            subst (λ m. Distinct (table_at v j) m m) (sym kept.cells)
            (distinct_same (table_at w j) (table_at v j) w.rig.cells w.rig.cells (λ x _ _. sym (kept.tables j x)) (sound.tables j a (omega (arith, kept.agents))));
        identities =
            subst (λ n. Distinct (λ j. (agent_at R v j).identity) 65535 n) (sym kept.agents)
            (distinct_same (λ j. (agent_at R w j).identity) (λ j. (agent_at R v j).identity) 65535 (length w.rig.seats) same_identity sound.identities);
        few = subst₂ (λ o n. acting_in o n ≤ n) (sym kept.standoff) (sym kept.agents) sound.few;
      }

  -- an accepted move of agent k, and a refusal that is counted

  pub moved_effect_request : (k : ℕ) (w : World P) → Sound w → 1 ≤ k → k ≤ length w.rig.seats → Idles (agent_at R w k) → Effect R k w (moved R w (Request k))
  moved_effect_request k w sound low high idles =
      let (s, there) = named_find w.rig.seats k low high in
      let v = done_by R w (Request k) s in
      let t = with_agent s (R.asked (length w.rig.seats) w.rig.cells s.agent) in
      subst (Effect R k w) (sym (ap (λ o. at_seat o (λ s. done_by R w (Request k) s) w) there)) (record {
        kept = kept_seated R k w v s t there refl refl refl refl;
        change = asks idles (agent_seated R k w v s t there refl ∙ ap (R.asked (length w.rig.seats) w.rig.cells) (sym (agent_before R k w v s t there refl))) refl;
      })

  pub moved_effect_leave : (k : ℕ) (w : World P) → Sound w → 1 ≤ k → k ≤ length w.rig.seats → Holds (agent_at R w k) → Effect R k w (moved R w (Leave k))
  moved_effect_leave k w sound low high holds =
      let (s, there) = named_find w.rig.seats k low high in
      let v = done_by R w (Leave k) s in
      let t = with_agent s (R.left (length w.rig.seats) w.rig.cells s.agent) in
      subst (Effect R k w) (sym (ap (λ o. at_seat o (λ s. done_by R w (Leave k) s) w) there)) (record {
        kept = kept_seated R k w v s t there refl refl refl refl;
        change = leaves holds (agent_seated R k w v s t there refl ∙ ap (R.left (length w.rig.seats) w.rig.cells) (sym (agent_before R k w v s t there refl))) refl;
      })

  pub moved_effect_step : (k : ℕ) (w : World P) → Sound w → 1 ≤ k → k ≤ length w.rig.seats → Moves (agent_at R w k) → Effect R k w (moved R w (Step k))
  moved_effect_step k w sound low high moves =
      let (s, there) = named_find w.rig.seats k low high in
      let v = done_by R w (Step k) s in
      let same : agent_at R w k ≡ s.agent = ap (agent_in R) there in
      let q = wanted R w.rig s in
      let t = stepped-seat s (R.becomes (length w.rig.seats) w.rig.cells s.agent (served w.rig.cells w.store s q)) in
      let moves_there = subst Moves same moves in
      let proper = S.proper (length w.rig.seats) w.rig.cells s.agent sound.sized (subst (S.reachable (length w.rig.seats) w.rig.cells) same (sound.reached k low high)) moves_there in
      let ok = granted R k w s there sound.room (sound.tables k low high) q proper in
      let here : moved R w (Step k) ≡ v = ap (λ o. at_seat o (λ s. after_check (serving_check R w (Step k) s) (done_by R w (Step k) s) w) w) there ∙ ap (λ c. after_check c v w) ok in
      subst (Effect R k w) (sym here) (record {
        kept = kept_seated R k w v s t there refl refl refl refl;
        change = step_change R k w s there sound.room (sound.tables k low high) v moves_there q refl proper (agent_seated R k w v s t there refl) refl;
      })

  nothing_done : (k : ℕ) (w : World P) → Effect R k w w
  nothing_done k w = record {
    kept = record { agents = refl; cells = refl; standoff = refl; tables = λ j x. refl; others = λ j e. refl };
    change = stays refl refl;
  }

  pub turned_effect : (k : ℕ) (w : World P) (e : Event) → Effect R k w (turned_away R w e)
  turned_effect k w e = go (named w.rig.seats (agent_of e)) refl
    where
      turned : Option (Seat P) → World P
      turned o = at_seat o (λ s. record { rig = heard_once (seated w.rig (agent_of e) (refused_once s)); store = w.store }) w

      go : (o : Option (Seat P)) → named w.rig.seats (agent_of e) ≡ o → Effect R k w (turned o)
      go None is = nothing_done k w
      go (Some s) is =
          let v = turned (Some s) in
          let t = refused_once s in
          let l = agent_of e in
          let kept = kept_seated R l w v s t is refl refl refl refl in
          let same : agent_at R v l ≡ agent_at R w l = agent_seated R l w v s t is refl ∙ sym (agent_before R l w v s t is refl) in
          let all : (j : ℕ) → agent_at R v j ≡ agent_at R w j =
          λ j. ⊎_elim (λ here. subst (λ i. agent_at R v i ≡ agent_at R w i) (sym here) same) (λ other. kept.others j other) (cases_eq j l)
          in
          record {
            kept = record { agents = kept.agents; cells = kept.cells; standoff = kept.standoff; tables = kept.tables; others = λ j _. all j };
            change = stays (all k) refl;
          }

  -- an accepted call, by what is given to agent k
  pub given_effect : (r : Round) (k : ℕ) (w : World P) → Sound w → 1 ≤ k → k ≤ length w.rig.seats → section_check (given r k) (agent_at R w k).section ≡ Ok tt → Effect R k w (moved R w (given r k))
  given_effect round.Request k w sound low high ok = moved_effect_request k w sound low high (idle_told _ (not-false _ (passed _ _ ok)))
  given_effect round.Step k w sound low high ok = moved_effect_step k w sound low high (moving_told _ (passed _ _ ok))
  given_effect round.Leave k w sound low high ok = moved_effect_leave k w sound low high (holding_told _ (not-false _ (passed _ _ ok)))

  -- what every effect of an acting agent keeps holds after any calls
  module _ (I : World P → Type 0) (keeps : (k : ℕ) (w v : World P) → Sound w → 1 ≤ k → k ≤ acting w → Effect R k w v → I w → I v) where
    abbrev Held : World P → Type 0
    Held w = Sound w × I w

    by_effect : (k : ℕ) (w v : World P) → Held w → 1 ≤ k → k ≤ acting w → Effect R k w v → Held v
    by_effect k w v held low high effect =
        let few = held.0.few in
        (effect_sound k w v held.0 low (omega arith) effect, keeps k w v held.0 low high effect held.1)

    given_keeps : (r : Round) (k : ℕ) (w : World P) → Held w → 1 ≤ k → k ≤ acting w → Held (after_check (section_check (given r k) (section_at w.rig k)) (moved R w (given r k)) (turned_away R w (given r k)))
    given_keeps r k w held low high =
        let few = held.0.few in
        after_both (section_check (given r k) (section_at w.rig k)) _ _ Held
        (λ ok.
        by_effect k w _ held low high
        (given_effect r k w held.0 low (omega arith) (ap (section_check (given r k)) (sym (section_view R (named w.rig.seats k))) ∙ ok)))
        (λ _ _. by_effect k w _ held low high (turned_effect k w (given r k)))

    heard_keeps : (r : Round) (k : ℕ) (w : World P) → Held w → Held (after_check (hearing_check w.rig k) (after_check (section_check (given r k) (section_at w.rig k)) (moved R w (given r k)) (turned_away R w (given r k))) w)
    heard_keeps r k w held =
        after_both (hearing_check w.rig k) _ w Held
        (λ ok.
        let h = hearing_told w.rig k ok in
        let all : acting w ≡ length w.rig.seats = ap (λ o. acting_in o (length w.rig.seats)) h.2 in
        given_keeps r k w held h.0 (omega (arith, h.1)))
        (λ _ _. held)

    event_keeps : (e : Event) (w : World P) → Held w → Held (after R w e)
    event_keeps (Request k) w held = heard_keeps round.Request k w held
    event_keeps (Step k) w held = heard_keeps round.Step k w held
    event_keeps (Leave k) w held = heard_keeps round.Leave k w held

    -- within a round: the agents whose turn is still to come are as they were
    record Underway (w v : World P) (j : ℕ) : Type 0 where
      pub held : Held v
      pub acts : acting v ≡ acting w
      pub rest : (i : ℕ) → j < i → agent_at R v i ≡ agent_at R w i

    turn_taken : (w v u : World P) (j : ℕ) → Underway w v j → j < acting w → Effect R (suc j) v u → Underway w u (suc j)
    turn_taken w v u j h less effect = record {
      held = by_effect (suc j) v u h.held (omega arith) (omega (arith, h.acts)) effect;
      acts = (λ i. acting_in (effect.kept.standoff i) (effect.kept.agents i)) ∙ h.acts;
      rest = λ i later. effect.kept.others i (λ e. omega arith) ∙ h.rest i (omega arith);
    }

    module _ (r : Round) (w : World P) (held : Held w) where
      all_turned : (j : ℕ) → j ≤ acting w → Underway w (in_turn (λ v k. turned_away R v (given r k)) w j) j
      all_turned zero high = record { held = held; acts = refl; rest = λ i _. refl }
      all_turned (suc j) high =
          let h = all_turned j (omega arith) in
          turn_taken w _ _ j h (omega arith) (turned_effect (suc j) _ (given r (suc j)))

      all_moved : ((k : ℕ) → 1 ≤ k → k ≤ acting w → section_check (given r k) (section_at w.rig k) ≡ Ok tt) → (j : ℕ) → j ≤ acting w → Underway w (in_turn (λ v k. moved R v (given r k)) w j) j
      all_moved may zero high = record { held = held; acts = refl; rest = λ i _. refl }
      all_moved may (suc j) high =
          let h = all_moved may j (omega arith) in
          let v = in_turn (λ v k. moved R v (given r k)) w j in
          let few = h.held.0.few in
          turn_taken w v _ j h (omega arith)
          (given_effect r (suc j) v h.held.0 (omega arith) (omega (arith, h.acts))
          (ap (λ a. section_check (given r (suc j)) a.section) (h.rest (suc j) (omega arith))
          ∙ ap (section_check (given r (suc j))) (sym (section_view R (named w.rig.seats (suc j))))
          ∙ may (suc j) (omega arith) high))

      round_keeps : Held (after_round R w r)
      round_keeps =
          after_both (round_hearing w.rig w.rig.standoff) _ w Held
          (λ ok.
          let all : acting w ≡ moving w.rig.standoff = standing_told w.rig w.rig.standoff (length w.rig.seats) ok in
          after_both (all_may r w.rig (moving w.rig.standoff)) _ _ Held
          (λ may. (all_moved (λ k low high. may_told r w.rig (moving w.rig.standoff) may k low (omega arith)) (moving w.rig.standoff) (omega arith)).held)
          (λ _ _. (all_turned (moving w.rig.standoff) (omega arith)).held))
          (λ _ _. held)

    -- a rig that is loaded refuses another load
    loaded_no_blank : (w : World P) → Sound w → is_blank w.rig ≡ false
    loaded_no_blank w sound = ne_eqb w.rig.cells 0 (λ e. omega (arith, sound.sized.cells_low))

    call_keeps : (c : Call) (w : World P) → Held w → Held (after_call R w c)
    call_keeps (load file) w held =
        subst Held (sym (ap (λ b. after_check (refuse_if (not b) NotBlank then plan_answer R w.store (decoded R.number file)) (filled R w (decoded R.number file)) w) (loaded_no_blank w held.0))) held
    call_keeps (load_standoff n m) w held =
        subst Held
        (sym
        (ap
        (λ b.
        after_check
        (refuse_if (not b) NotBlank then
        refuse_if (not (within 2 16 n)) StandoffAgents then
        refuse_if (not (within 2 64 m)) StandoffCells then
        refuse_if (not (is_some (smallest_common_factor n m))) NoCommonFactor then
        empty_check m w.store)
        (filled_standoff R w n m (smallest_common_factor n m))
        w)
        (loaded_no_blank w held.0)))
        held
    call_keeps (event e) w held = event_keeps e w held
    call_keeps (round r) w held = round_keeps r w held
    call_keeps (ask_section k) w held = held
    call_keeps (ask_figures k) w held = held
    call_keeps ask_holder w held = held
    call_keeps (ask_cell y) w held = held

    play_held : (cs : List Call) (w : World P) → Held w → Held (play R w cs)
    play_held [] w held = held
    play_held (c ∷ cs) w held = play_held cs (after_call R w c) (call_keeps c w held)

  pub play_keeps : (I : World P → Type 0) → ((k : ℕ) (w v : World P) → Sound w → 1 ≤ k → k ≤ acting w → Effect R k w v → I w → I v) → (cs : List Call) (w : World P) → Sound w → I w → Sound (play R w cs) × I (play R w cs)
  play_keeps I keeps cs w sound here = play_held I keeps cs w (sound, here)
