-- What one agent's part of a round does to its record and to the marks. Assumes nothing.
use Rattle.std.proofs.Common.{◌≡◌, ℕ, ◌-◌, ◌≤◌, true, false, List, length, set, Some, None, Ok, Option, sym, refl, ap, ◌∙◌, subst, inl, inr, ⊎_elim, arith}
use Rattle.std.proofs.lemmas.Bool.{true≢false, cases_eq}
use Rattle.numbers.specs.Names.{named}
use Rattle.cells.specs.Marks.{mark_at}
use Rattle.rules.specs.Records.{Reply}
use Rattle.rules.specs.Lawful.{Idles, Holds, Moves, Proper}
use Rattle.rules.specs.declared.agent.Agent.{Agent}
use Rattle.rules.specs.declared.agent.Section.{Section}
use Rattle.rules.specs.declared.agent.Section.TheVariants.{Idle, Asking, Holding, Leaving}
use Rattle.rules.specs.declared.want.Want.{Want}
use Rattle.rules.specs.declared.want.Want.TheVariants.{Look}
use Rattle.plan.specs.declared.event.Event.{Event}
use Rattle.plan.specs.declared.event.Event.TheVariants as event
use Rattle.model.specs.Meanings.{Meaning}
use Rattle.model.specs.Rigs.{Seat, World, entry, with_agent, stepped, refused_once, heard_once, seated, wanted, served, serving_check, section_in, section_at, section_check, at_seat, after_check, moved, turned_away, done_by, agent_of}
use Rattle.model.specs.Rounds.{given, may_not}
use Rattle.model.specs.declared.Round.{Round}
use Rattle.model.specs.declared.Round.TheVariants.{Request, Step, Leave}
use Rattle.runs.proofs.Views.{agent_in, agent_at, table_in, table_at, met_at, named_find, named_set_same, named_set_other}
use Rattle.runs.proofs.Lawfulness.{Steady}
use Rattle.runs.proofs.Effects.{Effect}
use Rattle.runs.proofs.Keeping.{Sound, moved_effect_request, moved_effect_leave, moved_effect_step}
use Rattle.lockstep.proofs.Deeds.{reply_to, marks_after, check_passes, served_is, stored_is}

module _ {P : Type 0} where
  -- what a round asks of a record
  abbrev pub Allowed : Round → Agent P → Type 0
  Allowed Request a = Idles a
  Allowed Step a = Moves a
  Allowed Leave a = Holds a

  module _ (R : Meaning P) where
    -- what an agent wants of the cells in a round: only a step may change a cell
    abbrev pub aim : Round → ℕ → ℕ → Agent P → Want
    aim Request n m a = Look
    aim Step n m a = R.wants n m a
    aim Leave n m a = Look

    -- the record after a round
    abbrev pub record_after : Round → ℕ → ℕ → Agent P → Reply → Agent P
    record_after Request n m a r = R.asked n m a
    record_after Step n m a r = R.becomes n m a r
    record_after Leave n m a r = R.left n m a

module _ {P : Type 0} (R : Meaning P) (S : Steady R) where
  abbrev n : World P → ℕ
  n w = length w.rig.seats

  abbrev m : World P → ℕ
  m w = w.rig.cells

  -- what agent k's part of a round does
  pub record Deed (r : Round) (k : ℕ) (w v : World P) : Type 0 where
    pub effect : Effect R k w v
    pub record_is : agent_at R v k ≡ record_after R r (length w.rig.seats) w.rig.cells (agent_at R w k) (reply_to w.rig.cells (met_at w k) (aim R r (length w.rig.seats) w.rig.cells (agent_at R w k)))
    pub store_is : v.store ≡ marks_after w.store (table_at w k) (aim R r (length w.rig.seats) w.rig.cells (agent_at R w k))

  module _ (k : ℕ) (w : World P) (sound : Sound R S w) (low : 1 ≤ k) (high : k ≤ length w.rig.seats) where
    abbrev found : (s : Seat P) × (named w.rig.seats k ≡ Some s)
    found = named_find w.rig.seats k low high

    abbrev seat : Seat P
    seat = found.0

    moved_to : (e : Event) → agent_of e ≡ k → serving_check R w e seat ≡ Ok tt → moved R w e ≡ done_by R w e seat
    moved_to e mine passes =
        ap (λ o. at_seat o (λ s. after_check (serving_check R w e s) (done_by R w e s) w) w) (ap (named w.rig.seats) mine ∙ found.1)
        ∙ ap (λ c. after_check c (done_by R w e seat) w) passes

    requested : Idles (agent_at R w k) → Deed Request k w (moved R w (event.Request k))
    requested idles =
        let s : Seat P = seat in
        let done : moved R w (event.Request k) ≡ done_by R w (event.Request k) s = moved_to (event.Request k) refl refl in
        record {
          effect = moved_effect_request R S k w sound low high idles;
          record_is =
              ap (λ v. agent_at R v k) done
              ∙ ap (agent_in R) (named_set_same w.rig.seats k (with_agent s (R.asked (n w) (m w) s.agent)) low high)
              ∙ ap (λ o. R.asked (n w) (m w) (agent_in R o)) (sym found.1);
          store_is = ap (λ v. v.store) done;
        }

    leaving : Holds (agent_at R w k) → Deed Leave k w (moved R w (event.Leave k))
    leaving holds =
        let s : Seat P = seat in
        let done : moved R w (event.Leave k) ≡ done_by R w (event.Leave k) s = moved_to (event.Leave k) refl refl in
        record {
          effect = moved_effect_leave R S k w sound low high holds;
          record_is =
              ap (λ v. agent_at R v k) done
              ∙ ap (agent_in R) (named_set_same w.rig.seats k (with_agent s (R.left (n w) (m w) s.agent)) low high)
              ∙ ap (λ o. R.left (n w) (m w) (agent_in R o)) (sym found.1);
          store_is = ap (λ v. v.store) done;
        }

    inside : (x : ℕ) → 1 ≤ x → x ≤ m w → (1 ≤ entry seat x) × (entry seat x ≤ length w.store)
    inside x from to =
        let t = (sound.tables k low high).inside x from to in
        let e : table_at w k x ≡ entry seat x = ap (λ o. table_in o x) found.1 in
        let long = sound.room in
        (omega arith, omega arith)

    proper : Moves (agent_at R w k) → Proper (m w) (wanted R w.rig seat)
    proper moves = subst (λ o. Proper (m w) (R.wants (n w) (m w) (agent_in R o))) found.1 (S.proper (n w) (m w) (agent_at R w k) sound.sized (sound.reached k low high) moves)

    stepping : Moves (agent_at R w k) → Deed Step k w (moved R w (event.Step k))
    stepping moves =
        let s : Seat P = seat in
        let a : Want = wanted R w.rig s in
        let fine = proper moves in
        let done : moved R w (event.Step k) ≡ done_by R w (event.Step k) s = moved_to (event.Step k) refl (check_passes (m w) w.store s inside a fine) in
        record {
          effect = moved_effect_step R S k w sound low high moves;
          record_is =
              ap (λ v. agent_at R v k) done
              ∙ ap (agent_in R) (named_set_same w.rig.seats k (stepped s (R.becomes (n w) (m w) s.agent (served (m w) w.store s a))) low high)
              ∙ ap (λ r. R.becomes (n w) (m w) s.agent r) (served_is (m w) w.store s inside a fine)
              ∙ ap (λ o. R.becomes (n w) (m w) (agent_in R o) (reply_to (m w) (λ x. mark_at w.store (table_in o x)) (R.wants (n w) (m w) (agent_in R o)))) (sym found.1);
          store_is =
              ap (λ v. v.store) done
              ∙ stored_is (m w) w.store s inside a fine
              ∙ ap (λ o. marks_after w.store (λ x. table_in o x) (R.wants (n w) (m w) (agent_in R o))) (sym found.1);
        }

    pub deed : (r : Round) → Allowed r (agent_at R w k) → Deed r k w (moved R w (given r k))
    deed Request may = requested may
    deed Step may = stepping may
    deed Leave may = leaving may

  -- a refusal that is counted changes no record and no mark
  abbrev away : World P → ℕ → Seat P → World P
  away w k s = record { rig = heard_once (seated w.rig k (refused_once s)); store = w.store }

  pub away_records : (w : World P) (e : Event) (j : ℕ) → 1 ≤ agent_of e → agent_of e ≤ length w.rig.seats → agent_at R (turned_away R w e) j ≡ agent_at R w j
  away_records w e j low high =
      let k : ℕ = agent_of e in
      let found = named_find w.rig.seats k low high in
      let s : Seat P = found.0 in
      let done : turned_away R w e ≡ away w k s = ap (λ o. at_seat o (away w k) w) found.1 in
      let counted : List (Seat P) = set w.rig.seats (k - 1) (refused_once s) in
      ap (λ v. agent_at R v j) done
      ∙ ⊎_elim
      (λ same.
      ap (λ i. agent_in R (named counted i)) same
      ∙ ap (agent_in R) (named_set_same w.rig.seats k (refused_once s) low high)
      ∙ ap (agent_in R) (sym found.1)
      ∙ ap (agent_at R w) (sym same))
      (λ other. ap (agent_in R) (named_set_other w.rig.seats j k (refused_once s) low other))
      (cases_eq j k)

  away_store_in : (w : World P) (k : ℕ) (o : Option (Seat P)) → (at_seat o (away w k) w).store ≡ w.store
  away_store_in w k None = refl
  away_store_in w k (Some s) = refl

  pub away_store : (w : World P) (e : Event) → (turned_away R w e).store ≡ w.store
  away_store w e = away_store_in w (agent_of e) (named w.rig.seats (agent_of e))

-- an agent that may is one of which the round's check says so
section_is : {P : Type 0} (R : Meaning P) (o : Option (Seat P)) → section_in o ≡ (agent_in R o).section
section_is R None = refl
section_is R (Some s) = refl

allowed_in : {P : Type 0} (r : Round) (k : ℕ) (a : Agent P) (s : Section) → s ≡ a.section → after_check (section_check (given r k) s) false true ≡ false → Allowed r a
allowed_in Request k a Idle e passes = sym e
allowed_in Request k a Asking e passes = absurd (true≢false passes)
allowed_in Request k a Holding e passes = absurd (true≢false passes)
allowed_in Request k a Leaving e passes = absurd (true≢false passes)
allowed_in Step k a Idle e passes = absurd (true≢false passes)
allowed_in Step k a Asking e passes = inl (sym e)
allowed_in Step k a Holding e passes = absurd (true≢false passes)
allowed_in Step k a Leaving e passes = inr (sym e)
allowed_in Leave k a Idle e passes = absurd (true≢false passes)
allowed_in Leave k a Asking e passes = absurd (true≢false passes)
allowed_in Leave k a Holding e passes = sym e
allowed_in Leave k a Leaving e passes = absurd (true≢false passes)

pub allowed_from : {P : Type 0} (R : Meaning P) (r : Round) (w : World P) (k : ℕ) → may_not r w.rig k ≡ false → Allowed r (agent_at R w k)
allowed_from R r w k passes = allowed_in r k (agent_at R w k) (section_at w.rig k) (section_is R (named w.rig.seats k)) passes
