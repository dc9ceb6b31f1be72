-- Each call does to the twin what it does to the world, and gets the same answer, under every lawful rule. Assumes nothing.
use Rattle.std.proofs.Common.{◌≡◌, ℕ, ◌≤◌, ◌⊎◌, List, [], ◌∷◌, map, length, Some, None, Ok, Err, Option, sym, refl, ap, ◌∙◌, subst, inl, inr, arith}
use Rattle.numbers.specs.Names.{named}
use Rattle.refusal.specs.Checks.{◌then◌, Check}
use Rattle.plan.specs.declared.event.Event.{Event}
use Rattle.plan.specs.declared.event.Event.TheVariants.{Request, Step, Leave}
use Rattle.rules.specs.Lawful.{Moves, Proper, Permutes, replaced_agent, replaced_want}
use Rattle.rules.specs.declared.agent.Section.{Section}
use Rattle.rules.specs.declared.agent.Section.TheVariants.{Idle, Asking, Holding, Leaving}
use Rattle.rules.specs.declared.want.Want.{Want}
use Rattle.model.specs.Meanings.{Meaning}
use Rattle.model.specs.Rigs.{Seat, Rig, World, agents, agent_of, section_in, section_at, section_check, after_check, hearing_check, seated, counted, heard_once, with_agent, stepped, refused_once, served, store_after, store_check, at_seat, wanted, serving_check, answer, done_by, moved, turned_away, after, run}
use Rattle.model.specs.Calls.{event}
use Rattle.runs.proofs.Lawfulness.{Steady, Blind}
use Rattle.runs.proofs.Views.{agent_in, table_in, named_some}
use Rattle.runs.proofs.Keeping.{Sound, play_keeps}
use Rattle.renumbering.proofs.Twins.{through, named_map, Numbering, twin_seat, twin_rig, twin, twin_agents, twin_section, twin_hearing, twin_seated, twin_counted}
use Rattle.renumbering.proofs.TwinStores.{Inside, store_grants, served_fits, grants_twin, served_twin, after_twin}

-- at a seat found through a function
at_seat_through : {P A B : Type 0} (t : Seat P → Seat P) (h : A → B) (xs : List (Seat P)) (k : ℕ) (f : Seat P → B) (g : Seat P → A) (d : A) → ((s : Seat P) → named xs k ≡ Some s → f (t s) ≡ h (g s)) → at_seat (named (map t xs) k) f (h d) ≡ h (at_seat (named xs k) g d)
at_seat_through {P} {A} {B} t h xs k f g d same = ap (λ o. at_seat o f (h d)) (named_map t xs k) ∙ go (named xs k) refl
  where
    go : (o : Option (Seat P)) → named xs k ≡ o → at_seat (through t o) f (h d) ≡ h (at_seat o g d)
    go None e = refl
    go (Some s) e = same s e

-- a step that is not refused is of an agent that moves
pub steps_moves : (k : ℕ) (s : Section) → section_check (Step k) s ≡ Ok tt → (s ≡ Asking) ⊎ (s ≡ Leaving)
steps_moves k Idle e = let z : ◌≡◌ {A = ℕ} 0 1 = cc e in absurd (omega arith)
steps_moves k Asking e = inl refl
steps_moves k Holding e = let z : ◌≡◌ {A = ℕ} 0 1 = cc e in absurd (omega arith)
steps_moves k Leaving e = inr refl

module _ {P : Type 0} (R : Meaning P) (S : Steady R) where
  -- a run keeps what every call keeps, and the numbers of agents and cells
  pub record Same (w v : World P) : Type 0 where
    pub sound : Sound R S v
    pub agents : length v.rig.seats ≡ length w.rig.seats
    pub cells : v.rig.cells ≡ w.rig.cells

  pub call_same : (w : World P) (e : Event) → Sound R S w → Same w (after R w e)
  call_same w e sound =
      let kept = play_keeps R S (λ v. (length v.rig.seats ≡ length w.rig.seats) × (v.rig.cells ≡ w.rig.cells))
      (λ k u v s a b effect here. (effect.kept.agents ∙ here.0, effect.kept.cells ∙ here.1))
      (event e ∷ []) w sound (refl, refl) in
      record { sound = kept.0; agents = kept.1.0; cells = kept.1.1 }

  pub run_same : (es : List Event) (w : World P) → Sound R S w → Same w (run R w es)
  run_same [] w sound = record { sound = sound; agents = refl; cells = refl }
  run_same (e ∷ es) w sound =
      let one = call_same w e sound in
      let rest = run_same es (after R w e) one.sound in
      record { sound = rest.sound; agents = rest.agents ∙ one.agents; cells = rest.cells ∙ one.cells }

  module _ (B : Blind R S) (σ τ π : ℕ → ℕ) (perm : Permutes π) (w : World P) (sound : Sound R S w) (N : Numbering σ τ w.rig.cells) where
    abbrev g : Rig P
    g = w.rig

    abbrev n : ℕ
    n = length g.seats

    abbrev m : ℕ
    m = g.cells

    abbrev other : Seat P → Seat P
    other = twin_seat σ π

    abbrev new : World P
    new = twin σ τ π w

    module _ (k : ℕ) (s : Seat P) (here : named g.seats k ≡ Some s) where
      seat_inside : Inside m s
      seat_inside x a b = let r = named_some g.seats k s here in subst (λ o. (1 ≤ table_in o x) × (table_in o x ≤ m)) here ((sound.tables k r.0 r.1).inside x a b)

      seat_reached : S.reachable n m s.agent
      seat_reached = let r = named_some g.seats k s here in subst (λ o. S.reachable n m (agent_in R o)) here (sound.reached k r.0 r.1)

      -- a changed seat, counted
      counted_twin : (t u : Seat P) → u ≡ other t → counted (seated (twin_rig σ π g) k u) ≡ twin_rig σ π (counted (seated g k t))
      counted_twin t u e = ap (λ v. counted (seated (twin_rig σ π g) k v)) e ∙ ap counted (twin_seated σ π g k t) ∙ twin_counted σ π (seated g k t)

      request_twin : done_by R new (Request k) (other s) ≡ twin σ τ π (done_by R w (Request k) s)
      request_twin =
          let same : R.asked (agents (twin_rig σ π g)) m (replaced_agent π s.agent) ≡ replaced_agent π (R.asked n m s.agent) =
          ap (λ j. R.asked j m (replaced_agent π s.agent)) (twin_agents σ π g) ∙ B.renamedask n m s.agent π sound.sized seat_reached perm in
          let rig = counted_twin (with_agent s (R.asked n m s.agent)) _ (ap (with_agent (other s)) same) in
          λ i. record { rig = rig i; store = new.store }

      leave_twin : done_by R new (Leave k) (other s) ≡ twin σ τ π (done_by R w (Leave k) s)
      leave_twin =
          let same : R.left (agents (twin_rig σ π g)) m (replaced_agent π s.agent) ≡ replaced_agent π (R.left n m s.agent) =
          ap (λ j. R.left j m (replaced_agent π s.agent)) (twin_agents σ π g) ∙ B.renamedleave n m s.agent π sound.sized seat_reached perm in
          let rig = counted_twin (with_agent s (R.left n m s.agent)) _ (ap (with_agent (other s)) same) in
          λ i. record { rig = rig i; store = new.store }

      module _ (moves : Moves s.agent) where
        abbrev q : Want
        q = R.wants n m s.agent

        proper : Proper m q
        proper = S.proper n m s.agent sound.sized seat_reached moves

        wanted_twin : wanted R (twin_rig σ π g) (other s) ≡ replaced_want π q
        wanted_twin = ap (λ j. R.wants j m (replaced_agent π s.agent)) (twin_agents σ π g) ∙ B.renamedwant n m s.agent π sound.sized seat_reached moves perm

        becomes_twin : R.becomes (agents (twin_rig σ π g)) m (replaced_agent π s.agent) (served m new.store (other s) (wanted R (twin_rig σ π g) (other s))) ≡ replaced_agent π (R.becomes n m s.agent (served m w.store s q))
        becomes_twin =
            ap (λ j. R.becomes j m (replaced_agent π s.agent) (served m new.store (other s) (wanted R (twin_rig σ π g) (other s)))) (twin_agents σ π g)
            ∙ ap (λ p. R.becomes n m (replaced_agent π s.agent) (served m new.store (other s) p)) wanted_twin
            ∙ ap (R.becomes n m (replaced_agent π s.agent)) (served_twin σ τ π perm m N w.store sound.room s seat_inside sound.lawful_marks q proper)
            ∙ B.renamedstep n m s.agent (served m w.store s q) π sound.sized seat_reached moves (served_fits m w.store s sound.lawful_marks q) perm

        step_done_twin : done_by R new (Step k) (other s) ≡ twin σ τ π (done_by R w (Step k) s)
        step_done_twin =
            let rig = counted_twin (stepped s (R.becomes n m s.agent (served m w.store s q))) _ (ap (stepped (other s)) becomes_twin) in
            let store = ap (store_after new.store (other s)) wanted_twin ∙ after_twin σ τ π perm m N w.store sound.room s seat_inside sound.lawful_marks q proper in
            λ i. record { rig = rig i; store = store i }

        -- the store refuses neither
        grants : serving_check R w (Step k) s ≡ Ok tt
        grants = store_grants m w.store s sound.room seat_inside q proper

        grants_new : serving_check R new (Step k) (other s) ≡ Ok tt
        grants_new = ap (store_check m new.store (other s)) wanted_twin ∙ grants_twin σ τ π perm m N w.store sound.room s seat_inside q proper

        step_twin : after_check (serving_check R new (Step k) (other s)) (done_by R new (Step k) (other s)) new ≡ twin σ τ π (after_check (serving_check R w (Step k) s) (done_by R w (Step k) s) w)
        step_twin =
            ap (λ c. after_check c (done_by R new (Step k) (other s)) new) grants_new
            ∙ step_done_twin
            ∙ ap (λ c. twin σ τ π (after_check c (done_by R w (Step k) s) w)) (sym grants)

    -- the agent's section, at its seat
    seat_moves : (k : ℕ) (s : Seat P) → named g.seats k ≡ Some s → section_check (Step k) (section_at g k) ≡ Ok tt → Moves s.agent
    seat_moves k s here ok = steps_moves k s.agent.section (subst (λ o. section_check (Step k) (section_in o) ≡ Ok tt) here ok)

    moved_twin : (e : Event) → section_check e (section_at g (agent_of e)) ≡ Ok tt → moved R new e ≡ twin σ τ π (moved R w e)
    moved_twin (Request k) ok = at_seat_through other (twin σ τ π) g.seats k _ _ w (request_twin k)
    moved_twin (Step k) ok =
        at_seat_through other (twin σ τ π) g.seats k
        (λ s. after_check (serving_check R new (Step k) s) (done_by R new (Step k) s) new)
        (λ s. after_check (serving_check R w (Step k) s) (done_by R w (Step k) s) w) w
        (λ s here. step_twin k s here (seat_moves k s here ok))
    moved_twin (Leave k) ok = at_seat_through other (twin σ τ π) g.seats k _ _ w (leave_twin k)

    turned_twin : (e : Event) → turned_away R new e ≡ twin σ τ π (turned_away R w e)
    turned_twin e =
        at_seat_through other (twin σ τ π) g.seats (agent_of e) _ _ w
        (λ s here. let rig = ap heard_once (twin_seated σ π g (agent_of e) (refused_once s)) in λ i. record { rig = rig i; store = new.store })

    served_same : (e : Event) → section_check e (section_at g (agent_of e)) ≡ Ok tt → at_seat (named new.rig.seats (agent_of e)) (serving_check R new e) (Ok tt) ≡ at_seat (named g.seats (agent_of e)) (serving_check R w e) (Ok tt)
    served_same (Request k) ok = at_seat_through other (λ c. c) g.seats k (serving_check R new (Request k)) (serving_check R w (Request k)) (Ok tt) (λ s here. refl)
    served_same (Step k) ok =
        at_seat_through other (λ c. c) g.seats k (serving_check R new (Step k)) (serving_check R w (Step k)) (Ok tt)
        (λ s here. let moves = seat_moves k s here ok in grants_new k s here moves ∙ sym (grants k s here moves))
    served_same (Leave k) ok = at_seat_through other (λ c. c) g.seats k (serving_check R new (Leave k)) (serving_check R w (Leave k)) (Ok tt) (λ s here. refl)

    -- every call gets the same answer
    pub answer_twin : (e : Event) → answer R new e ≡ answer R w e
    answer_twin e =
        let late = at_seat (named new.rig.seats (agent_of e)) (serving_check R new e) (Ok tt) in
        (λ i. twin_hearing σ π g (agent_of e) i then section_check e (twin_section σ π g (agent_of e) i) then late)
        ∙ ap (λ c. hearing_check g (agent_of e) then c) (go (section_check e (section_at g (agent_of e))) refl)
      where
        go : (c : Check) → section_check e (section_at g (agent_of e)) ≡ c → (c then at_seat (named new.rig.seats (agent_of e)) (serving_check R new e) (Ok tt)) ≡ (c then at_seat (named g.seats (agent_of e)) (serving_check R w e) (Ok tt))
        go (Ok u) same = served_same e same
        go (Err r) same = refl

    -- and does the same to both
    pub call_twin : (e : Event) → after R new e ≡ twin σ τ π (after R w e)
    call_twin e =
        (λ i. after_check (twin_hearing σ π g (agent_of e) i) (after_check (section_check e (twin_section σ π g (agent_of e) i)) (moved R new e) (turned_away R new e)) new)
        ∙ ap (λ v. after_check (hearing_check g (agent_of e)) v new) (go (section_check e (section_at g (agent_of e))) refl)
        ∙ out (hearing_check g (agent_of e))
      where
        go : (c : Check) → section_check e (section_at g (agent_of e)) ≡ c → after_check c (moved R new e) (turned_away R new e) ≡ twin σ τ π (after_check c (moved R w e) (turned_away R w e))
        go (Ok u) same = moved_twin e same
        go (Err r) same = turned_twin e

        out : (c : Check) → after_check c (twin σ τ π (after_check (section_check e (section_at g (agent_of e))) (moved R w e) (turned_away R w e))) new ≡ twin σ τ π (after_check c (after_check (section_check e (section_at g (agent_of e))) (moved R w e) (turned_away R w e)) w)
        out (Ok u) = refl
        out (Err r) = refl

  -- a run of the twin is the twin of the run
  pub run_twin : (B : Blind R S) (σ τ π : ℕ → ℕ) → Permutes π → (es : List Event) (w : World P) → Sound R S w → Numbering σ τ w.rig.cells → run R (twin σ τ π w) es ≡ twin σ τ π (run R w es)
  run_twin B σ τ π perm [] w sound N = refl
  run_twin B σ τ π perm (e ∷ es) w sound N =
      let one = call_same w e sound in
      ap (λ v. run R v es) (call_twin B σ τ π perm w sound N e) ∙ run_twin B σ τ π perm es (after R w e) one.sound (subst (Numbering σ τ) (sym one.cells) N)
