-- Renumbering the cells and replacing the identities is invisible, under every lawful rule. Assumes nothing.
use Rattle.std.proofs.Common.{◌≡◌, ℕ, ◌+◌, ◌-◌, ◌≤◌, List, [], map, length, get_or, Some, None, sym, refl, ap, ◌∙◌, subst, arith}
use Rattle.std.proofs.lemmas.List.{ext_get_or, length-map, get_or-map}
use Rattle.numbers.specs.Names.{named, listed}
use Rattle.numbers.specs.Rows.{Distinct}
use Rattle.numbers.proofs.NameLaws.{length_listed, named_listed}
use Rattle.plan.specs.Plans.{Sayings}
use Rattle.plan.specs.declared.event.Event.{Event}
use Rattle.cells.specs.Marks.{mark_at}
use Rattle.cells.specs.declared.mark.Mark.{Mark}
use Rattle.cells.specs.declared.mark.Mark.TheVariants.{Empty, Owner, Rung}
use Rattle.rules.specs.Lawful.{Permutes, replaced}
use Rattle.model.specs.Meanings.{Meaning}
use Rattle.model.specs.Rigs.{Seat, World, answer, run, section_answer, figures_answer, holder}
use Rattle.model.specs.Loads.{loaded_world, seat_of}
use Rattle.runs.proofs.Lawfulness.{Steady, Blind}
use Rattle.runs.proofs.Views.{agent_at, table_in, table_at, named_some}
use Rattle.runs.proofs.Keeping.{Fresh}
use Rattle.renumbering.proofs.Twins.{Numbering, twin, twin_section_answer, twin_figures_answer, twin_holder}
use Rattle.renumbering.proofs.TwinStores.{mark_twin}
use Rattle.renumbering.proofs.TwinCalls.{Same, run_same, run_twin, answer_twin}
use Rattle.renumbering.proofs.Replacing.{extended, place, numbering}
use Rattle.renumbering.proofs.FreshTwins.{Twinned, fresh_twin, owner_known}

module _ {P : Type 0} (R : Meaning P) (S : Steady R) where
  -- just loaded from a plan: fresh, with nothing heard, no figures, and tables of as many names as there are cells
  pub record Loaded (w : World P) : Type 0 where
    pub fresh : Fresh R S w
    pub standoff : w.rig.standoff ≡ None
    pub heard : w.rig.heard ≡ 0
    pub crowd : w.rig.crowd ≡ 0
    pub tables : (k : ℕ) (s : Seat P) → named w.rig.seats k ≡ Some s → length s.table ≡ w.rig.cells
    pub steps : (k : ℕ) (s : Seat P) → named w.rig.seats k ≡ Some s → s.steps ≡ 0
    pub entries : (k : ℕ) (s : Seat P) → named w.rig.seats k ≡ Some s → s.entries ≡ 0
    pub refused : (k : ℕ) (s : Seat P) → named w.rig.seats k ≡ Some s → s.refused ≡ 0

  -- the tables of v are those of w, through the numbering σ
  pub record Renumbered (σ : ℕ → ℕ) (w v : World P) : Type 0 where
    pub agents : length v.rig.seats ≡ length w.rig.seats
    pub cells : v.rig.cells ≡ w.rig.cells
    pub numbers : Distinct σ w.rig.cells w.rig.cells
    pub entries : (k x : ℕ) → 1 ≤ k → k ≤ length w.rig.seats → 1 ≤ x → x ≤ w.rig.cells → table_at v k x ≡ σ (table_at w k x)

  -- marks that differ in the identity of one agent at most
  pub data Matched (w v : World P) (a b : Mark) : Type 0 where
    empties : a ≡ Empty → b ≡ Empty → Matched w v a b
    rungs : (r : ℕ) → a ≡ Rung r → b ≡ Rung r → Matched w v a b
    owners : (k : ℕ) → 1 ≤ k → k ≤ length w.rig.seats → a ≡ Owner (agent_at R w k).identity → b ≡ Owner (agent_at R v k).identity → Matched w v a b

  -- what cannot be told apart after a run
  pub record Unseen (σ : ℕ → ℕ) (w v : World P) (es : List Event) : Type 0 where
    pub answers : (e : Event) → answer R (run R v es) e ≡ answer R (run R w es) e
    pub sections : (k : ℕ) → section_answer (run R v es).rig k ≡ section_answer (run R w es).rig k
    pub figures : (k : ℕ) → figures_answer (run R v es).rig k ≡ figures_answer (run R w es).rig k
    pub holders : holder (run R v es).rig ≡ holder (run R w es).rig
    pub marks : (y : ℕ) → 1 ≤ y → y ≤ w.rig.cells → Matched w v (mark_at (run R w es).store y) (mark_at (run R v es).store (σ y))

  module _ (B : Blind R S) (σ : ℕ → ℕ) (w v : World P) (one : Loaded w) (two : Loaded v) (same : Renumbered σ w v) where
    abbrev n : ℕ
    n = length w.rig.seats

    abbrev m : ℕ
    m = w.rig.cells

    -- a permutation of all identities that gives each agent of w the identity of that agent of v
    replacing : (π : ℕ → ℕ) × Permutes π × ((k : ℕ) → 1 ≤ k → k ≤ n → π (agent_at R w k).identity ≡ (agent_at R v k).identity)
    replacing =
        extended n (λ k. (agent_at R w k).identity) (λ k. (agent_at R v k).identity) one.fresh.sound.identities
        (subst (Distinct (λ k. (agent_at R v k).identity) 65535) same.agents two.fresh.sound.identities)

    abbrev τ : ℕ → ℕ
    τ = place σ m

    N : Numbering σ τ m
    N = numbering σ m same.numbers

    table_same : (k : ℕ) (s t : Seat P) → named w.rig.seats k ≡ Some s → named v.rig.seats k ≡ Some t → t.table ≡ map σ s.table
    table_same k s t e f =
        let r = named_some w.rig.seats k s e in
        let first = one.tables k s e in
        let second = two.tables k t f in
        let long = length-map s.table σ in
        let cells = same.cells in
        ext_get_or 0 t.table (map σ s.table) (omega arith)
        (λ i less.
        let x = i + 1 in
        let back : x - 1 ≡ i = omega arith in
        let entry : get_or t.table (x - 1) 0 ≡ σ (get_or s.table (x - 1) 0) =
        sym (ap (λ o. table_in o x) f) ∙ same.entries k x r.0 r.1 (omega arith) (omega arith) ∙ ap (λ o. σ (table_in o x)) e in
        subst (λ j. get_or t.table j 0 ≡ σ (get_or s.table j 0)) back entry ∙ sym (get_or-map σ s.table i 0 0 (omega arith)))

    module _ (π : ℕ → ℕ) (perm : Permutes π) (gives : (k : ℕ) → 1 ≤ k → k ≤ n → π (agent_at R w k).identity ≡ (agent_at R v k).identity) (es : List Event) where
      -- v is the twin of w, and stays so
      twinned : Twinned R S σ π w v
      twinned = record {
        agents = same.agents;
        cells = same.cells;
        heard = two.heard ∙ sym one.heard;
        crowd = two.crowd ∙ sym one.crowd;
        standoff = two.standoff ∙ sym one.standoff;
        identities = gives;
        tables = table_same;
        steps = λ k s t e f. two.steps k t f ∙ sym (one.steps k s e);
        entries = λ k s t e f. two.entries k t f ∙ sym (one.entries k s e);
        refused = λ k s t e f. two.refused k t f ∙ sym (one.refused k s e);
      }

      abbrev late : World P
      late = run R w es

      after : Same R S w late
      after = run_same R S es w one.fresh.sound

      numbers : Numbering σ τ late.rig.cells
      numbers = subst (Numbering σ τ) (sym after.cells) N

      late_twin : run R v es ≡ twin σ τ π late
      late_twin = ap (λ u. run R u es) (fresh_twin R S σ τ π w v one.fresh two.fresh twinned) ∙ run_twin R S B σ τ π perm es w one.fresh.sound N

      mark_late : (y : ℕ) → 1 ≤ y → y ≤ m → mark_at (run R v es).store (σ y) ≡ replaced π (mark_at late.store y)
      mark_late y a b =
          let cells = after.cells in
          ap (λ u. mark_at u.store (σ y)) late_twin ∙ mark_twin σ τ π perm late.rig.cells numbers late.store after.sound.room y a (omega arith)

      matched : (y : ℕ) → 1 ≤ y → y ≤ m → Matched w v (mark_at late.store y) (mark_at (run R v es).store (σ y))
      matched y a b = go (mark_at late.store y) refl
        where
          go : (k : Mark) → mark_at late.store y ≡ k → Matched w v (mark_at late.store y) (mark_at (run R v es).store (σ y))
          go Empty e = empties e (mark_late y a b ∙ ap (replaced π) e)
          go (Owner i) e =
              let whose = owner_known R S B w one.fresh es y i a b e in
              let who = whose.3 in
              owners whose.0 whose.1 whose.2 (e ∙ ap Owner (sym who)) (mark_late y a b ∙ ap (replaced π) e ∙ ap (λ j. Owner (π j)) (sym who) ∙ ap Owner (gives whose.0 whose.1 whose.2))
          go (Rung r) e = rungs r e (mark_late y a b ∙ ap (replaced π) e)

      told : Unseen σ w v es
      told = record {
        answers = λ e. ap (λ u. answer R u e) late_twin ∙ answer_twin R S B σ τ π perm late after.sound numbers e;
        sections = λ k. ap (λ u. section_answer u.rig k) late_twin ∙ twin_section_answer σ π late.rig k;
        figures = λ k. ap (λ u. figures_answer u.rig k) late_twin ∙ twin_figures_answer σ π late.rig k;
        holders = ap (λ u. holder u.rig) late_twin ∙ twin_holder σ π late.rig;
        marks = matched;
      }

    -- after any events, two such worlds answer alike and have matching marks
    pub unseen : (es : List Event) → Unseen σ w v es
    unseen es = let r = replacing in told r.0 r.1 r.2 es

  -- every world that was loaded from a plan is such a one
  pub world_loaded : (p : Sayings) (ms : List Mark) → Fresh R S (loaded_world R p ms) → ((k : ℕ) → 1 ≤ k → k ≤ p.agents → length (get_or p.tables (k - 1) []) ≡ p.cells) → Loaded (loaded_world R p ms)
  world_loaded p ms fresh long =
      let at : (k : ℕ) (s : Seat P) → named (listed (seat_of R p) p.agents) k ≡ Some s → (1 ≤ k) × (k ≤ p.agents) × (seat_of R p k ≡ s) =
      λ k s e.
      let r = named_some (listed (seat_of R p) p.agents) k s e in
      let all = length_listed (seat_of R p) p.agents in
      let high : k ≤ p.agents = omega (arith, r.1, all) in
      let found = named_listed (seat_of R p) p.agents k r.0 high in
      (r.0, high, cc (e, found))
      in
      record {
        fresh = fresh;
        standoff = refl;
        heard = refl;
        crowd = refl;
        tables = λ k s e. let h = at k s e in ap (λ t. length t.table) (sym h.2) ∙ long k h.0 h.1;
        steps = λ k s e. ap (λ t. t.steps) (sym (at k s e).2);
        entries = λ k s e. ap (λ t. t.entries) (sym (at k s e).2);
        refused = λ k s e. ap (λ t. t.refused) (sym (at k s e).2);
      }
