-- From two accepted files to what their rigs answer. Assumes nothing.
use Rattle.std.proofs.Common.{◌≡◌, ℕ, ◌-◌, ◌≤◌, List, [], length, get_or, Some, Ok, Result, sym, ap, ◌∙◌, subst, arith}
use Rattle.numbers.specs.Names.{named, listed}
use Rattle.numbers.specs.Rows.{Distinct}
use Rattle.numbers.proofs.NameLaws.{length_listed, getD_listed, named_listed}
use Rattle.refusal.specs.Checks.{◌then◌}
use Rattle.refusal.specs.declared.Refusal.{Refusal}
use Rattle.plan.specs.Checks.{decoded, header_of}
use Rattle.plan.specs.Plans.{Sayings, plan_at, identity_at, entry_at, entry_in, entry_named}
use Rattle.plan.proofs.Judged.{accepts}
use Rattle.cells.specs.Marks.{mark_at}
use Rattle.cells.specs.declared.mark.Mark.{Mark}
use Rattle.model.specs.Meanings.{Meaning}
use Rattle.model.specs.Rigs.{World, run, cell_answer}
use Rattle.model.specs.Loads.{blank_world, load_answer, after_load, loaded_world, seat_of}
use Rattle.runs.proofs.Lawfulness.{Steady, Blind}
use Rattle.runs.proofs.Views.{agent_in, agent_at, table_in, table_at}
use Rattle.runs.proofs.Effects.{name_granted}
use Rattle.runs.proofs.Keeping.{Sound}
use Rattle.runs.proofs.Freshness.{load_told}
use Rattle.renumbering.specs.Renumbering.{Replaces, empty, rung, owner, RenumberingInvisible}
use Rattle.renumbering.proofs.TwinCalls.{run_same}
use Rattle.renumbering.proofs.Renumbering.{Renumbered, Matched, empties, rungs, owners, unseen}
use Rattle.renumbering.proofs.LoadedPlans.{plan_loaded}

module _ {P : Type 0} (R : Meaning P) (S : Steady R) where
  -- a plan in its world: as many agents and cells, their identities, and their tables
  module _ (ms : List Mark) (file : List ℕ) (p : Sayings) (is : decoded R.number file ≡ Ok p) (ok : load_answer R (blank_world P ms) file ≡ Ok tt) where
    abbrev start : World P
    start = after_load R (blank_world P ms) file

    plan : Sayings
    plan = plan_at (header_of file) file

    pub same_plan : p ≡ plan_at (header_of file) file
    same_plan = let e = accepts R.number file (load_told R S ms file ok).acceptable in cc (is, e)

    pub same_world : start ≡ loaded_world R p ms
    same_world = (load_told R S ms file ok).world ∙ ap (λ q. loaded_world R q ms) (sym same_plan)

    pub start_agents : length start.rig.seats ≡ p.agents
    start_agents = ap (λ w. length w.rig.seats) same_world ∙ length_listed (seat_of R p) p.agents

    pub start_cells : start.rig.cells ≡ p.cells
    start_cells = ap (λ w. w.rig.cells) same_world

    seat_there : (k : ℕ) → 1 ≤ k → k ≤ p.agents → named start.rig.seats k ≡ Some (seat_of R p k)
    seat_there k a b = ap (λ w. named w.rig.seats k) same_world ∙ named_listed (seat_of R p) p.agents k a b

    pub start_identity : (k : ℕ) → 1 ≤ k → k ≤ p.agents → named p.identities k ≡ Some (agent_at R start k).identity
    start_identity k a b =
        let h = header_of file in
        let few : k ≤ h.agents = subst (λ q. k ≤ q.agents) same_plan b in
        ap (λ q. named q.identities k) same_plan
        ∙ named_listed (identity_at h file) h.agents k a few
        ∙ ap Some (sym (getD_listed (identity_at h file) h.agents k 0 a few) ∙ ap (λ q. get_or q.identities (k - 1) 0) (sym same_plan))
        ∙ ap Some (sym (ap (λ o. (agent_in R o).identity) (seat_there k a b)))

    pub start_entry : (k x : ℕ) → 1 ≤ k → k ≤ p.agents → 1 ≤ x → x ≤ p.cells → entry_named p k x ≡ Some (table_at start k x)
    start_entry k x a b c d =
        let h = header_of file in
        let few : k ≤ h.agents = subst (λ q. k ≤ q.agents) same_plan b in
        let low : x ≤ h.cells = subst (λ q. x ≤ q.cells) same_plan d in
        let row : ℕ → List ℕ = λ j. listed (entry_at h file j) h.cells in
        ap (λ q. entry_named q k x) same_plan
        ∙ ap (λ o. entry_in o x) (named_listed row h.agents k a few)
        ∙ named_listed (entry_at h file k) h.cells x c low
        ∙ ap Some
        (sym (getD_listed (entry_at h file k) h.cells x 0 c low)
        ∙ ap (λ l. get_or l (x - 1) 0) (sym (getD_listed row h.agents k [] a few))
        ∙ ap (λ q. get_or (get_or q.tables (k - 1) []) (x - 1) 0) (sym same_plan)
        ∙ sym (ap (λ o. table_in o x) (seat_there k a b)))

  -- a cell that there is answers with its mark
  cell_told : (w : World P) (y m : ℕ) → Sound R S w → w.rig.cells ≡ m → 1 ≤ y → y ≤ m → cell_answer w y ≡ Ok (mark_at w.store y)
  cell_told w y m sound cells a b =
      let room = sound.room in
      let there : Result Mark Refusal = Ok (mark_at w.store y) in
      ap (λ c. c then there) (name_granted (length w.store) y a (omega arith))

  pub invisible : Blind R S → RenumberingInvisible R
  invisible B σ p q ms ns file other is ok is' ok' same es =
      let w = after_load R (blank_world P ms) file in
      let v = after_load R (blank_world P ns) other in
      let one = plan_loaded R S ms file ok in
      let two = plan_loaded R S ns other ok' in
      let n = start_agents ms file p is ok in
      let n' = start_agents ns other q is' ok' in
      let m = start_cells ms file p is ok in
      let m' = start_cells ns other q is' ok' in
      let agents = same.agents in
      let cells = same.cells in
      let related : Renumbered R S σ w v =
      record {
        agents = n' ∙ agents ∙ sym n;
        cells = m' ∙ cells ∙ sym m;
        numbers = subst (λ c. Distinct σ c c) (sym m) same.permutes;
        entries = λ k x a b c d.
            let first = start_entry ms file p is ok k x a (omega arith) c (omega arith) in
            let second = start_entry ns other q is' ok' k x a (omega arith) c (omega arith) in
            let through = same.tables k x (table_at w k x) first in
            cc (second, through);
      }
      in
      let u = unseen R S B σ w v one two related es in
      let late = run_same R S es w one.fresh.sound in
      let late' = run_same R S es v two.fresh.sound in
      record {
        answers = u.answers;
        sections = u.sections;
        figures = u.figures;
        holders = u.holders;
        cells = λ y a b.
            let there = same.permutes.inside y a b in
            let c = cell_told (run R w es) y p.cells late.sound (late.cells ∙ m) a b in
            let d = cell_told (run R v es) (σ y) p.cells late'.sound (late'.cells ∙ m' ∙ cells) there.0 there.1 in
            go (mark_at (run R w es).store y) (mark_at (run R v es).store (σ y)) (cell_answer (run R w es) y) (cell_answer (run R v es) (σ y)) c d n n' (u.marks y a (omega arith));
      }
    where
      go : (a b : Mark) (c d : Result Mark Refusal) → c ≡ Ok a → d ≡ Ok b → length (after_load R (blank_world P ms) file).rig.seats ≡ p.agents → length (after_load R (blank_world P ns) other).rig.seats ≡ q.agents → Matched R S (after_load R (blank_world P ms) file) (after_load R (blank_world P ns) other) a b → Replaces p q c d
      go a b c d e f n n' (empties g h) = empty (e ∙ ap Ok g) (f ∙ ap Ok h)
      go a b c d e f n n' (rungs r g h) = rung r (e ∙ ap Ok g) (f ∙ ap Ok h)
      go a b c d e f n n' (owners k low high g h) =
          let agents = same.agents in
          owner k _ _ (start_identity ms file p is ok k low (omega arith)) (start_identity ns other q is' ok' k low (omega arith)) (e ∙ ap Ok g) (f ∙ ap Ok h)
