-- A world loaded from a plan file has nothing heard, no figures, and tables of as many names as there are cells. Assumes nothing.
use Rattle.std.proofs.Common.{◌≡◌, ℕ, List, [], length, Ok, sym, ap, ◌∙◌, subst}
use Rattle.numbers.specs.Names.{listed}
use Rattle.numbers.proofs.NameLaws.{length_listed, getD_listed}
use Rattle.plan.specs.Checks.{header_of}
use Rattle.plan.specs.Plans.{plan_at, entry_at}
use Rattle.cells.specs.declared.mark.Mark.{Mark}
use Rattle.model.specs.Meanings.{Meaning}
use Rattle.model.specs.Loads.{blank_world, load_answer, after_load}
use Rattle.runs.proofs.Lawfulness.{Steady}
use Rattle.runs.proofs.Keeping.{Fresh}
use Rattle.runs.proofs.Freshness.{plan_fresh, load_told}
use Rattle.renumbering.proofs.Renumbering.{Loaded, world_loaded}

module _ {P : Type 0} (R : Meaning P) where
  pub plan_loaded : (S : Steady R) (ms : List Mark) (file : List ℕ) → load_answer R (blank_world P ms) file ≡ Ok tt → Loaded R S (after_load R (blank_world P ms) file)
  plan_loaded S ms file ok =
      let is = (load_told R S ms file ok).world in
      let h = header_of file in
      subst (Loaded R S) (sym is)
      (world_loaded R S (plan_at h file) ms (subst (Fresh R S) is (plan_fresh R S ms file ok))
      (λ k a b.
      ap length (getD_listed (λ j. listed (entry_at h file j) h.cells) h.agents k [] a b) ∙ length_listed (entry_at h file k) h.cells))
