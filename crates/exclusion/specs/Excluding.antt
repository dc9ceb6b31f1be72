-- From rigs that are freshly loaded to loads that are accepted. Assumes nothing.
use Rattle.std.specs.Prelude.{◌≡◌, ℕ, ◌≤◌, List, length}
use Rattle.std.proofs.Common.{subst}
use Rattle.rules.specs.Lawful.{Holds}
use Rattle.rules.specs.declared.agent.Section.TheVariants.{Holding}
use Rattle.model.specs.Meanings.{Meaning}
use Rattle.model.specs.Rigs.{World}
use Rattle.model.specs.Calls.{Call, play}
use Rattle.runs.proofs.Lawfulness.{Steady}
use Rattle.runs.proofs.Views.{agent_at}
use Rattle.runs.proofs.Keeping.{Fresh}
use Rattle.runs.proofs.Freshness.{plan_fresh, standoff_fresh}
use Rattle.runs.proofs.Questions.{section_tells, same_agents}
use Rattle.exclusion.specs.Exclusion.{OneHolderAtMost, NoTwoHolders}

module _ {P : Type 0} (R : Meaning P) (S : Steady R) where
  module _ (exclusive : (w : World P) → Fresh R S w → (cs : List Call) (j k : ℕ) → 1 ≤ j → j ≤ length w.rig.seats → 1 ≤ k → k ≤ length w.rig.seats → Holds (agent_at R (play R w cs) j) → Holds (agent_at R (play R w cs) k) → j ≡ k) where
    one_at_most : (w : World P) → Fresh R S w → (cs : List Call) → OneHolderAtMost (play R w cs)
    one_at_most w fresh cs j k f g =
        let a = section_tells R (play R w cs) j Holding f in
        let b = section_tells R (play R w cs) k Holding g in
        let same = same_agents R S cs w fresh.sound in
        exclusive w fresh cs j k a.0 (subst (λ n. j ≤ n) same a.1) b.0 (subst (λ n. k ≤ n) same b.1) a.2 b.2

    pub no_two_holders : NoTwoHolders R
    no_two_holders = record {
      on_plans = λ ms file ok cs. one_at_most _ (plan_fresh R S ms file ok) cs;
      on_standoffs = λ ms n m ok cs. one_at_most _ (standoff_fresh R S ms n m ok) cs;
    }
