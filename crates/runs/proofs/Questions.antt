-- What the section question answers, and that the number of agents stays. Assumes nothing.
use Rattle.std.proofs.Common.{◌≡◌, ℕ, ◌≤◌, not, List, length, Ok, Result, sym, refl, ap, ◌∙◌}
use Rattle.numbers.specs.Names.{named}
use Rattle.numbers.proofs.RowLaws.{within_from}
use Rattle.refusal.specs.Checks.{◌then◌, refuse_if}
use Rattle.refusal.specs.declared.Refusal.{Refusal}
use Rattle.refusal.specs.declared.Refusal.TheVariants.{NoSuchAgent}
use Rattle.refusal.proofs.CheckLaws.{ok_then}
use Rattle.rules.specs.declared.agent.Section.{Section}
use Rattle.model.specs.Meanings.{Meaning}
use Rattle.model.specs.Rigs.{World, agent_check, section_at, section_answer}
use Rattle.model.specs.Calls.{Call, play}
use Rattle.runs.proofs.Lawfulness.{Steady}
use Rattle.runs.proofs.Views.{agent_at}
use Rattle.runs.proofs.Keeping.{Sound, there_told, section_view, play_keeps}

pub section_tells : {P : Type 0} (R : Meaning P) (w : World P) (k : ℕ) (s : Section) → section_answer w.rig k ≡ Ok s → (1 ≤ k) × (k ≤ length w.rig.seats) × ((agent_at R w k).section ≡ s)
section_tells R w k s e =
    let p = ok_then (agent_check w.rig k) (Ok (section_at w.rig k)) s (sym e) in
    let q = there_told w.rig k p.0 in
    let same : section_at w.rig k ≡ s = cc p.1 in
    (q.0, q.1, sym (section_view R (named w.rig.seats k)) ∙ same)

pub section_told : {P : Type 0} (R : Meaning P) (w : World P) (k : ℕ) → 1 ≤ k → k ≤ length w.rig.seats → section_answer w.rig k ≡ Ok (agent_at R w k).section
section_told R w k low high =
    let there : Result Section Refusal = Ok (section_at w.rig k) in
    ap (λ b. refuse_if (not b) (NoSuchAgent k) then there) (within_from 1 (length w.rig.seats) k low high) ∙ ap Ok (section_view R (named w.rig.seats k))

module _ {P : Type 0} (R : Meaning P) (S : Steady R) where
  pub same_agents : (cs : List Call) (w : World P) → Sound R S w → length (play R w cs).rig.seats ≡ length w.rig.seats
  same_agents cs w sound =
      (play_keeps R S (λ v. length v.rig.seats ≡ length w.rig.seats) (λ k u v sound low high effect here. effect.kept.agents ∙ here) cs w sound refl).1
