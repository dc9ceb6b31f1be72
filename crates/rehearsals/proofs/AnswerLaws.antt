-- What the tests of answers tell. Assumes nothing.
use Rattle.std.proofs.Common.{◌≡◌, ℕ, ◌+◌, ◌≤◌, true, false, not, is_some, Ok, Err, Result, sym, refl, ap, ◌∙◌, ⊎_elim, arith}
use Rattle.std.proofs.lemmas.Bool.{true≢false, not-false}
use Rattle.numbers.proofs.FirstLaws.{first_cases}
use Rattle.refusal.specs.declared.Refusal.{Refusal}
use Rattle.rules.specs.declared.agent.Section.{Section}
use Rattle.rules.specs.declared.agent.Section.TheVariants.{Idle, Asking, Holding, Leaving}
use Rattle.model.specs.Rigs.{Rig, section_answer}
use Rattle.rehearsals.specs.Answers.{same_section, both_tell, apart, together}

section_is : (s t : Section) → same_section s t ≡ true → s ≡ t
section_is Idle Idle e = refl
section_is Asking Asking e = refl
section_is Holding Holding e = refl
section_is Leaving Leaving e = refl
section_is _ _ e = cc

answer_is : (a b : Result Section Refusal) → both_tell same_section a b ≡ true → a ≡ b
answer_is (Ok s) (Ok t) e = ap Ok (section_is s t e)
answer_is (Ok s) (Err y) e = cc
answer_is (Err x) (Ok t) e = cc
answer_is (Err x) (Err y) e = cc

module _ {P : Type 0} (g : Rig P) (l : ℕ) where
  -- agents that are together are in the same section
  pub together_tells : together g l ≡ true → (j k : ℕ) → 1 ≤ j → j ≤ l → 1 ≤ k → k ≤ l → section_answer g j ≡ section_answer g k
  together_tells e j k a b c d =
      ⊎_elim
      (λ n.
      let near : (i : ℕ) → apart g i ≡ false → section_answer g i ≡ section_answer g 1
      = λ i f. answer_is (section_answer g i) (section_answer g 1) (not-false (both_tell same_section (section_answer g i) (section_answer g 1)) f) in
      near j (n.1 j a (omega arith)) ∙ sym (near k (n.1 k c (omega arith))))
      (λ s. absurd (true≢false (sym e ∙ ap (λ o. not (is_some o)) s.1)))
      (first_cases (apart g) 1 l (1 + l) refl)
