-- Two agents over three cells, and one of them alone. Assumes nothing.
use Rattle.std.proofs.Common.{◌≡◌, ℕ, List, length, is_ok, Ok, Err, Result, sym, refl, ap, ◌∙◌, subst, arith, MatchResult}
use Rattle.std.proofs.lemmas.Bool.{false≢true}
use Rattle.numbers.proofs.NameLaws.{length_listed}
use Rattle.refusal.specs.declared.Refusal.{Refusal}
use Rattle.plan.specs.Accepted.{Acceptable, Fault}
use Rattle.plan.specs.Bytes.{byte}
use Rattle.plan.specs.Checks.{header_of, decoded}
use Rattle.plan.specs.Plans.{Sayings, plan_at}
use Rattle.plan.proofs.Judged.{told, accepts}
use Rattle.cells.specs.declared.mark.Mark.{Mark}
use Rattle.model.specs.Meanings.{Meaning}
use Rattle.model.specs.Rigs.{World, after_check}
use Rattle.model.specs.Loads.{blank_world, seat_of, loaded_world, plan_answer, load_answer, filled, after_load}
use Rattle.lone.specs.Lone.{HoldsAt, HoldsAlone}
use Rattle.worked.specs.Worked.{TwoOverThree}

module _ {P : Type 0} (R : Meaning P) where
  -- an accepted load makes the rig of the file's plan
  loaded_as : (ms : List Mark) (file : List ℕ) → load_answer R (blank_world P ms) file ≡ Ok tt → after_load R (blank_world P ms) file ≡ loaded_world R (plan_at (header_of file) file) ms
  loaded_as ms file ok = go (decoded R.number file) refl
    where
      go : (d : Result Sayings Refusal) → decoded R.number file ≡ d → after_load R (blank_world P ms) file ≡ loaded_world R (plan_at (header_of file) file) ms
      go (Err e) is = absurd (false≢true (ap is_ok (sym (ap (plan_answer R ms) is) ∙ ok)))
      go (Ok p) is =
          let good : Acceptable R.number file = subst (λ r. MatchResult r (λ _. Acceptable R.number file) (Fault R.number file)) is (told R.number file).tells in
          ap (λ c. after_check c (filled R (blank_world P ms) (decoded R.number file)) (blank_world P ms)) ok ∙ ap (filled R (blank_world P ms)) (accepts R.number file good)

  pub two_over_three : (T : ℕ → ℕ → ℕ) → HoldsAlone R T → TwoOverThree R (T 2 3)
  two_over_three T alone ms file ok two three k here =
      let w : World P = after_load R (blank_world P ms) file in
      let world = loaded_as ms file ok in
      let agents : length w.rig.seats ≡ 2 = ap (λ v. length v.rig.seats) world ∙ length_listed (seat_of R (plan_at (header_of file) file)) (byte file 2) ∙ two in
      let cells : w.rig.cells ≡ 3 = ap (λ v. v.rig.cells) world ∙ three in
      let same : T (length w.rig.seats) w.rig.cells ≡ T 2 3 = λ i. T (agents i) (cells i) in
      subst (HoldsAt R w k) same (alone ms file ok k here.0 (omega (arith, here.1, agents)))
