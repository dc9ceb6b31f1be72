-- From accepted stand-off loads to what the section question answers. Assumes nothing.
use Rattle.std.proofs.Common.{◌≡◌, ℕ, ◌-◌, ◌≤◌, Bool, not, List, length, replicate, is_some, Ok, sym, ap, ◌∙◌, subst, ⊎_elim, arith}
use Rattle.std.proofs.lemmas.List.{length-replicate, get_or-replicate}
use Rattle.std.proofs.lemmas.Bool.{cases_eq, cases_lt, eq-eqb}
use Rattle.numbers.specs.Factors.{SmallestCommonFactor, smallest_common_factor}
use Rattle.numbers.specs.First.{first_of}
use Rattle.numbers.proofs.FactorLaws.{smallest_some}
use Rattle.numbers.specs.Rows.{within}
use Rattle.numbers.proofs.NameLaws.{length_listed}
use Rattle.numbers.proofs.FirstLaws.{none_up_to}
use Rattle.numbers.proofs.RowLaws.{within_from}
use Rattle.refusal.specs.Checks.{◌then◌, Check, refuse_if, refuse_at}
use Rattle.refusal.specs.declared.Refusal.TheVariants.{CellCount, CellTaken, StandoffAgents, StandoffCells, NoCommonFactor}
use Rattle.cells.specs.Marks.{same_mark, mark_at}
use Rattle.cells.specs.declared.mark.Mark.{Mark}
use Rattle.cells.specs.declared.mark.Mark.TheVariants.{Empty}
use Rattle.rules.specs.declared.agent.Section.TheVariants.{Holding}
use Rattle.model.specs.Meanings.{Meaning}
use Rattle.model.specs.Rigs.{World, section_answer}
use Rattle.model.specs.Loads.{blank_world, empty_check, standoff_seat, standoff_answer, after_standoff}
use Rattle.model.specs.Calls.{Call, play}
use Rattle.runs.proofs.Lawfulness.{Steady, Blind}
use Rattle.runs.proofs.Freshness.{Stands, standoff_told, standoff_fresh}
use Rattle.runs.proofs.Questions.{section_tells, section_told, same_agents}
use Rattle.exclusion.specs.Exclusion.{OneHolderAtMost, NoTwoHolders}
use Rattle.lockstep.specs.Standoffs.{StandsOff, SameSection, NobodyHolds}
use Rattle.lockstep.proofs.Lockstep.{Together, lockstep_loaded}

-- a number found is the smallest one
same_factor : (n m j l : ℕ) → SmallestCommonFactor n m j → SmallestCommonFactor n m l → j ≡ l
same_factor n m j l f g =
    let one = smallest_some n m j f.from_two f.up_to f.shared f.smallest in
    let two = smallest_some n m l g.from_two g.up_to g.shared g.smallest in
    cc (one, two)

all_empty : (m : ℕ) → empty_check m (replicate m Empty) ≡ Ok tt
all_empty m =
    let ms = replicate m Empty in
    let long : length ms ≡ m = length-replicate m Empty in
    let test : ℕ → Bool = λ y. not (same_mark (mark_at ms y) Empty) in
    let rest : Check = refuse_at CellTaken (first_of test 1 m) in
    ap (λ b. refuse_if (not b) CellCount then rest) (eq-eqb (length ms) m long)
    ∙ ap (refuse_at CellTaken) (none_up_to test m (λ y a b. ap (λ k. not (same_mark k Empty)) (get_or-replicate m (y - 1) Empty Empty (omega arith))))

module _ {P : Type 0} (R : Meaning P) where
  pub stands_off : StandsOff R
  stands_off n m l a b c d factor =
      let found = smallest_some n m l factor.from_two factor.up_to factor.shared factor.smallest in
      let last : Check = empty_check m (replicate m Empty) in
      let third : Check = refuse_if (not (is_some (smallest_common_factor n m))) NoCommonFactor in
      let second : Check = refuse_if (not (within 2 64 m)) StandoffCells in
      ap (λ t. refuse_if (not t) StandoffAgents then second then third then last) (within_from 2 16 n a b)
      ∙ ap (λ t. refuse_if (not t) StandoffCells then third then last) (within_from 2 64 m c d)
      ∙ ap (λ o. refuse_if (not (is_some o)) NoCommonFactor then last) found
      ∙ all_empty m

  module _ (S : Steady R) (B : Blind R S) (ms : List Mark) (n m l : ℕ) (h : Stands R S ms n m l) (ok : standoff_answer R (blank_world P ms) n m ≡ Ok tt) (cs : List Call) where
    abbrev late : World P
    late = play R (after_standoff R (blank_world P ms) n m) cs

    still : Together R l n late
    still = lockstep_loaded R S B l n m ms h cs

    still_there : length late.rig.seats ≡ n
    still_there =
        same_agents R S cs (after_standoff R (blank_world P ms) n m) (standoff_fresh R S ms n m ok).sound
        ∙ ap (λ w. length w.rig.seats) h.world
        ∙ length_listed (standoff_seat R l m) n

    same_answer : (j k : ℕ) → 1 ≤ j → j ≤ l → 1 ≤ k → k ≤ l → section_answer late.rig j ≡ section_answer late.rig k
    same_answer j k a b c d =
        let few = h.factor.up_to in
        let all = still_there in
        section_told R late j a (omega arith) ∙ ap Ok (still.same j k a b c d) ∙ sym (section_told R late k c (omega arith))

    -- a holder among the agents that move together is not alone, and every other agent is idle
    none_holds : OneHolderAtMost late → (k : ℕ) → section_answer late.rig k ≡ Ok Holding → ⊥
    none_holds one k holds =
        let t = section_tells R late k Holding holds in
        let all = still_there in
        let two = h.factor.from_two in
        ⊎_elim
        (λ beyond. let z : ◌≡◌ {A = ℕ} 0 1 = cc (still.idle k beyond (omega (arith, t.1)), t.2) in omega arith)
        (λ among.
        ⊎_elim
        (λ first. let e = one 2 k (same_answer 2 k (omega arith) two t.0 among ∙ holds) holds in omega arith)
        (λ later. later (sym (one 1 k (same_answer 1 k (omega arith) (omega arith) t.0 among ∙ holds) holds)))
        (cases_eq k 1))
        (cases_lt l k)

  module _ (S : Steady R) (B : Blind R S) where
    pub same_section : SameSection R
    same_section ms n m l ok factor cs j k a b c d =
        let found = standoff_told R S ms n m ok in
        let h = subst (Stands R S ms n m) (same_factor n m found.0 l found.1.factor factor) found.1 in
        same_answer S B ms n m l h ok cs j k a b c d

    pub nobody_holds : NoTwoHolders R → NobodyHolds R
    nobody_holds one ms n m ok cs k holds =
        let found = standoff_told R S ms n m ok in
        none_holds S B ms n m found.0 found.1 ok cs (one.on_standoffs ms n m ok cs) k holds
