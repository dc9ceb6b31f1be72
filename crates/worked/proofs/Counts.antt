-- Numbers of cells, for every file whose header is good up to there. Assumes nothing.
use Rattle.std.proofs.Common.{◌≡◌, ℕ, not, eqb, List, length, Some, None, Ok, Err, sym, refl, ◌∙◌, subst, arith, MatchResult}
use Rattle.std.proofs.lemmas.Bool.{eq-eqb, not_from_true}
use Rattle.numbers.specs.Factors.{gcd, common_factor, smallest_common_factor, SmallestCommonFactor}
use Rattle.numbers.specs.First.{first_of}
use Rattle.numbers.specs.Rows.{within}
use Rattle.numbers.proofs.FactorLaws.{smallest_tells_none, smallest_tells_some}
use Rattle.numbers.proofs.RowLaws.{within_from}
use Rattle.refusal.specs.Checks.{◌then◌, Check, refuse_if, refuse_at}
use Rattle.refusal.specs.declared.Refusal.TheVariants.{FileLength, FileVersion, FileRule, FileAgents, FileCells, CommonFactor}
use Rattle.plan.specs.Accepted.{Between, GoodAgents, GoodCells, Acceptable, Fault}
use Rattle.plan.specs.Bytes.{byte}
use Rattle.plan.specs.Checks.{header_of, header_check, decoded}
use Rattle.plan.proofs.Judged.{told, refuses}
use Rattle.worked.specs.Worked.{Opens, Refused, Passes, EveryFile, verdicts}

module _ {rule n m : ℕ} {file : List ℕ} (o : Opens rule n m file) where
  good_agents : Between 2 16 n → GoodAgents rule file
  good_agents some = (((o.long, o.version), o.same_rule), subst (Between 2 16) (sym o.agents) some)

  good_cells : Between 2 16 n → Between 2 64 m → GoodCells rule file
  good_cells some enough = (good_agents some, subst (Between 2 64) (sym o.cells) enough)

refused_factor : (n m l : ℕ) → Between 2 16 n → Between 2 64 m → smallest_common_factor n m ≡ Some l → Refused n m (CommonFactor l)
refused_factor n m l some enough is rule file o =
    let h = smallest_tells_some n m l is in
    let here : SmallestCommonFactor (byte file 2) (byte file 3) l = subst (λ a. SmallestCommonFactor a (byte file 3) l) (sym o.agents) (subst (λ b. SmallestCommonFactor n b l) (sym o.cells) h) in
    refuses rule file (CommonFactor l) (good_cells o some enough, here)

refused_cells : (n m : ℕ) → Between 2 16 n → (Between 2 64 m → ⊥) → Refused n m FileCells
refused_cells n m some bad rule file o = refuses rule file FileCells (good_agents o some, λ b. bad (subst (Between 2 64) o.cells b))

-- the checks of a header, by its first four bytes
abbrev judged : ℕ → ℕ → ℕ → ℕ → ℕ → Check
judged rule version its n m =
    refuse_if (not (eqb version 1)) FileVersion then
    refuse_if (not (eqb its rule)) FileRule then
    refuse_if (not (within 2 16 n)) FileAgents then
    refuse_if (not (within 2 64 m)) FileCells then
    refuse_at CommonFactor (smallest_common_factor n m)

judged_good : (rule n m : ℕ) → Between 2 16 n → Between 2 64 m → smallest_common_factor n m ≡ None → judged rule 1 rule n m ≡ Ok tt
judged_good rule n m some enough is =
    let its = not_from_true (eqb rule rule) (eq-eqb rule rule refl) in
    let agents = not_from_true (within 2 16 n) (within_from 2 16 n some.0 some.1) in
    let cells = not_from_true (within 2 64 m) (within_from 2 64 m enough.0 enough.1) in
    λ i. refuse_if (its i) FileRule then refuse_if (agents i) FileAgents then refuse_if (cells i) FileCells then refuse_at CommonFactor (is i)

passes : (n m : ℕ) → Between 2 16 n → Between 2 64 m → smallest_common_factor n m ≡ None → Passes n m
passes n m some enough is =
    let coprime = smallest_tells_none n m is in
    record {
      coprime = coprime;
      header = λ rule file o. let same : header_check rule (header_of file) ≡ judged rule 1 rule n m = λ i. judged rule (o.version i) (o.same_rule i) (o.agents i) (o.cells i) in same ∙ judged_good rule n m some enough is;
      never = λ rule file o l e.
          let h : Fault rule file (CommonFactor l) = subst (λ r. MatchResult r (λ _. Acceptable rule file) (Fault rule file)) e (told rule file).tells in
          let s : SmallestCommonFactor n m l = subst (λ a. SmallestCommonFactor a m l) o.agents (subst (λ b. SmallestCommonFactor (byte file 2) b l) o.cells h.1) in
          s.shared (coprime l s.from_two s.up_to);
    }

-- the numbers of the examples
pub every_file : EveryFile verdicts
unfolding first_of smallest_common_factor common_factor gcd
every_file = record {
  three_over_five = passes 3 5 (omega arith, omega arith) (omega arith, omega arith) refl;
  three_over_twenty_five = passes 3 25 (omega arith, omega arith) (omega arith, omega arith) refl;
  three_over_four = refused_factor 3 4 2 (omega arith, omega arith) (omega arith, omega arith) refl;
  three_over_nine = refused_factor 3 9 3 (omega arith, omega arith) (omega arith, omega arith) refl;
  five_over_twenty_five = refused_factor 5 25 5 (omega arith, omega arith) (omega arith, omega arith) refl;
  over_one = λ n some. refused_cells n 1 some (λ b. omega (arith, b.0));
  over_sixty_five = λ n some. refused_cells n 65 some (λ b. omega (arith, b.1));
}

pub eleven_bytes : (rule : ℕ) (file : List ℕ) → length file ≡ 11 → decoded rule file ≡ Err FileLength
eleven_bytes rule file is = refuses rule file FileLength (λ long. omega (arith, long.0, is))
