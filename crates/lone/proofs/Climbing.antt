-- An agent on the ladder with all its flags set: what it is judged, and where it raises. Assumes nothing.
use Rattle.std.proofs.Common.{◌≡◌, ℕ, ◌+◌, ◌-◌, ◌*◌, ◌<◌, ◌≤◌, min, Bool, true, false, leb, List, length, take, Some, None, sym, ap, ◌∙◌, le_refl, le-mul_of_pos_right, arith}
use Rattle.std.proofs.lemmas.Bool.{le-leb, lt-leb, le-ltb, cond-true, cond-false}
use Rattle.numbers.specs.First.{first_of}
use Rattle.numbers.proofs.FirstLaws.{first_none, first_found, first_up_to}
use Rattle.cells.specs.declared.mark.Mark.{Mark}
use Rattle.tally.specs.Counts.{count_names, flag_at, flags_set, lowest_flag}
use Rattle.rules.specs.Records.{going}
use Rattle.rules.specs.Lawful.{Sized}
use Rattle.rules.specs.declared.agent.Agent.{Agent}
use Rattle.rules.specs.declared.agent.Section.TheVariants.{Asking, Holding}
use Rattle.rule_ladder.specs.declared.phase.LadderPhase.{LadderPhase}
use Rattle.rule_ladder.specs.declared.phase.LadderPhase.TheVariants.{Seek, Raise}
use Rattle.rule_ladder.specs.declared.verdict.Verdict.TheVariants.{Withdraw, Hold, Climb}
use Rattle.rule_ladder.specs.Flags.{next_flag}
use Rattle.rule_ladder.specs.Moves.{judged_as, judged, raising_at}
use Rattle.rule_ladder.specs.Verdicts.{verdict, too_few}
use Rattle.lone.proofs.Fronts.{count_all, filled, length_front, at_front}

-- an asking agent
abbrev pub asker : ℕ → LadderPhase → ℕ → ℕ → List Mark → List Bool → Agent LadderPhase
asker i p x r seen flags = record {
  section = Asking;
  identity = i;
  phase = p;
  name = x;
  rung = r;
  seen = seen;
  flags = flags;
}

module _ (n m : ℕ) (sized : Sized n m) where
  -- all m flags
  abbrev pub raised : List Bool
  raised = filled false true m

  abbrev fs : List Bool
  fs = take m raised

  long : length fs ≡ m
  long = length_front m sized.cells_high false true

  flag_there : (y : ℕ) → 1 ≤ y → y ≤ m → flag_at fs y ≡ true
  flag_there y a b = at_front m sized.cells_high false true false y a b

  all_set : flags_set fs ≡ m
  all_set = ap (count_names (flag_at fs)) long ∙ count_all (flag_at fs) m flag_there

  lowest_one : lowest_flag fs ≡ Some 1
  lowest_one =
      ap (first_of (flag_at fs) 1) long
      ∙ first_up_to (flag_at fs) m 1 (omega arith) sized.cells_low (flag_there 1 (omega arith) sized.cells_low) (λ y a b. absurd (omega arith))

  pub next_one : (x : ℕ) → x < m → next_flag fs x ≡ Some (x + 1)
  next_one x less =
      let l = long in
      first_found (flag_at fs) (x + 1) (length fs - x) (1 + m) (x + 1) (omega arith) (record {
        from = le_refl (x + 1);
        below = omega arith;
        passes = flag_there (x + 1) (omega arith) (omega arith);
        first = λ y a b. absurd (omega arith);
      })

  pub next_none : (x : ℕ) → x ≡ m → next_flag fs x ≡ None
  next_none x end = let l = long in first_none (flag_at fs) (x + 1) (length fs - x) (x + 1) (omega arith) (λ y a b. absurd (omega arith))

  enough : (r : ℕ) → too_few (flags_set fs) n r m ≡ false
  enough r =
      let all = all_set in
      let more : m ≤ m * (n - r + 1) = le-mul_of_pos_right m (omega arith) in
      let same : m * (n - r + 1) ≡ flags_set fs * (n - r + 1) = ap (λ c. c * (n - r + 1)) (sym all) in
      le-ltb (flags_set fs * (n - r + 1)) m (omega arith)

  climbs : (r : ℕ) → r < n → verdict (flags_set fs) n r m ≡ Climb
  climbs r less = cond-false (too_few (flags_set fs) n r m) Withdraw _ (enough r) ∙ cond-false (leb n r) Hold Climb (lt-leb n r less)

  tops : (r : ℕ) → n ≤ r → verdict (flags_set fs) n r m ≡ Hold
  tops r less = cond-false (too_few (flags_set fs) n r m) Withdraw _ (enough r) ∙ cond-true (leb n r) Hold Climb (le-leb n r less)

  module _ (i : ℕ) (p : LadderPhase) (x r : ℕ) (seen : List Mark) where
    pub judged_on : r < n → judged n m (asker i p x r seen raised) ≡ asker i Raise 1 (r + 1) seen raised
    judged_on less =
        let high = sized.agents_high in
        let up : min (r + 1) 255 ≡ r + 1 = omega arith in
        ap (λ o. judged_as o m (asker i p x r seen raised)) (climbs r less)
        ∙ ap (λ t. raising_at (asker i p x t seen raised) (lowest_flag fs)) up
        ∙ ap (raising_at (asker i p x (r + 1) seen raised)) lowest_one

    pub judged_top : n ≤ r → judged n m (asker i p x r seen raised) ≡ going (asker i p x r seen raised) Holding Seek 1
    judged_top less = ap (λ o. judged_as o m (asker i p x r seen raised)) (tops r less)
