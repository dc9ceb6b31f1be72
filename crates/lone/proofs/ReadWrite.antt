-- Alone by read and write: a look and a write for each cell, and a last look. Assumes nothing.
use Rattle.std.proofs.Common.{◌≡◌, ℕ, zero, suc, ◌+◌, ◌*◌, ◌<◌, ◌≤◌, false, not, ◌&&◌, eqb, List, replicate, Some, sym, refl, ap, ◌∙◌, subst, ⊎_elim, add-one, arith}
use Rattle.std.proofs.lemmas.Bool.{cases_eq, eq-eqb, ne_eqb, cond-true, cond-false, and_left, and_right, not_from_true}
use Rattle.numbers.specs.First.{first_of}
use Rattle.numbers.specs.Names.{listed}
use Rattle.numbers.proofs.FirstLaws.{first_up_to}
use Rattle.numbers.proofs.NameLaws.{length_listed, getD_listed}
use Rattle.numbers.proofs.RowLaws.{within_from}
use Rattle.cells.specs.Marks.{same_mark, mark_at}
use Rattle.cells.specs.declared.mark.Mark.{Mark}
use Rattle.cells.specs.declared.mark.Mark.TheVariants.{Empty, Owner}
use Rattle.tally.specs.Counts.{count_names, has, times, lowest, identities}
use Rattle.rules.specs.Records.{going, overlaid}
use Rattle.rules.specs.Lawful.{Sized, LawfulIdentity}
use Rattle.rules.specs.declared.agent.Section.TheVariants.{Asking, Holding}
use Rattle.rule_read_write.specs.declared.phase.ReadWritePhase.{ReadWritePhase}
use Rattle.rule_read_write.specs.declared.phase.ReadWritePhase.TheVariants.{Look, Put}
use Rattle.rule_read_write.specs.declared.judging.Verdict.TheVariants.{Hold, Again, Put as PutAt}
use Rattle.rule_read_write.specs.Judging.{otherwise, look_verdict}
use Rattle.rule_read_write.specs.ReadWrite.{Record, led}
use Rattle.model.specs.Meanings.{read_and_write}
use Rattle.runs.proofs.Effects.{equal_same}
use Rattle.lone.specs.Lone.{HoldsAlone, register_steps}
use Rattle.lone.proofs.Scenes.{Scene, turn, Leads, leads_one, leads_then, leads_each}
use Rattle.lone.proofs.Alone.{start, Ends, holds_alone}
use Rattle.lone.proofs.Fronts.{count_front, count_all, front, front_new, front_old, front_put, front_none}

module _ (n m i : ℕ) (sized : Sized n m) (good : LawfulIdentity i) where
  abbrev mine : Mark
  mine = Owner i

  -- the first j cells own, the others empty
  abbrev marks_of : ℕ → List Mark
  marks_of j = listed (front j mine Empty) m

  own_at : (j y : ℕ) → 1 ≤ y → y ≤ m → y ≤ j → mark_at (marks_of j) y ≡ mine
  own_at j y a b less = getD_listed (front j mine Empty) m y Empty a b ∙ front_new j mine Empty y less

  empty_at : (j y : ℕ) → 1 ≤ y → y ≤ m → j < y → mark_at (marks_of j) y ≡ Empty
  empty_at j y a b more = getD_listed (front j mine Empty) m y Empty a b ∙ front_old j mine Empty y more

  own_times : (j : ℕ) → j ≤ m → times (marks_of j) mine ≡ j
  own_times j less =
      ap (count_names (has (marks_of j) mine)) (length_listed (front j mine Empty) m)
      ∙ count_front (has (marks_of j) mine) m j less
      (λ y a b. ap (λ c. same_mark c mine) (own_at j y a (omega arith) b) ∙ equal_same mine)
      (λ y a b. ap (λ c. same_mark c mine) (empty_at j y (omega arith) b a))

  empty_times : times (marks_of 0) Empty ≡ m
  empty_times =
      ap (count_names (has (marks_of 0) Empty)) (length_listed (front 0 mine Empty) m)
      ∙ count_all (has (marks_of 0) Empty) m (λ y a b. ap (λ c. same_mark c Empty) (empty_at 0 y a b a))

  lowest_empty : (j : ℕ) → j < m → lowest (marks_of j) Empty ≡ Some (j + 1)
  lowest_empty j less =
      ap (first_of (has (marks_of j) Empty) 1) (length_listed (front j mine Empty) m)
      ∙ first_up_to (has (marks_of j) Empty) m (j + 1) (omega arith) (omega arith)
      (ap (λ c. same_mark c Empty) (empty_at j (j + 1) (omega arith) (omega arith) (omega arith)))
      (λ y a b. ap (λ c. same_mark c Empty) (own_at j y a (omega arith) (omega arith)))

  -- at first none is own, and all are empty
  no_waiting : (j : ℕ) → j < m → (eqb (times (marks_of j) mine) 0 && not (eqb (times (marks_of j) Empty) m)) ≡ false
  no_waiting j less =
      ⊎_elim
      (λ none.
      and_right (eqb (times (marks_of j) mine) 0) (not (eqb (times (marks_of j) Empty) m))
      (not_from_true (eqb (times (marks_of j) Empty) m) (eq-eqb (times (marks_of j) Empty) m (ap (λ l. times (marks_of l) Empty) none ∙ empty_times))))
      (λ some. let own = own_times j (omega arith) in and_left (eqb (times (marks_of j) mine) 0) _ (ne_eqb (times (marks_of j) mine) 0 (λ e. some (omega arith))))
      (cases_eq j 0)

  puts : (j : ℕ) → j < m → look_verdict (marks_of j) mine m ≡ PutAt (j + 1)
  puts j less =
      let own = own_times j (omega arith) in
      cond-false (eqb (times (marks_of j) mine) m) Hold _ (ne_eqb (times (marks_of j) mine) m (λ e. omega arith))
      ∙ cond-false (eqb (times (marks_of j) mine) 0 && not (eqb (times (marks_of j) Empty) m)) Again _ (no_waiting j less)
      ∙ ap (λ x. otherwise (times (marks_of j) mine) x (identities (marks_of j)) m) (lowest_empty j less)

  wins : look_verdict (marks_of m) mine m ≡ Hold
  wins = cond-true (eqb (times (marks_of m) mine) m) Hold _ (eq-eqb (times (marks_of m) mine) m (own_times m (omega arith)))

  abbrev asker : ReadWritePhase → ℕ → List Mark → Record
  asker p x seen = record {
    section = Asking;
    identity = i;
    phase = p;
    name = x;
    rung = 0;
    seen = seen;
    flags = replicate 64 false;
  }

  -- what was seen before look j
  abbrev seen_up : ℕ → List Mark
  seen_up zero = replicate 64 Empty
  seen_up (suc j) = overlaid (marks_of j) (seen_up j)

  seen_more : (j : ℕ) → overlaid (marks_of j) (seen_up j) ≡ seen_up (j + 1)
  seen_more j = ap seen_up (sym (add-one j))

  abbrev looking : ℕ → Scene ReadWritePhase
  looking j = record { agent = asker Look 1 (seen_up j); met = marks_of j }

  abbrev putting : ℕ → Scene ReadWritePhase
  putting j = record { agent = asker Put (j + 1) (seen_up (j + 1)); met = marks_of j }

  abbrev held : Scene ReadWritePhase
  held = record { agent = going (asker Look 1 (seen_up (m + 1))) Holding Look 1; met = marks_of m }

  look_on : (j : ℕ) → j < m → Leads read_and_write n m 1 (looking j) (putting j)
  look_on j less =
      let agent : (turn read_and_write n m (looking j)).agent ≡ (putting j).agent =
      ap (λ o. led o (asker Look 1 (overlaid (marks_of j) (seen_up j)))) (puts j less) ∙ ap (asker Put (j + 1)) (seen_more j)
      in
      leads_one read_and_write n m (looking j) (putting j) (record { asks = refl; proper = tt }) (λ k. record { agent = agent k; met = marks_of j })

  put_on : (j : ℕ) → j < m → Leads read_and_write n m 1 (putting j) (looking (j + 1))
  put_on j less =
      let met = front_put m j mine Empty less in
      leads_one read_and_write n m (putting j) (looking (j + 1)) (record { asks = refl; proper = ((omega arith, omega arith), within_from 1 65535 i good.0 good.1) })
      (λ k. record { agent = asker Look 1 (seen_up (j + 1)); met = met k })

  look_last : Leads read_and_write n m 1 (looking m) held
  look_last =
      let agent : (turn read_and_write n m (looking m)).agent ≡ held.agent =
      ap (λ o. led o (asker Look 1 (overlaid (marks_of m) (seen_up m)))) wins ∙ ap (λ l. going (asker Look 1 l) Holding Look 1) (seen_more m)
      in
      leads_one read_and_write n m (looking m) held (record { asks = refl; proper = tt }) (λ k. record { agent = agent k; met = marks_of m })

  ends : Ends read_and_write n m i (2 * m + 1)
  ends =
      let none = sym (front_none m mine Empty) in
      let begin : start read_and_write n m i ≡ looking 0 = λ k. record { agent = asker Look 1 (replicate 64 Empty); met = none k } in
      record {
        few = omega (arith, sized.cells_high);
        last = held;
        leads =
            subst (λ e. Leads read_and_write n m (2 * m + 1) e held) (sym begin)
            (leads_then read_and_write n m (2 * m) 1 (looking 0) (looking m) held
            (leads_each read_and_write n m 2 m looking (λ j less. leads_then read_and_write n m 1 1 (looking j) (putting j) (looking (j + 1)) (look_on j less) (put_on j less)))
            look_last);
        holds = refl;
      }

pub registers_alone : HoldsAlone read_and_write register_steps
registers_alone = holds_alone read_and_write register_steps ends
