-- Alone by majority: m swaps, m reads. Assumes nothing.
use Rattle.std.proofs.Common.{◌≡◌, ℕ, ◌+◌, ◌*◌, ◌<◌, ◌≤◌, false, cond, ltb, List, take, replicate, sym, refl, ap, ◌∙◌, subst, arith}
use Rattle.std.proofs.lemmas.Bool.{lt-ltb, le-ltb, cond-true, cond-false}
use Rattle.numbers.specs.Names.{listed}
use Rattle.numbers.proofs.RowLaws.{within_from}
use Rattle.cells.specs.Marks.{same_mark, put}
use Rattle.cells.specs.declared.mark.Mark.{Mark}
use Rattle.cells.specs.declared.mark.Mark.TheVariants.{Empty, Owner}
use Rattle.rules.specs.Records.{going}
use Rattle.rules.specs.Lawful.{Sized, LawfulIdentity}
use Rattle.rules.specs.declared.agent.Section.TheVariants.{Asking, Holding}
use Rattle.rule_majority.specs.declared.phase.MajorityPhase.{MajorityPhase}
use Rattle.rule_majority.specs.declared.phase.MajorityPhase.TheVariants.{Take, Scan}
use Rattle.rule_majority.specs.declared.verdict.Verdict.TheVariants.{Withdraw, Hold, Again}
use Rattle.rule_majority.specs.Majority.{Record, own_seen, most_seen, to, noted, by_verdict, decided}
use Rattle.rule_majority.specs.Verdicts.{verdict}
use Rattle.model.specs.Meanings.{by_majority}
use Rattle.lone.specs.Lone.{HoldsAlone, majority_steps}
use Rattle.lone.proofs.Scenes.{Scene, turn, Ready, Leads, leads_one, leads_then, leads_through}
use Rattle.lone.proofs.Alone.{start, Ends, holds_alone}
use Rattle.lone.proofs.Fronts.{most_at_most, front, front_met, front_put, front_none, front_all, same_met, filled, filled_more, length_front, times_front}

module _ (n m i : ℕ) (sized : Sized n m) (good : LawfulIdentity i) where
  abbrev mine : Mark
  mine = Owner i

  abbrev asker : MajorityPhase → ℕ → List Mark → Record
  asker p x seen = record {
    section = Asking;
    identity = i;
    phase = p;
    name = x;
    rung = 0;
    seen = seen;
    flags = replicate 64 false;
  }

  -- the first j cells taken, and the first j of all read
  abbrev taking : ℕ → Scene MajorityPhase
  taking j = record { agent = asker Take (j + 1) (replicate 64 Empty); met = listed (front j mine Empty) m }

  abbrev scanning : ℕ → Scene MajorityPhase
  scanning j = record { agent = asker Scan (j + 1) (filled Empty mine j); met = listed (λ _. mine) m }

  abbrev held : Scene MajorityPhase
  held = record { agent = going (asker Take 1 (filled Empty mine m)) Holding Take 1; met = listed (λ _. mine) m }

  take_ready : (j : ℕ) → j < m → Ready by_majority n m (taking j)
  take_ready j less = record { asks = refl; proper = ((omega arith, omega arith), refl, within_from 1 65535 i good.0 good.1) }

  took : (j : ℕ) → j < m → (turn by_majority n m (taking j)).met ≡ listed (front (j + 1) mine Empty) m
  took j less =
      let l = listed (front j mine Empty) m in
      ap (λ c. cond (same_mark c Empty) (put l (j + 1) mine) l) (front_met m j mine Empty less) ∙ front_put m j mine Empty less

  take_on : (j : ℕ) → j + 1 < m → Leads by_majority n m 1 (taking j) (taking (j + 1))
  take_on j less =
      let agent = cond-true (ltb (j + 1) m) (asker Take (j + 1 + 1) (replicate 64 Empty)) (asker Scan 1 (replicate 64 Empty)) (lt-ltb (j + 1) m less) in
      let met = took j (omega arith) in
      leads_one by_majority n m (taking j) (taking (j + 1)) (take_ready j (omega arith)) (λ k. record { agent = agent k; met = met k })

  take_last : (j : ℕ) → j + 1 ≡ m → Leads by_majority n m 1 (taking j) (scanning 0)
  take_last j end =
      let agent = cond-false (ltb (j + 1) m) (asker Take (j + 1 + 1) (replicate 64 Empty)) (asker Scan 1 (replicate 64 Empty)) (le-ltb (j + 1) m (omega arith)) in
      let met = took j (omega arith) ∙ front_all m (j + 1) mine Empty end in
      leads_one by_majority n m (taking j) (scanning 0) (take_ready j (omega arith)) (λ k. record { agent = agent k; met = met k })

  scan_ready : (j : ℕ) → j < m → Ready by_majority n m (scanning j)
  scan_ready j less = record { asks = refl; proper = (omega arith, omega arith) }

  -- the mark that is read
  scanned : (j : ℕ) → j < m → (turn by_majority n m (scanning j)).agent ≡ cond (ltb (j + 1) m) (asker Scan (j + 1 + 1) (filled Empty mine (j + 1))) (decided m (asker Scan (j + 1) (filled Empty mine (j + 1))))
  scanned j less =
      let a = asker Scan (j + 1) (filled Empty mine j) in
      ap (λ c. cond (ltb (j + 1) m) (to (noted a c) Scan (j + 1 + 1)) (decided m (noted a c))) (same_met m (j + 1) mine (omega arith, omega arith))
      ∙ ap (λ l. cond (ltb (j + 1) m) (asker Scan (j + 1 + 1) l) (decided m (asker Scan (j + 1) l))) (filled_more Empty mine j)

  scan_on : (j : ℕ) → j + 1 < m → Leads by_majority n m 1 (scanning j) (scanning (j + 1))
  scan_on j less =
      let agent = scanned j (omega arith) ∙ cond-true (ltb (j + 1) m) _ _ (lt-ltb (j + 1) m less) in
      leads_one by_majority n m (scanning j) (scanning (j + 1)) (scan_ready j (omega arith)) (λ k. record { agent = agent k; met = listed (λ _. mine) m })

  -- all m are own
  wins : (x : ℕ) → verdict (own_seen m (asker Scan x (filled Empty mine m))) (most_seen m (asker Scan x (filled Empty mine m))) m ≡ Hold
  wins x =
      let a = asker Scan x (filled Empty mine m) in
      let own : own_seen m a ≡ m = times_front m sized.cells_high Empty mine in
      let long = length_front m sized.cells_high Empty mine in
      let most : most_seen m a ≤ m = omega (arith, most_at_most (take m (filled Empty mine m))) in
      let some = sized.cells_low in
      cond-false (ltb (own_seen m a) (most_seen m a)) Withdraw _ (le-ltb (own_seen m a) (most_seen m a) (omega arith))
      ∙ cond-true (ltb m (2 * own_seen m a)) Hold Again (lt-ltb m (2 * own_seen m a) (omega arith))

  scan_last : (j : ℕ) → j + 1 ≡ m → Leads by_majority n m 1 (scanning j) held
  scan_last j end =
      let agent : (turn by_majority n m (scanning j)).agent ≡ held.agent =
      scanned j (omega arith)
      ∙ cond-false (ltb (j + 1) m) _ _ (le-ltb (j + 1) m (omega arith))
      ∙ ap (λ l. decided m (asker Scan (j + 1) (filled Empty mine l))) end
      ∙ ap (λ o. by_verdict o m (asker Scan (j + 1) (filled Empty mine m))) (wins (j + 1))
      in
      leads_one by_majority n m (scanning j) held (scan_ready j (omega arith)) (λ k. record { agent = agent k; met = listed (λ _. mine) m })

  ends : Ends by_majority n m i (2 * m)
  ends =
      let some = sized.cells_low in
      let total : m + m ≡ 2 * m = omega arith in
      let none = sym (front_none m mine Empty) in
      let begin : start by_majority n m i ≡ taking 0 = λ k. record { agent = asker Take 1 (replicate 64 Empty); met = none k } in
      record {
        few = omega (arith, sized.cells_high);
        last = held;
        leads =
            subst (λ e. Leads by_majority n m (2 * m) e held) (sym begin)
            (subst (λ t. Leads by_majority n m t (taking 0) held) total
            (leads_then by_majority n m m m (taking 0) (scanning 0) held
            (leads_through by_majority n m taking (scanning 0) some take_on take_last)
            (leads_through by_majority n m scanning held some scan_on scan_last)));
        holds = refl;
      }

pub majority_alone : HoldsAlone by_majority majority_steps
majority_alone = holds_alone by_majority majority_steps ends
