-- Alone on the ladder: for the first rung m reads and m swaps, for each further one m writes and m reads. Assumes nothing.
use Rattle.std.proofs.Common.{◌≡◌, ℕ, suc, ◌+◌, ◌-◌, ◌*◌, ◌<◌, ◌≤◌, Bool, true, false, cond, eqb, ltb, leb, List, take, replicate, sym, refl, ap, ◌∙◌, subst, mul-le-mul, mul-suc, arith}
use Rattle.std.proofs.lemmas.Bool.{lt-ltb, le-ltb, le-leb, eq-eqb, cond-true, cond-false}
use Rattle.numbers.specs.Names.{listed}
use Rattle.numbers.proofs.RowLaws.{within_from}
use Rattle.cells.specs.Marks.{same_mark, put}
use Rattle.cells.specs.declared.mark.Mark.{Mark}
use Rattle.cells.specs.declared.mark.Mark.TheVariants.{Empty, Rung}
use Rattle.tally.specs.Counts.{times}
use Rattle.rules.specs.Records.{going}
use Rattle.rules.specs.Lawful.{Sized}
use Rattle.rules.specs.declared.agent.Agent.{Agent}
use Rattle.rules.specs.declared.agent.Section.TheVariants.{Holding}
use Rattle.rule_ladder.specs.declared.phase.LadderPhase.{LadderPhase}
use Rattle.rule_ladder.specs.declared.phase.LadderPhase.TheVariants.{Seek, Take, Raise, Fill, Try}
use Rattle.rule_ladder.specs.Ladder.{taken, filled as fills}
use Rattle.rule_ladder.specs.Moves.{turning, onward, judged, raising_at, sought}
use Rattle.model.specs.Meanings.{by_ladder}
use Rattle.lone.specs.Lone.{HoldsAlone, ladder_steps}
use Rattle.lone.proofs.Scenes.{Scene, turn, Ready, Leads, leads_one, leads_then, leads_each, leads_through}
use Rattle.lone.proofs.Alone.{Ends, holds_alone}
use Rattle.lone.proofs.Fronts.{front, front_met, front_put, front_none, front_all, same_met, filled, filled_more, times_front}
use Rattle.lone.proofs.Climbing.{asker, raised, next_one, next_none, judged_on, judged_top}

module _ (n m i : ℕ) (sized : Sized n m) where
  abbrev seen : List Mark
  seen = filled Empty Empty m

  abbrev flags : List Bool
  flags = raised n m sized

  abbrev unset : List Bool
  unset = replicate 64 false

  -- the first j cells read as empty
  abbrev seeking : ℕ → Scene LadderPhase
  seeking j = record { agent = asker i Seek (j + 1) 0 (filled Empty Empty j) unset; met = listed (λ _. Empty) m }

  -- the first j cells taken
  abbrev taking : ℕ → Scene LadderPhase
  taking j = record { agent = asker i Take (j + 1) 1 seen (filled false true j); met = listed (front j (Rung 1) Empty) m }

  -- the first j cells raised from rung r to the next
  abbrev raising : ℕ → ℕ → Scene LadderPhase
  raising r j = record { agent = asker i Raise (j + 1) (r + 1) seen flags; met = listed (front j (Rung (r + 1)) (Rung r)) m }

  -- the first j cells read, all on rung r
  abbrev filling : ℕ → ℕ → Scene LadderPhase
  filling r j = record { agent = asker i Fill (j + 1) r seen flags; met = listed (λ _. Rung r) m }

  abbrev held : Scene LadderPhase
  held = record { agent = going (asker i Fill m n seen flags) Holding Seek 1; met = listed (λ _. Rung n) m }

  -- SEEK

  seek_ready : (j : ℕ) → j < m → Ready by_ladder n m (seeking j)
  seek_ready j less = record { asks = refl; proper = (omega arith, omega arith) }

  abbrev sought_on : ℕ → List Mark → Agent LadderPhase
  sought_on j l = cond (ltb (j + 1) m) (asker i Seek (j + 1 + 1) 0 l unset) (cond (eqb (times (take m l) Empty) m) (asker i Take 1 1 l unset) (asker i Seek 1 0 l unset))

  seeks : (j : ℕ) → j < m → (turn by_ladder n m (seeking j)).agent ≡ sought_on j (filled Empty Empty (j + 1))
  seeks j less =
      ap (sought m (asker i Seek (j + 1) 0 (filled Empty Empty j) unset)) (same_met m (j + 1) Empty (omega arith, omega arith))
      ∙ ap (sought_on j) (filled_more Empty Empty j)

  seek_on : (j : ℕ) → j + 1 < m → Leads by_ladder n m 1 (seeking j) (seeking (j + 1))
  seek_on j less =
      let agent = seeks j (omega arith) ∙ cond-true (ltb (j + 1) m) _ _ (lt-ltb (j + 1) m less) in
      leads_one by_ladder n m (seeking j) (seeking (j + 1)) (seek_ready j (omega arith)) (λ k. record { agent = agent k; met = listed (λ _. Empty) m })

  seek_last : (j : ℕ) → j + 1 ≡ m → Leads by_ladder n m 1 (seeking j) (taking 0)
  seek_last j end =
      let agent : (turn by_ladder n m (seeking j)).agent ≡ (taking 0).agent =
      seeks j (omega arith)
      ∙ ap (λ l. sought_on j (filled Empty Empty l)) end
      ∙ cond-false (ltb (j + 1) m) _ _ (le-ltb (j + 1) m (omega arith))
      ∙ cond-true (eqb (times (take m seen) Empty) m) _ _ (eq-eqb (times (take m seen) Empty) m (times_front m sized.cells_high Empty Empty))
      in
      let met = sym (front_none m (Rung 1) Empty) in
      leads_one by_ladder n m (seeking j) (taking 0) (seek_ready j (omega arith)) (λ k. record { agent = agent k; met = met k })

  -- TAKE

  take_ready : (j : ℕ) → j < m → Ready by_ladder n m (taking j)
  take_ready j less = record { asks = refl; proper = ((omega arith, omega arith), refl, refl) }

  abbrev taken_on : ℕ → List Bool → Agent LadderPhase
  taken_on j l = cond (ltb (j + 1) m) (asker i Take (j + 1 + 1) 1 seen l) (judged n m (asker i Take (j + 1) 1 seen l))

  takes : (j : ℕ) → j < m → (turn by_ladder n m (taking j)).agent ≡ taken_on j (filled false true (j + 1))
  takes j less =
      ap (λ c. taken n m (asker i Take (j + 1) 1 seen (filled false true j)) (same_mark c Empty)) (front_met m j (Rung 1) Empty less)
      ∙ ap (taken_on j) (filled_more false true j)

  took : (j : ℕ) → j < m → (turn by_ladder n m (taking j)).met ≡ listed (front (j + 1) (Rung 1) Empty) m
  took j less =
      let l = listed (front j (Rung 1) Empty) m in
      ap (λ c. cond (same_mark c Empty) (put l (j + 1) (Rung 1)) l) (front_met m j (Rung 1) Empty less) ∙ front_put m j (Rung 1) Empty less

  take_on : (j : ℕ) → j + 1 < m → Leads by_ladder n m 1 (taking j) (taking (j + 1))
  take_on j less =
      let agent = takes j (omega arith) ∙ cond-true (ltb (j + 1) m) _ _ (lt-ltb (j + 1) m less) in
      let met = took j (omega arith) in
      leads_one by_ladder n m (taking j) (taking (j + 1)) (take_ready j (omega arith)) (λ k. record { agent = agent k; met = met k })

  take_last : (j : ℕ) → j + 1 ≡ m → Leads by_ladder n m 1 (taking j) (raising 1 0)
  take_last j end =
      let two = sized.agents_low in
      let agent : (turn by_ladder n m (taking j)).agent ≡ (raising 1 0).agent =
      takes j (omega arith)
      ∙ ap (λ l. taken_on j (filled false true l)) end
      ∙ cond-false (ltb (j + 1) m) _ _ (le-ltb (j + 1) m (omega arith))
      ∙ judged_on n m sized i Take (j + 1) 1 seen (omega arith)
      in
      let met = took j (omega arith) ∙ front_all m (j + 1) (Rung 1) Empty end ∙ sym (front_none m (Rung (1 + 1)) (Rung 1)) in
      leads_one by_ladder n m (taking j) (raising 1 0) (take_ready j (omega arith)) (λ k. record { agent = agent k; met = met k })

  -- RAISE and FILL, from rung r to the next
  module _ (r : ℕ) (below : r < n) where
    raise_ready : (j : ℕ) → j < m → Ready by_ladder n m (raising r j)
    raise_ready j less = let high = sized.agents_high in record { asks = refl; proper = ((omega arith, omega arith), within_from 1 16 (r + 1) (omega arith) (omega arith)) }

    raise_on : (j : ℕ) → j + 1 < m → Leads by_ladder n m 1 (raising r j) (raising r (j + 1))
    raise_on j less =
        let agent : (turn by_ladder n m (raising r j)).agent ≡ (raising r (j + 1)).agent = ap (raising_at (asker i Raise (j + 1) (r + 1) seen flags)) (next_one n m sized (j + 1) less) in
        let met = front_put m j (Rung (r + 1)) (Rung r) (omega arith) in
        leads_one by_ladder n m (raising r j) (raising r (j + 1)) (raise_ready j (omega arith)) (λ k. record { agent = agent k; met = met k })

    raise_last : (j : ℕ) → j + 1 ≡ m → Leads by_ladder n m 1 (raising r j) (filling (r + 1) 0)
    raise_last j end =
        let agent : (turn by_ladder n m (raising r j)).agent ≡ (filling (r + 1) 0).agent = ap (raising_at (asker i Raise (j + 1) (r + 1) seen flags)) (next_none n m sized (j + 1) end) in
        let met = front_put m j (Rung (r + 1)) (Rung r) (omega arith) ∙ front_all m (j + 1) (Rung (r + 1)) (Rung r) end in
        leads_one by_ladder n m (raising r j) (filling (r + 1) 0) (raise_ready j (omega arith)) (λ k. record { agent = agent k; met = met k })

    raises : Leads by_ladder n m m (raising r 0) (filling (r + 1) 0)
    raises = leads_through by_ladder n m (raising r) (filling (r + 1) 0) sized.cells_low raise_on raise_last

  module _ (r : ℕ) where
    fill_ready : (j : ℕ) → j < m → Ready by_ladder n m (filling r j)
    fill_ready j less = record { asks = refl; proper = (omega arith, omega arith) }

    reads : (j : ℕ) → j < m → (turn by_ladder n m (filling r j)).agent ≡ onward n m (asker i Fill (j + 1) r seen flags) Fill
    reads j less =
        let a = asker i Fill (j + 1) r seen flags in
        ap (fills n m a) (same_met m (j + 1) (Rung r) (omega arith, omega arith)) ∙ cond-true (leb r r) (onward n m a Fill) (turning a Try (j + 1)) (le-leb r r (omega arith))

    fill_on : (j : ℕ) → j + 1 < m → Leads by_ladder n m 1 (filling r j) (filling r (j + 1))
    fill_on j less =
        let agent = reads j (omega arith) ∙ cond-true (ltb (j + 1) m) _ _ (lt-ltb (j + 1) m less) in
        leads_one by_ladder n m (filling r j) (filling r (j + 1)) (fill_ready j (omega arith)) (λ k. record { agent = agent k; met = listed (λ _. Rung r) m })

    read_last : (j : ℕ) → j + 1 ≡ m → (turn by_ladder n m (filling r j)).agent ≡ judged n m (asker i Fill (j + 1) r seen flags)
    read_last j end = reads j (omega arith) ∙ cond-false (ltb (j + 1) m) _ _ (le-ltb (j + 1) m (omega arith))

    fill_climbs : r < n → (j : ℕ) → j + 1 ≡ m → Leads by_ladder n m 1 (filling r j) (raising r 0)
    fill_climbs less j end =
        let agent = read_last j end ∙ judged_on n m sized i Fill (j + 1) r seen less in
        let met = sym (front_none m (Rung (r + 1)) (Rung r)) in
        leads_one by_ladder n m (filling r j) (raising r 0) (fill_ready j (omega arith)) (λ k. record { agent = agent k; met = met k })

    fill_holds : r ≡ n → (j : ℕ) → j + 1 ≡ m → Leads by_ladder n m 1 (filling r j) held
    fill_holds top j end =
        let agent : (turn by_ladder n m (filling r j)).agent ≡ held.agent =
        read_last j end ∙ judged_top n m sized i Fill (j + 1) r seen (omega arith) ∙ (λ k. going (asker i Fill (end k) (top k) seen flags) Holding Seek 1)
        in
        leads_one by_ladder n m (filling r j) held (fill_ready j (omega arith)) (λ k. record { agent = agent k; met = listed (λ _. Rung (top k)) m })

  -- the rungs

  first_rung : Leads by_ladder n m (m + m) (seeking 0) (raising 1 0)
  first_rung =
      leads_then by_ladder n m m m (seeking 0) (taking 0) (raising 1 0)
      (leads_through by_ladder n m seeking (taking 0) sized.cells_low seek_on seek_last)
      (leads_through by_ladder n m taking (raising 1 0) sized.cells_low take_on take_last)

  next_rung : (r : ℕ) → r + 1 < n → Leads by_ladder n m (m + m) (raising r 0) (raising (r + 1) 0)
  next_rung r less =
      leads_then by_ladder n m m m (raising r 0) (filling (r + 1) 0) (raising (r + 1) 0)
      (raises r (omega arith))
      (leads_through by_ladder n m (filling (r + 1)) (raising (r + 1) 0) sized.cells_low (fill_on (r + 1)) (fill_climbs (r + 1) less))

  last_rung : (r : ℕ) → r + 1 ≡ n → Leads by_ladder n m (m + m) (raising r 0) held
  last_rung r top =
      leads_then by_ladder n m m m (raising r 0) (filling (r + 1) 0) held
      (raises r (omega arith))
      (leads_through by_ladder n m (filling (r + 1)) held sized.cells_low (fill_on (r + 1)) (fill_holds (r + 1) top))

  all_rungs : Leads by_ladder n m (m + m + ((m + m) * (n - 2) + (m + m))) (seeking 0) held
  all_rungs =
      let two = sized.agents_low in
      leads_then by_ladder n m (m + m) ((m + m) * (n - 2) + (m + m)) (seeking 0) (raising 1 0) held first_rung
      (leads_then by_ladder n m ((m + m) * (n - 2)) (m + m) (raising 1 0) (raising (n - 2 + 1) 0) held
      (leads_each by_ladder n m (m + m) (n - 2) (λ q. raising (q + 1) 0) (λ q less. next_rung (q + 1) (omega arith)))
      (last_rung (n - 2 + 1) (omega arith)))

  total : m + m + ((m + m) * (n - 2) + (m + m)) ≡ 2 * m * n
  total =
      let two = sized.agents_low in
      let up : n ≡ suc (suc (n - 2)) = omega arith in
      let twice : m + m ≡ 2 * m = omega arith in
      let one = mul-suc (m + m) (n - 2) in
      let other = mul-suc (m + m) (suc (n - 2)) in
      let sum : m + m + ((m + m) * (n - 2) + (m + m)) ≡ (m + m) * suc (suc (n - 2)) = omega arith in
      sum ∙ ap (λ x. (m + m) * x) (sym up) ∙ ap (λ x. x * n) twice

  few_steps : 2 * m * n < 100000
  few_steps =
      let cells = sized.cells_high in
      let double : 2 * m ≤ 128 = omega arith in
      let bound : 2 * m * n ≤ 128 * 16 = mul-le-mul double sized.agents_high in
      omega arith

  ends : Ends by_ladder n m i (2 * m * n)
  ends = record {
    few = few_steps;
    last = held;
    leads = subst (λ t. Leads by_ladder n m t (seeking 0) held) total all_rungs;
    holds = refl;
  }

pub ladder_alone : HoldsAlone by_ladder ladder_steps
ladder_alone = holds_alone by_ladder ladder_steps (λ n m i sized good. ends n m i sized)
