-- What one call does: one agent's record, at most one cell, and nothing else. Assumes nothing.
use Rattle.std.proofs.Common.{◌≡◌, ℕ, ◌-◌, ◌≤◌, Bool, true, false, cond, not, List, length, get_or, set, is_ok, Some, Ok, Result, sym, refl, ap, ◌∙◌, subst, ⊎_elim, arith}
use Rattle.std.proofs.lemmas.List.{length-set}
use Rattle.std.proofs.lemmas.Bool.{cases_Bool, cases_eq, not_from_true, cond-true, cond-false, true≢false, false≢true, eqb-true, eq-eqb}
use Rattle.numbers.specs.Names.{named, listed}
use Rattle.numbers.specs.Rows.{Distinct, within}
use Rattle.numbers.proofs.FirstLaws.{none_up_to}
use Rattle.numbers.proofs.RowLaws.{within_from}
use Rattle.refusal.specs.Checks.{◌then◌, refuse_if, refuse_at}
use Rattle.refusal.specs.declared.Refusal.{Refusal}
use Rattle.refusal.specs.declared.Refusal.TheVariants.{NoSuchCell, NoMark}
use Rattle.cells.specs.Marks.{lawful, same_mark, mark_at, put, name_check, mark_check, write_answer, swap_answer, says_yes}
use Rattle.cells.specs.declared.mark.Mark.{Mark}
use Rattle.cells.specs.declared.mark.Mark.TheVariants.{Empty, Owner, Rung}
use Rattle.rules.specs.Records.{Reply, marks, cell, done, went}
use Rattle.rules.specs.Lawful.{Idles, Holds, Moves, Name, Proper}
use Rattle.rules.specs.declared.agent.Agent.{Agent}
use Rattle.rules.specs.declared.want.Want.{Want}
use Rattle.rules.specs.declared.want.Want.TheVariants.{Look, Read, Write, Swap}
use Rattle.model.specs.Meanings.{Meaning}
use Rattle.model.specs.Rigs.{Seat, World, entry, served, store_after, store_check}
use Rattle.runs.proofs.Views.{agent_in, agent_at, table_in, table_at, met_at, named_some, named_set_same, named_set_other}

-- marks that are the same are equal
pub same_equal : (k l : Mark) → same_mark k l ≡ true → k ≡ l
same_equal Empty Empty e = refl
same_equal Empty (Owner j) e = absurd (false≢true e)
same_equal Empty (Rung s) e = absurd (false≢true e)
same_equal (Owner i) Empty e = absurd (false≢true e)
same_equal (Owner i) (Owner j) e = ap Owner (eqb-true i j e)
same_equal (Owner i) (Rung s) e = absurd (false≢true e)
same_equal (Rung r) Empty e = absurd (false≢true e)
same_equal (Rung r) (Owner j) e = absurd (false≢true e)
same_equal (Rung r) (Rung s) e = ap Rung (eqb-true r s e)

pub equal_same : (k : Mark) → same_mark k k ≡ true
equal_same Empty = refl
equal_same (Owner i) = eq-eqb i i refl
equal_same (Rung r) = eq-eqb r r refl

-- what a store grants

pub name_granted : (count y : ℕ) → 1 ≤ y → y ≤ count → name_check count y ≡ Ok tt
name_granted count y a b = ap (λ t. refuse_if (not t) (NoSuchCell y)) (within_from 1 count y a b)

pub mark_granted : (k : Mark) → lawful k ≡ true → mark_check k ≡ Ok tt
mark_granted k good = ap (λ t. refuse_if (not t) NoMark) good

pub write_granted : (ms : List Mark) (y : ℕ) (k : Mark) → 1 ≤ y → y ≤ length ms → lawful k ≡ true → write_answer ms y k ≡ Ok tt
write_granted ms y k a b good = ap (λ c. c then mark_check k) (name_granted (length ms) y a b) ∙ mark_granted k good

pub swap_granted : (ms : List Mark) (y : ℕ) (old new : Mark) → 1 ≤ y → y ≤ length ms → lawful old ≡ true → lawful new ≡ true → swap_answer ms y old new ≡ Ok (same_mark (mark_at ms y) old)
swap_granted ms y old new a b f g =
    let found : Result Bool Refusal = Ok (same_mark (mark_at ms y) old) in
    ap (λ c. c then mark_check old then mark_check new then found) (name_granted (length ms) y a b)
    ∙ ap (λ c. c then mark_check new then found) (mark_granted old f)
    ∙ ap (λ c. c then found) (mark_granted new g)

module _ {P : Type 0} (R : Meaning P) where
  -- all but agent k's record and the marks stays
  pub record Kept (k : ℕ) (w v : World P) : Type 0 where
    pub agents : length v.rig.seats ≡ length w.rig.seats
    pub cells : v.rig.cells ≡ w.rig.cells
    pub standoff : v.rig.standoff ≡ w.rig.standoff
    pub tables : (j x : ℕ) → table_at v j x ≡ table_at w j x
    pub others : (j : ℕ) → (j ≡ k → ⊥) → agent_at R v j ≡ agent_at R w j

  module _ (k : ℕ) (w v : World P) where
    abbrev was : Agent P
    was = agent_at R w k

    abbrev is : Agent P
    is = agent_at R v k

    abbrev n : ℕ
    n = length w.rig.seats

    abbrev m : ℕ
    m = w.rig.cells

    -- what becomes of agent k's record and of the marks
    pub data Change : Type 0 where
      stays : is ≡ was → v.store ≡ w.store → Change
      asks : Idles was → is ≡ R.asked n m was → v.store ≡ w.store → Change
      leaves : Holds was → is ≡ R.left n m was → v.store ≡ w.store → Change
      looks : Moves was → R.wants n m was ≡ Look → is ≡ R.becomes n m was (marks (listed (met_at w k) m)) → v.store ≡ w.store → Change
      reads : (x : ℕ) → Moves was → Name m x → R.wants n m was ≡ Read x → is ≡ R.becomes n m was (cell (met_at w k x)) → v.store ≡ w.store → Change
      writes : (x : ℕ) (c : Mark) → Moves was → Name m x → lawful c ≡ true → R.wants n m was ≡ Write x c → is ≡ R.becomes n m was done → v.store ≡ put w.store (table_at w k x) c → Change
      swaps : (x : ℕ) (old new : Mark) → Moves was → Name m x → lawful new ≡ true → R.wants n m was ≡ Swap x old new → met_at w k x ≡ old → is ≡ R.becomes n m was (went true) → v.store ≡ put w.store (table_at w k x) new → Change
      misses : (x : ℕ) (old new : Mark) → Moves was → Name m x → R.wants n m was ≡ Swap x old new → (met_at w k x ≡ old → ⊥) → is ≡ R.becomes n m was (went false) → v.store ≡ w.store → Change

  pub record Effect (k : ℕ) (w v : World P) : Type 0 where
    pub kept : Kept k w v
    pub change : Change k w v

  -- another seat for agent k, with the same table
  module _ (k : ℕ) (w v : World P) (s t : Seat P) (there : named w.rig.seats k ≡ Some s) (seats : v.rig.seats ≡ set w.rig.seats (k - 1) t) where
    range : (1 ≤ k) × (k ≤ length w.rig.seats)
    range = named_some w.rig.seats k s there

    now_there : named v.rig.seats k ≡ Some t
    now_there = ap (λ l. named l k) seats ∙ named_set_same w.rig.seats k t range.0 range.1

    others_there : (j : ℕ) → (j ≡ k → ⊥) → named v.rig.seats j ≡ named w.rig.seats j
    others_there j e = ap (λ l. named l j) seats ∙ named_set_other w.rig.seats j k t range.0 e

    pub agent_before : agent_at R w k ≡ s.agent
    agent_before = ap (agent_in R) there

    pub agent_seated : agent_at R v k ≡ t.agent
    agent_seated = ap (agent_in R) now_there

    pub kept_seated : t.table ≡ s.table → v.rig.cells ≡ w.rig.cells → v.rig.standoff ≡ w.rig.standoff → Kept k w v
    kept_seated table cells standoff = record {
      agents = ap length seats ∙ length-set w.rig.seats (k - 1) t;
      cells = cells;
      standoff = standoff;
      tables = λ j x.
          ⊎_elim
          (λ same.
          ap (λ i. table_at v i x) same
          ∙ ap (λ o. table_in o x) now_there
          ∙ ap (λ l. get_or l (x - 1) 0) table
          ∙ sym (ap (λ o. table_in o x) there)
          ∙ sym (ap (λ i. table_at w i x) same))
          (λ e. ap (λ o. table_in o x) (others_there j e))
          (cases_eq j k);
      others = λ j e. ap (agent_in R) (others_there j e);
    }

  -- what a moving agent wants, the store grants
  module _ (k : ℕ) (w : World P) (s : Seat P) (there : named w.rig.seats k ≡ Some s) (room : length w.store ≡ w.rig.cells) (table : Distinct (table_at w k) w.rig.cells w.rig.cells) where
    through : (x : ℕ) → table_at w k x ≡ entry s x
    through x = ap (λ o. table_in o x) there

    entry_there : (x : ℕ) → Name w.rig.cells x → (1 ≤ entry s x) × (entry s x ≤ length w.store)
    entry_there x name =
        let p = table.inside x name.0 name.1 in
        let same = through x in
        (omega (arith, p.0), omega (arith, p.1))

    pub granted : (q : Want) → Proper w.rig.cells q → store_check w.rig.cells w.store s q ≡ Ok tt
    granted Look proper =
        ap (refuse_at (λ x. NoSuchCell (entry s x)))
        (none_up_to (λ x. not (within 1 (length w.store) (entry s x))) w.rig.cells
        (λ x a b. let p = entry_there x (a, b) in not_from_true (within 1 (length w.store) (entry s x)) (within_from 1 (length w.store) (entry s x) p.0 p.1)))
    granted (Read x) proper = let p = entry_there x proper in name_granted (length w.store) (entry s x) p.0 p.1
    granted (Write x c) proper = let p = entry_there x proper.0 in write_granted w.store (entry s x) c p.0 p.1 proper.1
    granted (Swap x old new) proper =
        let p = entry_there x proper.0 in
        ap (λ c. c then mark_check old then mark_check new) (name_granted (length w.store) (entry s x) p.0 p.1)
        ∙ ap (λ c. c then mark_check new) (mark_granted old proper.1)
        ∙ mark_granted new proper.2

    module _ (v : World P) (moves : Moves s.agent) where
      abbrev before : Agent P
      before = agent_at R w k

      same_agent : s.agent ≡ agent_at R w k
      same_agent = sym (ap (agent_in R) there)

      moves_before : Moves before
      moves_before = subst Moves same_agent moves

      wants_before : (q : Want) → R.wants (length w.rig.seats) w.rig.cells s.agent ≡ q → R.wants (length w.rig.seats) w.rig.cells before ≡ q
      wants_before q is = ap (R.wants (length w.rig.seats) w.rig.cells) (sym same_agent) ∙ is

      same_met : (x : ℕ) → mark_at w.store (entry s x) ≡ met_at w k x
      same_met x = ap (mark_at w.store) (sym (through x))

      becomes_before : (r q : Reply) → r ≡ q → agent_at R v k ≡ R.becomes (length w.rig.seats) w.rig.cells s.agent r → agent_at R v k ≡ R.becomes (length w.rig.seats) w.rig.cells before q
      becomes_before r q e is = is ∙ (λ i. R.becomes (length w.rig.seats) w.rig.cells (same_agent i) (e i))

      pub step_change : (q : Want) → R.wants (length w.rig.seats) w.rig.cells s.agent ≡ q → Proper w.rig.cells q → agent_at R v k ≡ R.becomes (length w.rig.seats) w.rig.cells s.agent (served w.rig.cells w.store s q) → v.store ≡ store_after w.store s q → Change k w v
      step_change Look is proper agent store =
          looks moves_before (wants_before Look is) (becomes_before _ _ (λ i. marks (listed (λ x. same_met x i) w.rig.cells)) agent) store
      step_change (Read x) is proper agent store = reads x moves_before proper (wants_before (Read x) is) (becomes_before _ _ (ap cell (same_met x)) agent) store
      step_change (Write x c) is proper agent store =
          let p = entry_there x proper.0 in
          let ok = write_granted w.store (entry s x) c p.0 p.1 proper.1 in
          writes x c moves_before proper.0 proper.1 (wants_before (Write x c) is) (becomes_before done done refl agent)
          (store ∙ ap (λ a. cond (is_ok a) (put w.store (entry s x) c) w.store) ok ∙ ap (λ y. put w.store y c) (sym (through x)))
      step_change (Swap x old new) is proper agent store =
          let p = entry_there x proper.0 in
          let ok = ap says_yes (swap_granted w.store (entry s x) old new p.0 p.1 proper.1 proper.2) in
          ⊎_elim
          (λ yes'.
          swaps x old new moves_before proper.0 proper.2 (wants_before (Swap x old new) is)
          (sym (same_met x) ∙ same_equal (mark_at w.store (entry s x)) old yes')
          (becomes_before _ _ (ap went (ok ∙ yes')) agent)
          (store ∙ cond-true _ _ _ (ok ∙ yes') ∙ ap (λ y. put w.store y new) (sym (through x))))
          (λ no'.
          misses x old new moves_before proper.0 (wants_before (Swap x old new) is)
          (λ e. true≢false (sym (equal_same old) ∙ ap (λ l. same_mark l old) (sym (same_met x ∙ e)) ∙ no'))
          (becomes_before _ _ (ap went (ok ∙ no')) agent)
          (store ∙ cond-false _ _ _ (ok ∙ no')))
          (cases_Bool (same_mark (mark_at w.store (entry s x)) old))
