-- What holds of a rig right after an accepted load. Assumes nothing.
use Rattle.std.proofs.Common.{◌≡◌, ℕ, suc, ◌+◌, ◌-◌, ◌*◌, ◌/◌, ◌%◌, ◌<◌, ◌≤◌, Bool, true, cond, not, eqb, leb, List, [], length, get_or, is_some, is_ok, Some, None, Ok, Err, Option, Result, sym, refl, ap, ◌∙◌, subst, ⊎_elim, mod-lt, mul-le-mul_left, arith, MatchResult}
use native.Mathlib.Nat.{le_of_dvd, dvd_refl}
use Rattle.std.proofs.lemmas.List.{get_or_past}
use Rattle.std.proofs.lemmas.Bool.{cases_lt, cases_Bool, cases_order, not-false, eqb-true, false≢true, cond-true, cond-false}
use Rattle.numbers.specs.Factors.{gcd, CoprimeUpTo, SmallestCommonFactor, smallest_common_factor}
use Rattle.numbers.specs.First.{first_of}
use Rattle.numbers.specs.Names.{named, listed}
use Rattle.numbers.specs.Rows.{Distinct, within}
use Rattle.numbers.proofs.FactorLaws.{gcd_greatest, smallest_tells_some}
use Rattle.numbers.proofs.FirstLaws.{first_tells_none}
use Rattle.numbers.proofs.NameLaws.{length_listed, getD_listed, named_listed, named_in, named_out}
use Rattle.numbers.proofs.RowLaws.{distinct_same, distinct_places, within_true}
use Rattle.refusal.specs.Checks.{◌then◌, Check, refuse_if, refuse_at}
use Rattle.refusal.specs.declared.Refusal.{Refusal}
use Rattle.refusal.specs.declared.Refusal.TheVariants.{CellCount, CellTaken, StandoffAgents, StandoffCells, NoCommonFactor}
use Rattle.refusal.proofs.CheckLaws.{ok_then}
use Rattle.plan.specs.Accepted.{Acceptable, Fault}
use Rattle.plan.specs.Checks.{decoded, header_of}
use Rattle.plan.specs.Plans.{Sayings, plan_at, identity_at, entry_at}
use Rattle.plan.proofs.Judged.{told, accepts}
use Rattle.cells.specs.Marks.{lawful, same_mark, mark_at}
use Rattle.cells.specs.declared.mark.Mark.{Mark}
use Rattle.cells.specs.declared.mark.Mark.TheVariants.{Empty}
use Rattle.rules.specs.Records.{loaded_agent}
use Rattle.rules.specs.Lawful.{Sized}
use Rattle.model.specs.Meanings.{Meaning}
use Rattle.model.specs.Rigs.{Seat, World, after_check}
use Rattle.model.specs.Loads.{blank_world, empty_check, turned, new_seat, new_world, loaded_world, plan_answer, load_answer, filled, after_load, standoff_world, standoff_answer, filled_standoff, after_standoff}
use Rattle.runs.proofs.Views.{agent_in, agent_at, table_in, table_at}
use Rattle.runs.proofs.Lawfulness.{Steady}
use Rattle.runs.proofs.Effects.{same_equal}
use Rattle.runs.proofs.Keeping.{acting_in, Fresh, passed}

-- numbers

-- a number of cells that passes is above the number of agents
pub more_cells : (n m : ℕ) → 2 ≤ m → CoprimeUpTo n m → n < m
more_cells n m two coprime =
    ⊎_elim
    (λ less. less)
    (λ high.
    let one = coprime m two high in
    let through = (gcd_greatest m m).greatest m (dvd_refl m) (dvd_refl m) in
    absurd (omega (arith, le_of_dvd {m = m} {n = gcd m m} (omega arith) through)))
    (cases_lt n m)

-- the cells of a turned table are apart
same_after_turn : (m c x z : ℕ) → 1 ≤ x → x < z → z ≤ m → (x - 1 + c) % m ≡ (z - 1 + c) % m → ⊥
same_after_turn m c x z low less high same =
    let a = (x - 1 + c) / m in
    let b = (z - 1 + c) / m in
    ⊎_elim
    (λ e. let f : m * a ≡ m * b = ap (λ q. m * q) e in omega arith)
    (⊎_elim
    (λ f. let g : m * suc a ≤ m * b = mul-le-mul_left m f in omega arith)
    (λ f. let g : m * suc b ≤ m * a = mul-le-mul_left m f in omega arith))
    (cases_order a b)

pub turned_distinct : (l m k : ℕ) → 1 ≤ m → Distinct (turned l m k) m m
turned_distinct l m k some = record {
  inside = λ x a b. let less = mod-lt (x - 1 + (k - 1) * m / l) some in (omega arith, omega arith);
  apart = λ x z a b c e. same_after_turn m ((k - 1) * m / l) x z a b c (omega (arith, e));
}

-- marks that are found empty

pub emptiness : (m : ℕ) (ms : List Mark) → 1 ≤ m → empty_check m ms ≡ Ok tt → (length ms ≡ m) × ((y : ℕ) → mark_at ms y ≡ Empty)
emptiness m ms some ok =
    let test : ℕ → Bool = λ y. not (same_mark (mark_at ms y) Empty) in
    let p = ok_then (refuse_if (not (eqb (length ms) m)) CellCount) (refuse_at CellTaken (first_of test 1 m)) tt (sym ok) in
    let long = eqb-true (length ms) m (not-false _ (passed _ _ p.0)) in
    let none = first_tells_none test 1 m (1 + m) refl (found_none (first_of test 1 m) (sym p.1)) in
    let named_empty : (y : ℕ) → 1 ≤ y → y ≤ m → mark_at ms y ≡ Empty = λ y a b. same_equal (mark_at ms y) Empty (not-false _ (none y a (omega arith))) in (
      long,
      λ y.
          ⊎_elim
          (λ zero-th. let back : y - 1 ≡ 1 - 1 = omega arith in ap (λ i. get_or ms i Empty) back ∙ named_empty 1 (omega arith) some)
          (λ low.
          ⊎_elim
          (λ past. get_or_past ms (y - 1) Empty (omega arith))
          (λ high. named_empty y low high)
          (cases_lt m y))
          (cases_lt y 1),
    )
  where
    found_none : (o : Option ℕ) → refuse_at CellTaken o ≡ Ok tt → o ≡ None
    found_none None e = refl
    found_none (Some y) e = absurd (false≢true (ap is_ok e))

module _ {P : Type 0} (R : Meaning P) (S : Steady R) where
  -- agents with these identities and tables, over empty cells
  module _ (n m : ℕ) (ids : ℕ → ℕ) (rows : ℕ → List ℕ) (o : Option ℕ) (ms : List Mark) (sized : Sized n m) (room : length ms ≡ m) (empty : (y : ℕ) → mark_at ms y ≡ Empty) (differ : Distinct ids 65535 n) (tables : (k : ℕ) → 1 ≤ k → k ≤ n → Distinct (λ x. get_or (rows k) (x - 1) 0) m m) (few : acting_in o n ≤ n) (coped : acting_in o n ≤ m) where
    abbrev seats : List (Seat P)
    seats = listed (λ k. new_seat R (ids k) (rows k)) n

    abbrev new : World P
    new = new_world R m seats o ms

    long : length seats ≡ n
    long = length_listed (λ k. new_seat R (ids k) (rows k)) n

    there : (k : ℕ) → 1 ≤ k → k ≤ n → named seats k ≡ Some (new_seat R (ids k) (rows k))
    there k a b = named_listed (λ k. new_seat R (ids k) (rows k)) n k a b

    new_agent : (k : ℕ) → 1 ≤ k → k ≤ n → agent_at R new k ≡ loaded_agent R.loaded (ids k)
    new_agent k a b = ap (agent_in R) (there k a b)

    loaded_as : (k : ℕ) (i : ℕ) → agent_at R new k ≡ loaded_agent R.loaded i → agent_at R new k ≡ loaded_agent R.loaded (agent_at R new k).identity
    loaded_as k i is = is ∙ ap (loaded_agent R.loaded) (sym (ap (λ a. a.identity) is))

    pub new_fresh : Fresh R S new
    new_fresh = record {
      sound = record {
        sized = subst (λ n. Sized n m) (sym long) sized;
        room = room;
        lawful_marks = λ y. ap lawful (empty y);
        reached = λ k a b.
            let high : k ≤ n = omega (arith, long) in
            subst (λ l. S.reachable l m (agent_at R new k)) (sym long)
            (subst (S.reachable n m) (sym (new_agent k a high)) (S.loads n m (ids k) sized (differ.inside k a high)));
        tables = λ k a b.
            let high : k ≤ n = omega (arith, long) in
            distinct_same (λ x. get_or (rows k) (x - 1) 0) (table_at new k) m m (λ x _ _. sym (ap (λ s. table_in s x) (there k a high))) (tables k a high);
        identities =
            subst (λ l. Distinct (λ k. (agent_at R new k).identity) 65535 l) (sym long)
            (distinct_same ids (λ k. (agent_at R new k).identity) 65535 n (λ k a b. sym (ap (λ a. a.identity) (new_agent k a b))) differ);
        few = subst (λ l. acting_in o l ≤ l) (sym long) few;
      };
      loaded = λ k.
          ⊎_elim
          (λ in'. loaded_as k (ids k) (ap (agent_in R) (named_in (λ k. new_seat R (ids k) (rows k)) n k in')))
          (λ out. loaded_as k 0 (ap (agent_in R) (named_out (λ k. new_seat R (ids k) (rows k)) n k out)))
          (cases_Bool (within 1 n k));
      empty = empty;
      coped = subst (λ l. acting_in o l ≤ m) (sym long) coped;
    }

  -- a plan that was accepted
  module _ (ms : List Mark) (file : List ℕ) (good : Acceptable R.number file) (ok : empty_check (header_of file).cells ms ≡ Ok tt) where
    abbrev n : ℕ
    n = (header_of file).agents

    abbrev m : ℕ
    m = (header_of file).cells

    abbrev plan : Sayings
    plan = plan_at (header_of file) file

    -- good tables, behind them identities, parts, factors, cells and agents
    cells_good : (2 ≤ m) × (m ≤ 64)
    cells_good = good.0.0.0.0.0.0.1

    agents_good : (2 ≤ n) × (n ≤ 16)
    agents_good = good.0.0.0.0.0.0.0.1

    coprime : CoprimeUpTo n m
    coprime = good.0.0.0.0.0.1

    abbrev row : ℕ → List ℕ
    row k = get_or plan.tables (k - 1) []

    row_is : (k : ℕ) → 1 ≤ k → k ≤ n → row k ≡ listed (entry_at (header_of file) file k) m
    row_is k a b = getD_listed (λ k. listed (entry_at (header_of file) file k) m) n k [] a b

    pub loaded_fresh : Fresh R S (loaded_world R plan ms)
    loaded_fresh =
        let space = emptiness m ms (omega (arith, cells_good.0)) ok in
        let more = more_cells n m cells_good.0 coprime in
        new_fresh n m (λ k. get_or plan.identities (k - 1) 0) row None ms
        (record { agents_low = agents_good.0; agents_high = agents_good.1; cells_low = omega (arith, cells_good.0); cells_high = cells_good.1 })
        space.0
        space.1
        (distinct_same (identity_at (header_of file) file) (λ k. get_or plan.identities (k - 1) 0) 65535 n (λ k a b. sym (getD_listed (identity_at (header_of file) file) n k 0 a b)) good.0.0.1)
        (λ k a b.
        distinct_same (entry_at (header_of file) file k) (λ x. get_or (row k) (x - 1) 0) m m
        (λ x c d. sym (ap (λ l. get_or l (x - 1) 0) (row_is k a b) ∙ getD_listed (entry_at (header_of file) file k) m x 0 c d))
        (good.0.1 k a b))
        (omega arith)
        (omega arith)

  -- a load that was accepted
  pub record Loads (ms : List Mark) (file : List ℕ) : Type 0 where
    pub acceptable : Acceptable R.number file
    pub emptied : empty_check (header_of file).cells ms ≡ Ok tt
    pub world : after_load R (blank_world P ms) file ≡ loaded_world R (plan_at (header_of file) file) ms

  pub load_told : (ms : List Mark) (file : List ℕ) → load_answer R (blank_world P ms) file ≡ Ok tt → Loads ms file
  load_told ms file ok = go (decoded R.number file) refl
    where
      go : (d : Result Sayings Refusal) → decoded R.number file ≡ d → Loads ms file
      go (Err e) is = absurd (false≢true (ap is_ok (sym (ap (plan_answer R ms) is) ∙ ok)))
      go (Ok p) is =
          let good : Acceptable R.number file = subst (λ r. MatchResult r (λ _. Acceptable R.number file) (Fault R.number file)) is (told R.number file).tells in
          let same = accepts R.number file good in
          let emptied : empty_check (header_of file).cells ms ≡ Ok tt = sym (ap (plan_answer R ms) same) ∙ ok in
          record {
            acceptable = good;
            emptied = emptied;
            world = ap (λ c. after_check c (filled R (blank_world P ms) (decoded R.number file)) (blank_world P ms)) ok ∙ ap (filled R (blank_world P ms)) same;
          }

  pub plan_fresh : (ms : List Mark) (file : List ℕ) → load_answer R (blank_world P ms) file ≡ Ok tt → Fresh R S (after_load R (blank_world P ms) file)
  plan_fresh ms file ok =
      let h = load_told ms file ok in
      subst (Fresh R S) (sym h.world) (loaded_fresh ms file h.acceptable h.emptied)

  -- a stand-off that was accepted
  pub record Stands (ms : List Mark) (n m l : ℕ) : Type 0 where
    pub agents_good : (2 ≤ n) × (n ≤ 16)
    pub cells_good : (2 ≤ m) × (m ≤ 64)
    pub factor : SmallestCommonFactor n m l
    pub room : length ms ≡ m
    pub empty : (y : ℕ) → mark_at ms y ≡ Empty
    pub world : after_standoff R (blank_world P ms) n m ≡ standoff_world R l n m ms

  pub standoff_told : (ms : List Mark) (n m : ℕ) → standoff_answer R (blank_world P ms) n m ≡ Ok tt → (l : ℕ) × Stands ms n m l
  standoff_told ms n m ok =
      let third : Check = refuse_if (not (is_some (smallest_common_factor n m))) NoCommonFactor in
      let second : Check = refuse_if (not (within 2 64 m)) StandoffCells in
      let p = ok_then (refuse_if (not (within 2 16 n)) StandoffAgents) (second then third then empty_check m ms) tt (sym ok) in
      let q = ok_then second (third then empty_check m ms) tt p.1 in
      let r = ok_then third (empty_check m ms) tt q.1 in
      let agents = within_true 2 16 n (not-false _ (passed _ _ p.0)) in
      let cells = within_true 2 64 m (not-false _ (passed _ _ q.0)) in
      let space = emptiness m ms (omega (arith, cells.0)) (sym r.1) in
      let found = some_told (smallest_common_factor n m) (not-false _ (passed _ _ r.0)) in (
        found.0,
        record {
          agents_good = agents;
          cells_good = cells;
          factor = smallest_tells_some n m found.0 found.1;
          room = space.0;
          empty = space.1;
          world = ap (λ c. after_check c (filled_standoff R (blank_world P ms) n m (smallest_common_factor n m)) (blank_world P ms)) ok ∙ ap (filled_standoff R (blank_world P ms) n m) found.1;
        },
      )
    where
      some_told : (o : Option ℕ) → is_some o ≡ true → (l : ℕ) × (o ≡ Some l)
      some_told None e = absurd (false≢true e)
      some_told (Some l) e = (l, refl)

  module _ (ms : List Mark) (n m l : ℕ) (h : Stands ms n m l) where
    abbrev turned_row : ℕ → List ℕ
    turned_row k = listed (λ x. cond (leb k l) (turned l m k x) x) m

    row_distinct : (k : ℕ) → Distinct (λ x. cond (leb k l) (turned l m k x) x) m m
    row_distinct k =
        ⊎_elim
        (λ e. distinct_same (turned l m k) _ m m (λ x _ _. sym (cond-true (leb k l) (turned l m k x) x e)) (turned_distinct l m k (omega (arith, h.cells_good.0))))
        (λ e. distinct_same (λ x. x) _ m m (λ x _ _. sym (cond-false (leb k l) (turned l m k x) x e)) (distinct_places m))
        (cases_Bool (leb k l))

    pub standing_fresh : Fresh R S (standoff_world R l n m ms)
    standing_fresh =
        let low : 0 < m = omega (arith, h.cells_good.0) in
        new_fresh n m (λ k. k) turned_row (Some l) ms
        (record { agents_low = h.agents_good.0; agents_high = h.agents_good.1; cells_low = low; cells_high = h.cells_good.1 })
        h.room
        h.empty
        (record { inside = λ k a b. (a, omega (arith, h.agents_good.1)); apart = λ j k a b c e. omega arith })
        (λ k a b. distinct_same _ (λ x. get_or (turned_row k) (x - 1) 0) m m (λ x c d. sym (getD_listed (λ x. cond (leb k l) (turned l m k x) x) m x 0 c d)) (row_distinct k))
        h.factor.up_to
        (le_of_dvd low h.factor.divides)

  pub standoff_fresh : (ms : List Mark) (n m : ℕ) → standoff_answer R (blank_world P ms) n m ≡ Ok tt → Fresh R S (after_standoff R (blank_world P ms) n m)
  standoff_fresh ms n m ok =
      let h = standoff_told ms n m ok in
      subst (Fresh R S) (sym h.1.world) (standing_fresh ms n m h.0 h.1)
