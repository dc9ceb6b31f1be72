-- The checks say just what `Acceptable` and `Fault` say. Assumes nothing.
use Rattle.std.proofs.Common.{◌≡◌, ℕ, ◌+◌, min, max, Bool, true, false, not, ◌||◌, eqb, ltb, List, length, is_some, Some, None, Ok, Err, Option, Result, sym, refl, ap, ◌∙◌, subst, inl, inr, ⊎_elim, arith, MatchResult}
use Rattle.std.proofs.lemmas.Bool.{true≢false, not-true, not-false, not_from_true, not_from_false, eqb-true, eqb-false, eq-eqb, ne_eqb, ltb-true, ltb-false, le-ltb, or_cases, or_parts, or_from, and_parts, and_from, cases_Bool}
use Rattle.numbers.specs.Factors.{smallest_common_factor}
use Rattle.numbers.specs.Rows.{within, Distinct}
use Rattle.numbers.proofs.FactorLaws.{smallest_none, smallest_some, smallest_tells_none, smallest_tells_some}
use Rattle.numbers.proofs.FirstLaws.{first_cases, first_tells_none, first_tells_some, none_up_to, first_up_to}
use Rattle.numbers.proofs.RowLaws.{within_true, within_false, within_from, first_misfit_tells_none, first_misfit_tells_some, first_misfit_none, distinct_fits, misfit_from_first}
use Rattle.refusal.specs.declared.Part.{Part}
use Rattle.refusal.specs.declared.Part.TheVariants.{Identities, Tables, Events}
use Rattle.refusal.specs.declared.Refusal.{Refusal}
use Rattle.refusal.specs.declared.Refusal.TheVariants.{FileLength, FileVersion, FileRule, FileAgents, FileCells, CommonFactor, PartOutside, PartsOverlap, BadIdentity, BadEntry, BadEvent, NoSuchAgent, NotIdle, NotHolding, AtRest, HeardAll, NoSuchCell, NoMark, CellCount, BufferTooShort, CellTaken, NotBlank, OnStandoff, NoCommonFactor, StandoffAgents, StandoffCells, NoStandoff, RowLength, BadRenumbering}
use Rattle.plan.specs.Accepted.{Between, Inside, In, Apart, Before, PairBefore, KnownEvent, GoodLength, GoodVersion, GoodRule, GoodAgents, GoodCells, GoodFactors, GoodParts, GoodLayout, GoodIdentities, GoodTables, Acceptable, Fault}
use Rattle.refusal.specs.Checks.{◌then◌, Check, refuse_if, refuse_at}
use Rattle.plan.specs.Checks.{header_of, length_check, header_check, span_of, inside_check, overlap, apart_check, parts_check, identities_check, row_misfit, refuse_in_table, tables_check, known, events_check, all_checks, decoded}
use Rattle.plan.specs.Plans.{identity_at, entry_at, kind_at, agent_at, plan_at, Sayings}
use Rattle.plan.specs.declared.header.Span.{Span}

after : {A : Type 0} (c : Check) (r : Result A Refusal) → c ≡ Ok tt → (c then r) ≡ r
after c r is = ap (λ k. k then r) is

stop : {A : Type 0} (c : Check) (r : Result A Refusal) (e : Refusal) → c ≡ Err e → (c then r) ≡ Err e
stop c r e is = ap (λ k. k then r) is

-- a number in range, and out of it
in_range : (low high x : ℕ) → not (within low high x) ≡ false → Between low high x
in_range low high x e = within_true low high x (not-false (within low high x) e)

out_of_range : (low high x : ℕ) → not (within low high x) ≡ true → Between low high x → ⊥
out_of_range low high x e w = within_false low high x (not-true (within low high x) e) w.0 w.1

passes_range : (low high x : ℕ) → Between low high x → not (within low high x) ≡ false
passes_range low high x w = not_from_true (within low high x) (within_from low high x w.0 w.1)

fails_range : (low high x : ℕ) → (Between low high x → ⊥) → not (within low high x) ≡ true
fails_range low high x h = ⊎_elim (λ y. absurd (h (within_true low high x y))) (λ n. not_from_false (within low high x) n) (cases_Bool (within low high x))

-- parts and pairs of parts, one by one
all_parts : (P : Part → Type 0) → P Identities → P Tables → P Events → (p : Part) → P p
all_parts P a b c Identities = a
all_parts P a b c Tables = b
all_parts P a b c Events = c

all_pairs : (R : Part → Part → Type 0) → R Identities Tables → R Identities Events → R Tables Events → (p q : Part) → Before p q → R p q
all_pairs R a b c Identities Identities l = absurd (omega arith)
all_pairs R a b c Identities Tables l = a
all_pairs R a b c Identities Events l = b
all_pairs R a b c Tables Identities l = absurd (omega arith)
all_pairs R a b c Tables Tables l = absurd (omega arith)
all_pairs R a b c Tables Events l = c
all_pairs R a b c Events Identities l = absurd (omega arith)
all_pairs R a b c Events Tables l = absurd (omega arith)
all_pairs R a b c Events Events l = absurd (omega arith)

inside_passes : (len : ℕ) (s : Span) → (ltb s.start 12 || ltb len s.end) ≡ false → Inside len s
inside_passes len s e =
    let p = or_parts (ltb s.start 12) (ltb len s.end) e in
    (ltb-false s.start 12 p.0, ltb-false len s.end p.1)

inside_fails : (len : ℕ) (s : Span) → (ltb s.start 12 || ltb len s.end) ≡ true → Inside len s → ⊥
inside_fails len s e w =
    ⊎_elim
    (λ a. omega (arith, ltb-true s.start 12 a, w.0))
    (λ b. omega (arith, ltb-true len s.end b, w.1))
    (or_cases (ltb s.start 12) (ltb len s.end) e)

passes_inside : (len : ℕ) (s : Span) → Inside len s → (ltb s.start 12 || ltb len s.end) ≡ false
passes_inside len s w = or_from (ltb s.start 12) (ltb len s.end) (le-ltb s.start 12 w.0) (le-ltb len s.end w.1)

fails_inside : (len : ℕ) (s : Span) → (Inside len s → ⊥) → (ltb s.start 12 || ltb len s.end) ≡ true
fails_inside len s h =
    ⊎_elim (λ t. t) (λ n. absurd (h (inside_passes len s n))) (cases_Bool (ltb s.start 12 || ltb len s.end))

overlap_none : (s t : Span) → overlap s t ≡ false → Apart s t
overlap_none s t e y a b = let h = ltb-false (max s.start t.start) (min s.end t.end) e in omega (arith, h, a.0, a.1, b.0, b.1)

overlap_some : (s t : Span) → overlap s t ≡ true → (y : ℕ) × In s y × In t y
overlap_some s t e =
    let h = ltb-true (max s.start t.start) (min s.end t.end) e in
    (max s.start t.start, (omega arith, omega arith), (omega arith, omega arith))

passes_apart : (s t : Span) → Apart s t → overlap s t ≡ false
passes_apart s t h = ⊎_elim (λ y. let m = overlap_some s t y in absurd (h m.0 m.1 m.2)) (λ n. n) (cases_Bool (overlap s t))

fails_apart : (s t : Span) → (y : ℕ) × In s y × In t y → overlap s t ≡ true
fails_apart s t m = ⊎_elim (λ y. y) (λ n. absurd (overlap_none s t n m.0 m.1 m.2)) (cases_Bool (overlap s t))

some_is : (o : Option ℕ) → is_some o ≡ true → (k : ℕ) × (o ≡ Some k)
some_is None e = absurd (true≢false (sym e))
some_is (Some k) e = (k, refl)

none_is : (o : Option ℕ) → is_some o ≡ false → o ≡ None
none_is None e = refl
none_is (Some k) e = absurd (true≢false e)

module _ (rule : ℕ) (f : List ℕ) where
  -- the answer r to a file: where it is good, P holds; else the fault
  pub record Says {A : Type 0} (P : A → Type 0) (r : Result A Refusal) : Type 0 where
    pub tells : MatchResult r P (Fault rule f)

  -- one check, and what comes after it
  next : {A : Type 0} {P : A → Type 0} {Q : Type 0} {c : Check} {r : Result A Refusal} → Says (λ _. Q) c → (Q → Says P r) → Says P (c then r)
  next {A} {P} {Q} {c} {r} h k = go c h.tells
    where
      go : (d : Check) → MatchResult d (λ _. Q) (Fault rule f) → Says P (d then r)
      go (Ok u) q = k q
      go (Err e) bad = record { tells = bad }

  weaker : {P Q : Type 0} {c : Check} → Says (λ _. P) c → (P → Q) → Says (λ _. Q) c
  weaker {P} {Q} {c} h k = go c h.tells
    where
      go : (d : Check) → MatchResult d (λ _. P) (Fault rule f) → Says (λ _. Q) d
      go (Ok u) p = record { tells = k p }
      go (Err e) bad = record { tells = bad }

  told_if : (P : Type 0) (b : Bool) (e : Refusal) → (b ≡ false → P) → (b ≡ true → Fault rule f e) → Says (λ _. P) (refuse_if b e)
  told_if P true e p q = record { tells = q refl }
  told_if P false e p q = record { tells = p refl }

  told_at : (P : Type 0) (e : ℕ → Refusal) (o : Option ℕ) → (o ≡ None → P) → ((k : ℕ) → o ≡ Some k → Fault rule f (e k)) → Says (λ _. P) (refuse_at e o)
  told_at P e None p q = record { tells = p refl }
  told_at P e (Some k) p q = record { tells = q k refl }

  told_length : Says (λ _. GoodLength rule f) (length_check f)
  told_length = told_if _ (not (within 12 65535 (length f))) FileLength (in_range 12 65535 (length f)) (out_of_range 12 65535 (length f))

  told_version : GoodLength rule f → Says (λ _. GoodVersion rule f) (refuse_if (not (eqb (header_of f).version 1)) FileVersion)
  told_version good = told_if _ _ FileVersion (λ e. (good, eqb-true _ 1 (not-false _ e))) (λ e. (good, eqb-false _ 1 (not-true _ e)))

  told_rule : GoodVersion rule f → Says (λ _. GoodRule rule f) (refuse_if (not (eqb (header_of f).rule rule)) FileRule)
  told_rule good = told_if _ _ FileRule (λ e. (good, eqb-true _ rule (not-false _ e))) (λ e. (good, eqb-false _ rule (not-true _ e)))

  told_agents : GoodRule rule f → Says (λ _. GoodAgents rule f) (refuse_if (not (within 2 16 (header_of f).agents)) FileAgents)
  told_agents good = told_if _ _ FileAgents (λ e. (good, in_range 2 16 _ e)) (λ e. (good, out_of_range 2 16 _ e))

  told_cells : GoodAgents rule f → Says (λ _. GoodCells rule f) (refuse_if (not (within 2 64 (header_of f).cells)) FileCells)
  told_cells good = told_if _ _ FileCells (λ e. (good, in_range 2 64 _ e)) (λ e. (good, out_of_range 2 64 _ e))

  told_factor : GoodCells rule f → Says (λ _. GoodFactors rule f) (refuse_at CommonFactor (smallest_common_factor (header_of f).agents (header_of f).cells))
  told_factor good = told_at _ CommonFactor _ (λ e. (good, smallest_tells_none _ _ e)) (λ l e. (good, smallest_tells_some _ _ l e))

  told_header : GoodLength rule f → Says (λ _. GoodFactors rule f) (header_check rule (header_of f))
  told_header good =
      next (told_version good) λ good2.
      next (told_rule good2) λ good3. next (told_agents good3) λ good4. next (told_cells good4) told_factor

  -- the parts, one after another
  abbrev span : Part → Span
  span = span_of (header_of f)

  abbrev Fits : Part → Type 0
  Fits p = Inside (length f) (span p)

  told_inside : (p : Part) → GoodFactors rule f → ((q : Part) → Before q p → Fits q) → Says (λ _. Fits p) (inside_check (header_of f) (length f) p)
  told_inside p good before = told_if _ _ (PartOutside p) (inside_passes (length f) (span p)) (λ e. (good, inside_fails (length f) (span p) e, before))

  told_apart : (p q : Part) → Before p q → GoodParts rule f → ((r s : Part) → Before r s → PairBefore r s p q → Apart (span r) (span s)) → Says (λ _. Apart (span p) (span q)) (apart_check (header_of f) p q)
  told_apart p q order good before = told_if _ _ (PartsOverlap p q) (overlap_none (span p) (span q)) (λ e. (good, order, overlap_some (span p) (span q) e, before))

  told_parts : GoodFactors rule f → Says (λ _. GoodLayout rule f) (parts_check (header_of f) (length f))
  told_parts good =
      next (told_inside Identities good (all_parts (λ q. Before q Identities → Fits q) (λ l. absurd (omega arith)) (λ l. absurd (omega arith)) (λ l. absurd (omega arith)))) λ one.
      next (told_inside Tables good (all_parts (λ q. Before q Tables → Fits q) (λ l. one) (λ l. absurd (omega arith)) (λ l. absurd (omega arith)))) λ two.
      next (told_inside Events good (all_parts (λ q. Before q Events → Fits q) (λ l. one) (λ l. two) (λ l. absurd (omega arith)))) λ three.
      let good7 : GoodParts rule f = (good, all_parts Fits one two three) in
      next (told_apart Identities Tables (omega arith) good7 (all_pairs (λ r s. PairBefore r s Identities Tables → Apart (span r) (span s)) (λ l. absurd (omega arith)) (λ l. absurd (omega arith)) (λ l. absurd (omega arith)))) λ first.
      next (told_apart Identities Events (omega arith) good7 (all_pairs (λ r s. PairBefore r s Identities Events → Apart (span r) (span s)) (λ l. first) (λ l. absurd (omega arith)) (λ l. absurd (omega arith)))) λ second.
      let last = told_apart Tables Events (omega arith) good7 (all_pairs (λ r s. PairBefore r s Tables Events → Apart (span r) (span s)) (λ l. first) (λ l. second) (λ l. absurd (omega arith))) in
      weaker last λ third. (good7, all_pairs (λ r s. Apart (span r) (span s)) first second third)

  told_identities : GoodLayout rule f → Says (λ _. GoodIdentities rule f) (identities_check (header_of f) f)
  told_identities good =
      let row = identity_at (header_of f) f in
      let n = (header_of f).agents in
      told_at _ BadIdentity _ (λ e. (good, first_misfit_tells_none row 65535 n e)) (λ k e. (good, first_misfit_tells_some row 65535 n k e))

  abbrev row : ℕ → ℕ → ℕ
  row = entry_at (header_of f) f

  told_tables : GoodIdentities rule f → Says (λ _. GoodTables rule f) (tables_check (header_of f) f)
  told_tables good =
      let h = header_of f in
      let m = h.cells in
      let test = λ (k : ℕ). is_some (row_misfit h f k) in
      ⊎_elim
      (λ none.
      subst (λ o. Says (λ _. GoodTables rule f) (refuse_in_table h f o)) (sym none.0)
      (record { tells = (good, λ k a b. first_misfit_tells_none (row k) m m (none_is _ (none.1 k a (omega arith)))) }))
      (λ some.
      let k = some.0 in
      let bad = some_is (row_misfit h f k) some.2.passes in
      subst (λ o. Says (λ _. GoodTables rule f) (refuse_in_table h f o)) (sym some.1)
      (subst (λ o. Says (λ _. GoodTables rule f) (refuse_at (BadEntry k) o)) (sym bad.1) (record {
        tells = (
          good,
          some.2.from,
          omega (arith, some.2.below),
          first_misfit_tells_some (row k) m m bad.0 bad.1,
          λ j a b. first_misfit_tells_none (row j) m m (none_is _ (some.2.first j a b)),
        );
      })))
      (first_cases test 1 h.agents (1 + h.agents) refl)

  event_known : (i : ℕ) → not (known (header_of f) f i) ≡ false → KnownEvent rule f i
  event_known i e =
      let p = and_parts (within 1 3 (kind_at (header_of f) f i)) (within 1 (header_of f).agents (agent_at (header_of f) f i)) (not-false (known (header_of f) f i) e) in
      (within_true 1 3 _ p.0, within_true 1 _ _ p.1)

  known_event : (i : ℕ) → KnownEvent rule f i → not (known (header_of f) f i) ≡ false
  known_event i w =
      not_from_true (known (header_of f) f i)
      (and_from (within 1 3 (kind_at (header_of f) f i)) (within 1 (header_of f).agents (agent_at (header_of f) f i)) (within_from 1 3 _ w.0.0 w.0.1) (within_from 1 _ _ w.1.0 w.1.1))

  event_unknown : (i : ℕ) → not (known (header_of f) f i) ≡ true → KnownEvent rule f i → ⊥
  event_unknown i e w = true≢false (sym e ∙ known_event i w)

  unknown_event : (i : ℕ) → (KnownEvent rule f i → ⊥) → not (known (header_of f) f i) ≡ true
  unknown_event i h = ⊎_elim (λ y. y) (λ n. absurd (h (event_known i n))) (cases_Bool (not (known (header_of f) f i)))

  told_events : GoodTables rule f → Says (λ _. Acceptable rule f) (events_check (header_of f) f)
  told_events good =
      let h = header_of f in
      let test = λ (i : ℕ). not (known h f i) in
      told_at _ BadEvent _ (λ e. (good, λ i a b. event_known i (first_tells_none test 1 h.count (1 + h.count) refl e i a (omega arith))))
      (λ i e.
      let first = first_tells_some test 1 h.count (1 + h.count) i refl e in
      (good, first.from, omega (arith, first.below), event_unknown i first.passes, λ j a b. event_known j (first.first j a b)))

  told_all : GoodLength rule f → Says (λ _. Acceptable rule f) (all_checks rule (header_of f) f)
  told_all good =
      next (told_header good) λ good6. next (told_parts good6) λ good8. next (told_identities good8) λ good9. next (told_tables good9) told_events

  -- what the answer to a file tells of it
  pub told : Says (λ _. Acceptable rule f) (decoded rule f)
  told = next told_length λ good. next (told_all good) λ all. record { tells = all }

  -- the other way: what is good passes its check, and a fault is refused

  ok_if : (b : Bool) (e : Refusal) → b ≡ false → refuse_if b e ≡ Ok tt
  ok_if b e is = ap (λ c. refuse_if c e) is

  err_if : (b : Bool) (e : Refusal) → b ≡ true → refuse_if b e ≡ Err e
  err_if b e is = ap (λ c. refuse_if c e) is

  abbrev version_check : Check
  version_check = refuse_if (not (eqb (header_of f).version 1)) FileVersion

  abbrev rule_check : Check
  rule_check = refuse_if (not (eqb (header_of f).rule rule)) FileRule

  abbrev agents_check : Check
  agents_check = refuse_if (not (within 2 16 (header_of f).agents)) FileAgents

  abbrev cells_check : Check
  cells_check = refuse_if (not (within 2 64 (header_of f).cells)) FileCells

  abbrev factor_check : Check
  factor_check = refuse_at CommonFactor (smallest_common_factor (header_of f).agents (header_of f).cells)

  length_ok : GoodLength rule f → length_check f ≡ Ok tt
  length_ok g = ok_if (not (within 12 65535 (length f))) FileLength (passes_range 12 65535 (length f) g)

  version_ok : GoodVersion rule f → version_check ≡ Ok tt
  version_ok g = ok_if _ FileVersion (not_from_true _ (eq-eqb (header_of f).version 1 g.1))

  rule_ok : GoodRule rule f → rule_check ≡ Ok tt
  rule_ok g = ok_if _ FileRule (not_from_true _ (eq-eqb (header_of f).rule rule g.1))

  agents_ok : GoodAgents rule f → agents_check ≡ Ok tt
  agents_ok g = ok_if _ FileAgents (passes_range 2 16 (header_of f).agents g.1)

  cells_ok : GoodCells rule f → cells_check ≡ Ok tt
  cells_ok g = ok_if _ FileCells (passes_range 2 64 (header_of f).cells g.1)

  factor_ok : GoodFactors rule f → factor_check ≡ Ok tt
  factor_ok g = ap (refuse_at CommonFactor) (smallest_none (header_of f).agents (header_of f).cells g.1)

  -- past the checks that a good header passes
  past_version : GoodVersion rule f → header_check rule (header_of f) ≡ (rule_check then agents_check then cells_check then factor_check)
  past_version g = after version_check _ (version_ok g)

  past_rule : GoodRule rule f → header_check rule (header_of f) ≡ (agents_check then cells_check then factor_check)
  past_rule g = past_version g.0 ∙ after rule_check _ (rule_ok g)

  past_agents : GoodAgents rule f → header_check rule (header_of f) ≡ (cells_check then factor_check)
  past_agents g = past_rule g.0 ∙ after agents_check _ (agents_ok g)

  past_cells : GoodCells rule f → header_check rule (header_of f) ≡ factor_check
  past_cells g = past_agents g.0 ∙ after cells_check _ (cells_ok g)

  header_ok : GoodFactors rule f → header_check rule (header_of f) ≡ Ok tt
  header_ok g = past_cells g.0 ∙ factor_ok g

  abbrev inside : Part → Check
  inside p = inside_check (header_of f) (length f) p

  abbrev apart : Part → Part → Check
  apart p q = apart_check (header_of f) p q

  inside_ok : (p : Part) → Fits p → inside p ≡ Ok tt
  inside_ok p h = ok_if _ (PartOutside p) (passes_inside (length f) (span p) h)

  inside_err : (p : Part) → (Fits p → ⊥) → inside p ≡ Err (PartOutside p)
  inside_err p h = err_if _ (PartOutside p) (fails_inside (length f) (span p) h)

  apart_ok : (p q : Part) → Apart (span p) (span q) → apart p q ≡ Ok tt
  apart_ok p q h = ok_if _ (PartsOverlap p q) (passes_apart (span p) (span q) h)

  apart_err : (p q : Part) → (y : ℕ) × In (span p) y × In (span q) y → apart p q ≡ Err (PartsOverlap p q)
  apart_err p q m = err_if _ (PartsOverlap p q) (fails_apart (span p) (span q) m)

  abbrev parts : Check
  parts = parts_check (header_of f) (length f)

  abbrev pairs : Check
  pairs = apart Identities Tables then apart Identities Events then apart Tables Events

  past_inside : GoodParts rule f → parts ≡ pairs
  past_inside g =
      after (inside Identities) _ (inside_ok Identities (g.1 Identities)) ∙ after (inside Tables) _ (inside_ok Tables (g.1 Tables)) ∙ after (inside Events) _ (inside_ok Events (g.1 Events))

  parts_ok : GoodLayout rule f → parts ≡ Ok tt
  parts_ok g =
      past_inside g.0
      ∙ after (apart Identities Tables) _ (apart_ok Identities Tables (g.1 Identities Tables (omega arith)))
      ∙ after (apart Identities Events) _ (apart_ok Identities Events (g.1 Identities Events (omega arith)))
      ∙ apart_ok Tables Events (g.1 Tables Events (omega arith))

  -- the first part outside
  parts_outside : (p : Part) → (Fits p → ⊥) → ((q : Part) → Before q p → Fits q) → parts ≡ Err (PartOutside p)
  parts_outside Identities bad before = stop (inside Identities) _ _ (inside_err Identities bad)
  parts_outside Tables bad before = after (inside Identities) _ (inside_ok Identities (before Identities (omega arith))) ∙ stop (inside Tables) _ _ (inside_err Tables bad)
  parts_outside Events bad before =
      after (inside Identities) _ (inside_ok Identities (before Identities (omega arith)))
      ∙ after (inside Tables) _ (inside_ok Tables (before Tables (omega arith)))
      ∙ stop (inside Events) _ _ (inside_err Events bad)

  -- the first pair that overlaps
  pairs_overlap : (p q : Part) → Before p q → (y : ℕ) × In (span p) y × In (span q) y → ((r s : Part) → Before r s → PairBefore r s p q → Apart (span r) (span s)) → pairs ≡ Err (PartsOverlap p q)
  pairs_overlap p q order = all_pairs Found first second third p q order
    where
      Found : Part → Part → Type 0
      Found p q = (y : ℕ) × In (span p) y × In (span q) y → ((r s : Part) → Before r s → PairBefore r s p q → Apart (span r) (span s)) → pairs ≡ Err (PartsOverlap p q)

      first : Found Identities Tables
      first m before = stop (apart Identities Tables) _ _ (apart_err Identities Tables m)

      second : Found Identities Events
      second m before =
          after (apart Identities Tables) _ (apart_ok Identities Tables (before Identities Tables (omega arith) (inr (refl, omega arith))))
          ∙ stop (apart Identities Events) _ _ (apart_err Identities Events m)

      third : Found Tables Events
      third m before =
          after (apart Identities Tables) _ (apart_ok Identities Tables (before Identities Tables (omega arith) (inl (omega arith))))
          ∙ after (apart Identities Events) _ (apart_ok Identities Events (before Identities Events (omega arith) (inl (omega arith))))
          ∙ apart_err Tables Events m

  identities_ok : GoodIdentities rule f → identities_check (header_of f) f ≡ Ok tt
  identities_ok g =
      let row = identity_at (header_of f) f in
      let n = (header_of f).agents in
      ap (refuse_at BadIdentity) (first_misfit_none row 65535 n (distinct_fits row 65535 n g.1))

  row_good : (k : ℕ) → Distinct (row k) (header_of f).cells (header_of f).cells → row_misfit (header_of f) f k ≡ None
  row_good k d = let m = (header_of f).cells in first_misfit_none (row k) m m (distinct_fits (row k) m m d)

  tables_ok : GoodTables rule f → tables_check (header_of f) f ≡ Ok tt
  tables_ok g =
      let h = header_of f in
      ap (refuse_in_table h f) (none_up_to (λ k. is_some (row_misfit h f k)) h.agents (λ k a b. ap is_some (row_good k (g.1 k a b))))

  events_ok : Acceptable rule f → events_check (header_of f) f ≡ Ok tt
  events_ok g =
      let h = header_of f in
      ap (refuse_at BadEvent) (none_up_to (λ i. not (known h f i)) h.count (λ i a b. known_event i (g.1 i a b)))

  abbrev whole : Result Sayings Refusal
  whole = Ok (plan_at (header_of f) f)

  -- a refusal by one of the later checks is the answer
  in_header : (e : Refusal) → GoodLength rule f → header_check rule (header_of f) ≡ Err e → decoded rule f ≡ Err e
  in_header e g is = after (length_check f) _ (length_ok g) ∙ stop (all_checks rule (header_of f) f) whole e (stop (header_check rule (header_of f)) _ e is)

  past_header : GoodFactors rule f → all_checks rule (header_of f) f ≡ (parts then identities_check (header_of f) f then tables_check (header_of f) f then events_check (header_of f) f)
  past_header g = after (header_check rule (header_of f)) _ (header_ok g)

  past_parts : GoodLayout rule f → all_checks rule (header_of f) f ≡ (identities_check (header_of f) f then tables_check (header_of f) f then events_check (header_of f) f)
  past_parts g = past_header g.0.0 ∙ after parts _ (parts_ok g)

  past_identities : GoodIdentities rule f → all_checks rule (header_of f) f ≡ (tables_check (header_of f) f then events_check (header_of f) f)
  past_identities g = past_parts g.0 ∙ after (identities_check (header_of f) f) _ (identities_ok g)

  past_tables : GoodTables rule f → all_checks rule (header_of f) f ≡ events_check (header_of f) f
  past_tables g = past_identities g.0 ∙ after (tables_check (header_of f) f) _ (tables_ok g)

  answer : (c : Check) → GoodLength rule f → all_checks rule (header_of f) f ≡ c → decoded rule f ≡ (c then whole)
  answer c g is = after (length_check f) _ (length_ok g) ∙ ap (λ k. k then whole) is

  good_length : GoodFactors rule f → GoodLength rule f
  good_length g = g.0.0.0.0.0

  pub accepts : Acceptable rule f → decoded rule f ≡ Ok (plan_at (header_of f) f)
  accepts g = answer (Ok tt) (good_length g.0.0.0.0.0) (past_tables g.0 ∙ events_ok g)

  pub refuses : (e : Refusal) → Fault rule f e → decoded rule f ≡ Err e
  refuses FileLength bad = stop (length_check f) _ FileLength (err_if _ FileLength (fails_range 12 65535 (length f) bad))
  refuses FileVersion bad = in_header FileVersion bad.0 (stop version_check _ FileVersion (err_if _ FileVersion (not_from_false _ (ne_eqb (header_of f).version 1 bad.1))))
  refuses FileRule bad =
      in_header FileRule bad.0.0 (past_version bad.0 ∙ stop rule_check _ FileRule (err_if _ FileRule (not_from_false _ (ne_eqb (header_of f).rule rule bad.1))))
  refuses FileAgents bad =
      in_header FileAgents bad.0.0.0 (past_rule bad.0 ∙ stop agents_check _ FileAgents (err_if _ FileAgents (fails_range 2 16 (header_of f).agents bad.1)))
  refuses FileCells bad =
      in_header FileCells bad.0.0.0.0 (past_agents bad.0 ∙ stop cells_check _ FileCells (err_if _ FileCells (fails_range 2 64 (header_of f).cells bad.1)))
  refuses (CommonFactor l) bad =
      let s = bad.1 in
      in_header (CommonFactor l) bad.0.0.0.0.0
      (past_cells bad.0 ∙ ap (refuse_at CommonFactor) (smallest_some (header_of f).agents (header_of f).cells l s.from_two s.up_to s.shared s.smallest))
  refuses (PartOutside p) bad =
      answer (Err (PartOutside p)) (good_length bad.0) (past_header bad.0 ∙ stop parts _ (PartOutside p) (parts_outside p bad.1 bad.2))
  refuses (PartsOverlap p q) bad =
      answer (Err (PartsOverlap p q)) (good_length bad.0.0) (past_header bad.0.0 ∙ stop parts _ (PartsOverlap p q) (past_inside bad.0 ∙ pairs_overlap p q bad.1 bad.2 bad.3))
  refuses (BadIdentity k) bad =
      let row = identity_at (header_of f) f in
      answer (Err (BadIdentity k)) (good_length bad.0.0.0)
      (past_parts bad.0 ∙ stop (identities_check (header_of f) f) _ (BadIdentity k) (ap (refuse_at BadIdentity) (misfit_from_first row 65535 (header_of f).agents k bad.1)))
  refuses (BadEntry k x) bad =
      let h = header_of f in
      let found = misfit_from_first (row k) h.cells h.cells x bad.3 in
      let first = first_up_to (λ j. is_some (row_misfit h f j)) h.agents k bad.1 bad.2 (ap is_some found) (λ j a b. ap is_some (row_good j (bad.4 j a b))) in
      answer (Err (BadEntry k x)) (good_length bad.0.0.0.0)
      (past_identities bad.0 ∙ stop (tables_check h f) _ (BadEntry k x) (ap (refuse_in_table h f) first ∙ ap (refuse_at (BadEntry k)) found))
  refuses (BadEvent i) bad =
      let h = header_of f in
      let first = first_up_to (λ j. not (known h f j)) h.count i bad.1 bad.2 (unknown_event i bad.3) (λ j a b. known_event j (bad.4 j a b)) in
      answer (Err (BadEvent i)) (good_length bad.0.0.0.0.0) (past_tables bad.0 ∙ ap (refuse_at BadEvent) first)
  refuses (NoSuchAgent k) bad = absurd bad
  refuses (NotIdle k) bad = absurd bad
  refuses (NotHolding k) bad = absurd bad
  refuses (AtRest k) bad = absurd bad
  refuses HeardAll bad = absurd bad
  refuses (NoSuchCell y) bad = absurd bad
  refuses NoMark bad = absurd bad
  refuses CellCount bad = absurd bad
  refuses BufferTooShort bad = absurd bad
  refuses (CellTaken y) bad = absurd bad
  refuses NotBlank bad = absurd bad
  refuses OnStandoff bad = absurd bad
  refuses NoCommonFactor bad = absurd bad
  refuses StandoffAgents bad = absurd bad
  refuses StandoffCells bad = absurd bad
  refuses NoStandoff bad = absurd bad
  refuses RowLength bad = absurd bad
  refuses (BadRenumbering y) bad = absurd bad
