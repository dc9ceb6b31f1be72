-- An accepted plan answers with the file's own bytes, and they make a trial. Assumes nothing.
use Rattle.std.proofs.Common.{◌≡◌, ℕ, ◌≤◌, true, eqb, ◌↔◌, List, is_ok, IfOk, Some, Ok, Err, Result, sym, refl, ap, ◌∙◌, subst, ⊎_elim, arith, MatchOption, MatchResult}
use Rattle.std.proofs.lemmas.Bool.{true≢false, cases_Bool, eqb-true, eqb-false, cond-true, cond-false}
use Rattle.numbers.specs.Names.{named, listed}
use Rattle.numbers.specs.Rows.{Distinct}
use Rattle.numbers.proofs.NameLaws.{length_listed, named_listed}
use Rattle.numbers.proofs.Pigeonhole.{every_number, apart_both}
use Rattle.refusal.specs.declared.Refusal.{Refusal}
use Rattle.plan.specs.Accepted.{Between, Acceptable, Fault, event_kind, event_agent, Faithful}
use Rattle.plan.specs.Checks.{header_of, decoded, answered}
use Rattle.plan.specs.Plans.{identity_at, entry_at, kind_at, agent_at, event_of, event_at, Sayings, plan_at, model, entry_in, entry_named}
use Rattle.plan.specs.declared.plan.Plan.{Plan}
use Rattle.plan.proofs.Judged.{told, accepts, refuses}

-- an event of a known kind keeps its two bytes
known_kind : (kind k : ℕ) → Between 1 3 kind → (event_kind (event_of kind k) ≡ kind) × (event_agent (event_of kind k) ≡ k)
known_kind kind k w =
    ⊎_elim
    (λ one.
    let is = cond-true (eqb kind 1) _ _ one in
    (ap event_kind is ∙ sym (eqb-true kind 1 one), ap event_agent is))
    (λ not-one.
    ⊎_elim
    (λ two.
    let is = cond-false (eqb kind 1) _ _ not-one ∙ cond-true (eqb kind 2) _ _ two in
    (ap event_kind is ∙ sym (eqb-true kind 2 two), ap event_agent is))
    (λ not_two.
    let is = cond-false (eqb kind 1) _ _ not-one ∙ cond-false (eqb kind 2) _ _ not_two in
    let three : kind ≡ 3 = omega (arith, w.0, w.1, eqb-false kind 1 not-one, eqb-false kind 2 not_two) in
    (ap event_kind is ∙ sym three, ap event_agent is))
    (cases_Bool (eqb kind 2)))
    (cases_Bool (eqb kind 1))

same_some : {A : Type 0} (x y : A) → Some x ≡ Some y → x ≡ y
same_some x y e = cc

module _ (rule : ℕ) (f : List ℕ) (good : Acceptable rule f) where
  abbrev n : ℕ
  n = (header_of f).agents

  abbrev m : ℕ
  m = (header_of f).cells

  abbrev row : ℕ → ℕ → ℕ
  row = entry_at (header_of f) f

  abbrev table : ℕ → List ℕ
  table k = listed (row k) m

  named_entry : (k x : ℕ) → 1 ≤ k → k ≤ n → Between 1 m x → entry_named (plan_at (header_of f) f) k x ≡ Some (row k x)
  named_entry k x a b w = ap (λ o. entry_in o x) (named_listed table n k a b) ∙ named_listed (row k) m x w.0 w.1

  named_identity : (k : ℕ) → 1 ≤ k → k ≤ n → named (listed (identity_at (header_of f) f) n) k ≡ Some (identity_at (header_of f) f k)
  named_identity k a b = named_listed (identity_at (header_of f) f) n k a b

  table_good : (k : ℕ) → 1 ≤ k → k ≤ n → Distinct (row k) m m
  table_good = good.0.1

  identities_good : Distinct (identity_at (header_of f) f) 65535 n
  identities_good = good.0.0.1

  pub faithful : Faithful f (plan_at (header_of f) f)
  faithful = record {
    agents = refl;
    cells = refl;
    rule = refl;
    count = length_listed (event_at (header_of f) f) (header_of f).count;
    identities = named_identity;
    tables = λ k x a b c d. named_entry k x a b (c, d);
    events = λ i a b.
        let long = length_listed (event_at (header_of f) f) (header_of f).count in
        let in_count : i ≤ (header_of f).count = omega (arith, long, b) in
        let w = good.1 i a in_count in
        let kinds = known_kind (kind_at (header_of f) f i) (agent_at (header_of f) f i) w.0 in
        subst
        (λ o. MatchOption o ⊥ (λ e. (event_kind e ≡ kind_at (header_of f) f i) × (event_agent e ≡ agent_at (header_of f) f i) × Between 1 n (event_agent e)))
        (sym (named_listed (event_at (header_of f) f) (header_of f).count i a in_count))
        (kinds.0, kinds.1, subst (Between 1 n) (sym kinds.1) w.1);
    differ = λ j k a b c e. identities_good.apart j k a b c (same_some _ _ (sym (named_identity j a (omega arith)) ∙ e ∙ named_identity k (omega arith) c));
    lawful = λ k a b. subst (λ o. MatchOption o ⊥ (Between 1 65535)) (sym (named_identity k a b)) (identities_good.inside k a b);
    arranged = λ k a b y w.
        let d = table_good k a b in
        let found = every_number (row k) m y d w.0 w.1 in
        let x = found.0 in
        let at_x : Between 1 m x = (found.1, found.2) in (
          x,
          at_x,
          named_entry k x a b at_x ∙ ap Some found.3,
          λ z v e. apart_both (row k) m m z x d v.0 v.1 found.1 found.2 (same_some _ _ (sym (named_entry k z a b v) ∙ e) ∙ sym found.3),
        );
    in_range = λ k x a b w. subst (λ o. MatchOption o ⊥ (Between 1 m)) (sym (named_entry k x a b w)) ((table_good k a b).inside x w.0 w.1);
  }

-- an accepted file makes a trial, and is refused with nothing
pub accepted_plan : (rule : ℕ) (f : List ℕ) (p : Sayings) → Ok p ≡ decoded rule f → Acceptable rule f × Faithful f p
accepted_plan rule f p is =
    let good : Acceptable rule f = subst (λ a. MatchResult a (λ _. Acceptable rule f) (Fault rule f)) (sym is) (told rule f).tells in
    let same : p ≡ plan_at (header_of f) f = let e = is ∙ accepts rule f good in cc in
    (good, subst (Faithful f) (sym same) (faithful rule f good))

pub not_refused : {A : Type 0} {p : A} (rule : ℕ) (f : List ℕ) → Acceptable rule f → (e : Refusal) → (Ok p ≡ Err e) ↔ Fault rule f e
not_refused rule f good e = (
  λ never. let z : ◌≡◌ {A = ℕ} 0 1 = cc in absurd (omega arith),
  λ bad.
      let never = sym (accepts rule f good) ∙ refuses rule f e bad in
      let z : ◌≡◌ {A = ℕ} 0 1 = cc in
      absurd (omega arith),
)

-- all that a decoder's answer says, from the equation
pub record Judgement (rule : ℕ) (f : List ℕ) (r : Result Plan Refusal) : Type 0 where
  pub accepted : (is_ok r ≡ true) ↔ Acceptable rule f
  pub refused : (e : Refusal) → (r ≡ Err e) ↔ Fault rule f e
  pub faithful : IfOk r (λ p. Faithful f (model p))

pub judgement : (rule : ℕ) (f : List ℕ) (r : Result Plan Refusal) → answered r ≡ decoded rule f → Judgement rule f r
judgement rule f (Ok p) is =
    let h = accepted_plan rule f (model p) is in
    record { accepted = (λ _. h.0, λ _. refl); refused = not_refused rule f h.0; faithful = h.1 }
judgement rule f (Err d) is =
    let fault : Fault rule f d = subst (λ a. MatchResult a (λ _. Acceptable rule f) (Fault rule f)) (sym is) (told rule f).tells in
    record {
      accepted = (
        λ never. absurd (true≢false (sym never)),
        λ good.
            let never = is ∙ accepts rule f good in
            let z : ◌≡◌ {A = ℕ} 0 1 = cc in
            absurd (omega arith),
      );
      refused = λ e. (
        λ same. let it : d ≡ e = cc in subst (Fault rule f) it fault,
        λ bad.
            let it = is ∙ refuses rule f e bad in
            let there : d ≡ e = cc in
            ap Err there,
      );
      faithful = tt;
    }
