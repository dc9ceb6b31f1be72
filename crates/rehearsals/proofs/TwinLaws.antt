-- What the tests of twins tell. Assumes nothing.
use Rattle.std.proofs.Common.{◌≡◌, ℕ, ◌+◌, true, is_some, Some, None, Ok, Option, sym, refl, ap, ◌∙◌, ⊎_elim, arith}
use Rattle.std.proofs.lemmas.Bool.{eqb-true, and_parts, true≢false}
use Rattle.numbers.specs.First.{first_of}
use Rattle.numbers.specs.Names.{named}
use Rattle.numbers.proofs.FirstLaws.{first_cases}
use Rattle.plan.specs.Plans.{Sayings, entry_named}
use Rattle.cells.specs.declared.mark.Mark.{Mark}
use Rattle.cells.specs.declared.mark.Mark.TheVariants.{Empty, Owner, Rung}
use Rattle.renumbering.specs.Renumbering.{Renumbers, Replaces, empty, rung, owner}
use Rattle.rehearsals.specs.Twins.{is_number, has_both, replaced, entry_by, name_in_twin}

number_is : (o : Option ℕ) (i : ℕ) → is_number o i ≡ true → o ≡ Some i
number_is None i e = absurd (true≢false (sym e))
number_is (Some x) i e = ap Some (eqb-true x i e)

module _ (p q : Sayings) where
  -- an agent with both identities was found
  owner_replaces : (i j : ℕ) → is_some (first_of (has_both p q i j) 1 p.agents) ≡ true → Replaces p q (Ok (Owner i)) (Ok (Owner j))
  owner_replaces i j e =
      ⊎_elim
      (λ n. absurd (true≢false (sym e ∙ ap is_some n.0)))
      (λ s.
      let k = s.0 in
      let both = and_parts (is_number (named p.identities k) i) (is_number (named q.identities k) j) s.2.passes in
      owner k i j (number_is (named p.identities k) i both.0) (number_is (named q.identities k) j both.1) refl refl)
      (first_cases (has_both p q i j) 1 p.agents (1 + p.agents) refl)

  -- a pair of marks that passes is a mark and the same with identities replaced
  pub replaced_tells : (a b : Mark) → replaced p q a b ≡ true → Replaces p q (Ok a) (Ok b)
  replaced_tells Empty Empty e = empty refl refl
  replaced_tells (Owner i) (Owner j) e = owner_replaces i j e
  replaced_tells (Rung r) (Rung s) e = rung r refl (ap (λ t. Ok (Rung t)) (sym (eqb-true r s e)))
  replaced_tells _ _ e = absurd (true≢false (sym e))

  -- what is tested of two owners
  pub owners_tested : (a b : Mark) (i j : ℕ) → a ≡ Owner i → b ≡ Owner j → replaced p q a b ≡ is_some (first_of (has_both p q i j) 1 p.agents)
  owners_tested a b i j e f = ap (λ a. replaced p q a b) e ∙ ap (replaced p q (Owner i)) f

  -- the cell that is found is the new name, under every renumbering from the first plan to the second
  pub name_renumbers : (y : ℕ) (σ : ℕ → ℕ) (z : ℕ) → Renumbers σ p q → name_in_twin p q y ≡ Some z → z ≡ σ y
  name_renumbers y σ z h e =
      ⊎_elim
      (λ n. let none = ap (entry_by q) n.0 in let c : ◌≡◌ {A = ℕ} 0 1 = cc (none, e) in absurd (omega arith))
      (λ s.
      let x = s.0 in
      let found = ap (entry_by q) s.1 in
      let there = h.tables 1 x y (number_is (entry_named p 1 x) y s.2.passes) in
      cc (e, found, there))
      (first_cases (λ x. is_number (entry_named p 1 x) y) 1 p.cells (1 + p.cells) refl)
