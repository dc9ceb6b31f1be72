-- A world by its agents, tables and marks, and what a change of one seat leaves. Assumes nothing.
use Rattle.std.proofs.Common.{◌≡◌, ℕ, zero, suc, ◌-◌, ◌≤◌, List, [], ◌∷◌, length, get_or, set, Some, None, Option, sym, ap, ◌∙◌, ⊎_elim, arith}
use Rattle.std.proofs.lemmas.List.{length-set, get_or-set_same, get_or-set_other}
use Rattle.std.proofs.lemmas.Option.{slice_get-get_or}
use Rattle.std.proofs.lemmas.Bool.{cases_lt}
use Rattle.numbers.specs.Names.{named}
use Rattle.numbers.proofs.NameLaws.{named_zero, named_past}
use Rattle.rules.specs.Records.{loaded_agent}
use Rattle.rules.specs.declared.agent.Agent.{Agent}
use Rattle.cells.specs.Marks.{mark_at}
use Rattle.cells.specs.declared.mark.Mark.{Mark}
use Rattle.model.specs.Meanings.{Meaning}
use Rattle.model.specs.Rigs.{Seat, World, entry}

-- lists by names

pub named_some : {A : Type 0} (xs : List A) (k : ℕ) (x : A) → named xs k ≡ Some x → (1 ≤ k) × (k ≤ length xs)
named_some xs zero x e = let z : ◌≡◌ {A = ℕ} 0 1 = cc (e, named_zero xs) in absurd (omega arith)
named_some xs (suc k) x e =
    ⊎_elim
    (λ past. let z : ◌≡◌ {A = ℕ} 0 1 = cc (e, named_past xs (suc k) past) in absurd (omega arith))
    (λ low. (omega arith, low))
    (cases_lt (length xs) (suc k))

pub named_there : {A : Type 0} (xs : List A) (k : ℕ) (d : A) → 1 ≤ k → k ≤ length xs → named xs k ≡ Some (get_or xs (k - 1) d)
unfolding named
named_there xs zero d a b = absurd (omega arith)
named_there xs (suc k) d a b =
    let same : suc k - 1 ≡ k = omega arith in
    slice_get-get_or xs k d (omega arith) ∙ ap (λ i. Some (get_or xs i d)) (sym same)

pub named_find : {A : Type 0} (xs : List A) (k : ℕ) → 1 ≤ k → k ≤ length xs → (x : A) × (named xs k ≡ Some x)
named_find [] k a b = absurd (omega arith)
named_find (y ∷ ys) k a b = (get_or (y ∷ ys) (k - 1) y, named_there (y ∷ ys) k y a b)

pub named_set_same : {A : Type 0} (xs : List A) (k : ℕ) (x : A) → 1 ≤ k → k ≤ length xs → named (set xs (k - 1) x) k ≡ Some x
named_set_same xs k x a b =
    let long = length-set xs (k - 1) x in
    named_there (set xs (k - 1) x) k x a (omega arith) ∙ ap Some (get_or-set_same xs (k - 1) x x (omega arith))

pub named_set_other : {A : Type 0} (xs : List A) (j k : ℕ) (x : A) → 1 ≤ k → (j ≡ k → ⊥) → named (set xs (k - 1) x) j ≡ named xs j
named_set_other xs zero k x a other = named_zero (set xs (k - 1) x) ∙ sym (named_zero xs)
named_set_other xs (suc j) k x a other =
    let long = length-set xs (k - 1) x in
    ⊎_elim
    (λ past. named_past (set xs (k - 1) x) (suc j) (omega arith) ∙ sym (named_past xs (suc j) past))
    (λ low.
    named_there (set xs (k - 1) x) (suc j) x (omega arith) (omega arith)
    ∙ ap Some (get_or-set_other xs (k - 1) (suc j - 1) x x (λ e. other (omega arith)))
    ∙ sym (named_there xs (suc j) x (omega arith) low))
    (cases_lt (length xs) (suc j))

module _ {P : Type 0} (R : Meaning P) where
  -- an agent that is not there counts as a loaded one
  abbrev pub agent_in : Option (Seat P) → Agent P
  agent_in None = loaded_agent R.loaded 0
  agent_in (Some s) = s.agent

  abbrev pub agent_at : World P → ℕ → Agent P
  agent_at w k = agent_in (named w.rig.seats k)

module _ {P : Type 0} where
  abbrev pub table_in : Option (Seat P) → ℕ → ℕ
  table_in None x = 0
  table_in (Some s) x = entry s x

  -- the store's name for what agent k calls x
  abbrev pub table_at : World P → ℕ → ℕ → ℕ
  table_at w k x = table_in (named w.rig.seats k) x

  -- the mark at what agent k calls x
  abbrev pub met_at : World P → ℕ → ℕ → Mark
  met_at w k x = mark_at w.store (table_at w k x)
