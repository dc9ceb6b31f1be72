-- A plan of two agents over three cells, and its twin. Assumes nothing.
use Rattle.std.proofs.Common.{◌≡◌, ℕ, zero, suc, ◌+◌, ◌≤◌, cond, eqb, [], ◌∷◌, replicate, Some, None, Option, refl, ap, ◌∙◌, ⊎_elim, arith}
use Rattle.std.proofs.lemmas.Bool.{cases_eq, cond-true, cond-false, eq-eqb, ne_eqb}
use Rattle.numbers.specs.Factors.{smallest_common_factor, common_factor, gcd}
use Rattle.numbers.specs.First.{first_of}
use Rattle.numbers.specs.Names.{named, listed}
use Rattle.numbers.specs.Rows.{Distinct, repeats, misfit, first_misfit}
use Rattle.numbers.proofs.RowLaws.{first_misfit_tells_none}
use Rattle.plan.specs.Plans.{Sayings, entry_named}
use Rattle.cells.specs.declared.mark.Mark.TheVariants.{Empty}
use Rattle.model.specs.Meanings.{read_and_write}
use Rattle.renumbering.specs.Renumbering.{Renumbers, TwinFiles}

-- cell 1 becomes 2, 2 becomes 3, and 3 becomes 1
abbrev turn : ℕ → ℕ
turn y = cond (eqb y 3) 1 (y + 1)

turn_distinct : Distinct turn 3 3
unfolding first_misfit misfit repeats first_of
turn_distinct = first_misfit_tells_none turn 3 3 refl

turn_moves : (y : ℕ) → turn y ≡ y → ⊥
turn_moves y e =
    ⊎_elim
    (λ three. let z = cond-true (eqb y 3) 1 (y + 1) (eq-eqb y 3 three) in omega arith)
    (λ other. let z = cond-false (eqb y 3) 1 (y + 1) (ne_eqb y 3 other) in omega arith)
    (cases_eq y 3)

abbrev plan : Sayings
plan = record { rule = 1; agents = 2; cells = 3; identities = 700 ∷ 41 ∷ []; tables = (1 ∷ 2 ∷ 3 ∷ []) ∷ (2 ∷ 3 ∷ 1 ∷ []) ∷ []; events = [] }

abbrev twin : Sayings
twin = record { rule = 1; agents = 2; cells = 3; identities = 9 ∷ 65535 ∷ []; tables = (2 ∷ 3 ∷ 1 ∷ []) ∷ (3 ∷ 1 ∷ 2 ∷ []) ∷ []; events = [] }

abbrev turned_entry : Option ℕ → Option ℕ
turned_entry None = None
turned_entry (Some y) = Some (turn y)

entries : (k x : ℕ) → entry_named twin k x ≡ turned_entry (entry_named plan k x)
unfolding named
entries zero x = refl
entries (suc zero) zero = refl
entries (suc zero) (suc zero) = refl
entries (suc zero) (suc (suc zero)) = refl
entries (suc zero) (suc (suc (suc zero))) = refl
entries (suc zero) (suc (suc (suc (suc x)))) = refl
entries (suc (suc zero)) zero = refl
entries (suc (suc zero)) (suc zero) = refl
entries (suc (suc zero)) (suc (suc zero)) = refl
entries (suc (suc zero)) (suc (suc (suc zero))) = refl
entries (suc (suc zero)) (suc (suc (suc (suc x)))) = refl
entries (suc (suc (suc k))) x = refl

renumbers_twin : Renumbers turn plan twin
renumbers_twin = record {
  agents = refl;
  cells = refl;
  permutes = turn_distinct;
  tables = λ k x y is. entries k x ∙ ap turned_entry is;
}

differing : (k : ℕ) → 1 ≤ k → k ≤ 2 → named plan.identities k ≡ named twin.identities k → ⊥
unfolding named
differing zero a b e = omega arith
differing (suc zero) a b e = let z : ◌≡◌ {A = ℕ} 700 9 = cc e in omega arith
differing (suc (suc zero)) a b e = let z : ◌≡◌ {A = ℕ} 41 65535 = cc e in omega arith
differing (suc (suc (suc k))) a b e = omega arith

pub example : TwinFiles read_and_write (replicate 3 Empty) (1 ∷ 1 ∷ 2 ∷ 3 ∷ 0 ∷ 12 ∷ 0 ∷ 16 ∷ 0 ∷ 22 ∷ 0 ∷ 0 ∷ 2 ∷ 188 ∷ 0 ∷ 41 ∷ 1 ∷ 2 ∷ 3 ∷ 2 ∷ 3 ∷ 1 ∷ []) (1 ∷ 1 ∷ 2 ∷ 3 ∷ 0 ∷ 12 ∷ 0 ∷ 16 ∷ 0 ∷ 22 ∷ 0 ∷ 0 ∷ 0 ∷ 9 ∷ 255 ∷ 255 ∷ 2 ∷ 3 ∷ 1 ∷ 3 ∷ 1 ∷ 2 ∷ [])
unfolding first_of named listed smallest_common_factor common_factor gcd first_misfit misfit repeats
example = record {
  renumbering = turn;
  plan = plan;
  twin = twin;
  says = refl;
  accepted = refl;
  twin_says = refl;
  twin_accepted = refl;
  renumbers = renumbers_twin;
  moves = λ y _ _. turn_moves y;
  differs = differing;
}
