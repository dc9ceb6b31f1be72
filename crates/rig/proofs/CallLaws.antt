-- What the rig hears, and what a call changes. Assumes nothing.
use Rattle.std.proofs.Common.{◌≡◌, ℕ, ◌-◌, ◌<◌, ◌≤◌, true, false, not, leb, List, map, length, set, is_some, Some, None, Ok, Err, Option, sym, ap, ◌∙◌}
use Rattle.std.proofs.lemmas.List.{length-map, map-set}
use Rattle.std.proofs.lemmas.Bool.{le-leb, lt-leb}
use Rattle.numbers.specs.Names.{named}
use Rattle.numbers.specs.Rows.{within}
use Rattle.refusal.specs.Checks.{◌then◌, refuse_if}
use Rattle.refusal.specs.declared.Refusal.TheVariants.{NoSuchAgent, OnStandoff, HeardAll}
use Rattle.cells.specs.declared.mark.Mark.{Mark}
use Rattle.model.specs.Rigs as model
use Rattle.rig.specs.Worlds.{seat_over}
use Rattle.rig.specs.declared.seat.Seat.{Seat}
use Rattle.rig.proofs.QuestionLaws.{then_passed, then_refused}
use Rattle.rig.proofs.SeatLaws.{named_map_some, named_map_none}

-- the three tests before a call is heard

module _ {P : Type 0} (g : model.Rig P) (k : ℕ) where
  pub unheard_agent : false ≡ within 1 (model.agents g) k → model.hearing_check g k ≡ Err (NoSuchAgent k)
  unheard_agent e = then_refused (model.agent_check g k) _ _ (ap (λ b. refuse_if (not b) (NoSuchAgent k)) (sym e))

  heard_agent : true ≡ within 1 (model.agents g) k → model.hearing_check g k ≡ (refuse_if (is_some g.standoff) OnStandoff then refuse_if (leb model.heard_at_most g.heard) HeardAll)
  heard_agent e = then_passed (model.agent_check g k) _ (ap (λ b. refuse_if (not b) (NoSuchAgent k)) (sym e))

  pub unheard_standoff : true ≡ within 1 (model.agents g) k → true ≡ is_some g.standoff → model.hearing_check g k ≡ Err OnStandoff
  unheard_standoff e f = heard_agent e ∙ ap (λ b. refuse_if b OnStandoff then refuse_if (leb model.heard_at_most g.heard) HeardAll) (sym f)

  off_standoff : true ≡ within 1 (model.agents g) k → false ≡ is_some g.standoff → model.hearing_check g k ≡ refuse_if (leb model.heard_at_most g.heard) HeardAll
  off_standoff e f = heard_agent e ∙ ap (λ b. refuse_if b OnStandoff then refuse_if (leb model.heard_at_most g.heard) HeardAll) (sym f)

  pub unheard_late : true ≡ within 1 (model.agents g) k → false ≡ is_some g.standoff → 1000000 ≤ g.heard → model.hearing_check g k ≡ Err HeardAll
  unheard_late e f h = off_standoff e f ∙ ap (λ b. refuse_if b HeardAll) (le-leb 1000000 g.heard h)

  pub heard_now : true ≡ within 1 (model.agents g) k → false ≡ is_some g.standoff → g.heard < 1000000 → model.hearing_check g k ≡ Ok tt
  heard_now e f h = off_standoff e f ∙ ap (λ b. refuse_if b HeardAll) (lt-leb 1000000 g.heard h)

-- the same agents, counted in the code's list
pub within_mapped : {A B : Type 0} (f : A → B) (xs : List A) (n k : ℕ) → n ≡ length xs → within 1 n k ≡ within 1 (length (map f xs)) k
within_mapped f xs n k e = ap (λ l. within 1 l k) (e ∙ sym (length-map xs f))

-- a world with other seats
abbrev pub seated_as : {P : Type 0} → ℕ → ℕ → ℕ → Option ℕ → List Mark → List (model.Seat P) → model.World P
seated_as cells heard crowd standoff ms seats = record {
  rig = record { cells = cells; seats = seats; heard = heard; crowd = crowd; standoff = standoff };
  store = ms;
}

module _ {P : Type 0} (m : ℕ) where
  -- a seat that is put
  pub seats_put : (xs after : List (Seat P)) (k : ℕ) (s : Seat P) → after ≡ set xs (k - 1) s → map (seat_over m) after ≡ set (map (seat_over m) xs) (k - 1) (seat_over m s)
  seats_put xs after k s e = ap (map (seat_over m)) e ∙ map-set (seat_over m) xs (k - 1) s

  -- a call for a seat that is there, and for none
  pub at_there : {A : Type 0} (xs : List (Seat P)) (k : ℕ) (s : Seat P) (f : model.Seat P → A) (otherwise : A) → Some s ≡ named xs k → model.at_seat (named (map (seat_over m) xs) k) f otherwise ≡ f (seat_over m s)
  at_there xs k s f otherwise e = ap (λ o. model.at_seat o f otherwise) (named_map_some (seat_over m) xs k s e)

  pub at_none : {A : Type 0} (xs : List (Seat P)) (k : ℕ) (f : model.Seat P → A) (otherwise : A) → None ≡ named xs k → model.at_seat (named (map (seat_over m) xs) k) f otherwise ≡ otherwise
  at_none xs k f otherwise e = ap (λ o. model.at_seat o f otherwise) (named_map_none (seat_over m) xs k e)
