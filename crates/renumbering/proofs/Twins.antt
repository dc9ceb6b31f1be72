-- A world and its twin, with the cells renumbered and the identities replaced: seats, tables and marks. Assumes nothing.
use Rattle.std.proofs.Common.{◌≡◌, ℕ, zero, suc, ◌+◌, ◌-◌, ◌≤◌, max, not, leb, List, [], ◌∷◌, map, length, get_or, is_some, Some, None, Ok, Option, sym, refl, ap, ◌∙◌, ⊎_elim, arith}
use Rattle.std.proofs.lemmas.List.{length-map, map-set, get_or-map, get_or_past}
use Rattle.std.proofs.lemmas.Bool.{cases_lt}
use Rattle.std.specs.List.{slice_get}
use Rattle.numbers.specs.First.{first_of}
use Rattle.numbers.specs.Names.{named, listed}
use Rattle.numbers.specs.Rows.{Distinct, within}
use Rattle.numbers.proofs.FirstLaws.{first_same}
use Rattle.numbers.proofs.NameLaws.{length_listed, getD_listed, listed_from}
use Rattle.refusal.specs.Checks.{◌then◌, refuse_if}
use Rattle.refusal.specs.declared.Refusal.TheVariants.{NoSuchAgent, OnStandoff, HeardAll}
use Rattle.cells.specs.Marks.{mark_at}
use Rattle.cells.specs.declared.mark.Mark.{Mark}
use Rattle.tally.specs.Counts.{count_names}
use Rattle.tally.proofs.CountLaws.{count_same}
use Rattle.rules.specs.Lawful.{replaced, replaced_agent}
use Rattle.model.specs.Rigs.{Seat, Rig, World, agents, is_asking, is_holding, section_in, section_at, figure_in, figure_at, asking_now, holder, agent_check, section_answer, figures_answer, hearing_check, heard_at_most, seated, counted}

-- lists through a function

abbrev pub through : {A B : Type 0} → (A → B) → Option A → Option B
through f None = None
through f (Some x) = Some (f x)

nth_map : {A B : Type 0} (f : A → B) (xs : List A) (k : ℕ) → slice_get (map f xs) k ≡ through f (slice_get xs k)
nth_map f [] k = refl
nth_map f (x ∷ xs) zero = refl
nth_map f (x ∷ xs) (suc k) = nth_map f xs k

pub named_map : {A B : Type 0} (f : A → B) (xs : List A) (k : ℕ) → named (map f xs) k ≡ through f (named xs k)
unfolding named
named_map f xs zero = refl
named_map f xs (suc k) = nth_map f xs k

pub map_listed : {A B : Type 0} (f : A → B) (g : ℕ → A) (n : ℕ) → map f (listed g n) ≡ listed (λ k. f (g k)) n
map_listed f g n =
    let long = length_listed g n in
    listed_from (λ k. f (g k)) n (f (g 1)) (map f (listed g n)) (length-map (listed g n) f ∙ long)
    (λ k a b. get_or-map f (listed g n) (k - 1) (g 1) (f (g 1)) (omega arith) ∙ ap f (getD_listed g n k (g 1) a b))

-- a new numbering of the cells 1 to m, and the way back
pub record Numbering (σ τ : ℕ → ℕ) (m : ℕ) : Type 0 where
  pub forth : Distinct σ m m
  pub back : Distinct τ m m
  pub round : (y : ℕ) → 1 ≤ y → y ≤ m → σ (τ y) ≡ y
  pub home : (y : ℕ) → 1 ≤ y → y ≤ m → τ (σ y) ≡ y

-- the marks in the cells of the twin
abbrev pub twin_store : (ℕ → ℕ) → (ℕ → ℕ) → ℕ → List Mark → List Mark
twin_store τ π m ms = listed (λ z. replaced π (mark_at ms (τ z))) m

module _ {P : Type 0} where
  abbrev pub twin_seat : (ℕ → ℕ) → (ℕ → ℕ) → Seat P → Seat P
  twin_seat σ π s = record {
    table = map σ s.table;
    agent = replaced_agent π s.agent;
    steps = s.steps;
    entries = s.entries;
    refused = s.refused;
  }

  abbrev pub twin_rig : (ℕ → ℕ) → (ℕ → ℕ) → Rig P → Rig P
  twin_rig σ π g = record {
    cells = g.cells;
    seats = map (twin_seat σ π) g.seats;
    heard = g.heard;
    crowd = g.crowd;
    standoff = g.standoff;
  }

  abbrev pub twin : (ℕ → ℕ) → (ℕ → ℕ) → (ℕ → ℕ) → World P → World P
  twin σ τ π w = record {
    rig = twin_rig σ π w.rig;
    store = twin_store τ π w.rig.cells w.store;
  }

  module _ (σ π : ℕ → ℕ) where
    section_through : (o : Option (Seat P)) → section_in (through (twin_seat σ π) o) ≡ section_in o
    section_through None = refl
    section_through (Some s) = refl

    -- what the questions see is the same
    pub twin_agents : (g : Rig P) → agents (twin_rig σ π g) ≡ agents g
    twin_agents g = length-map g.seats (twin_seat σ π)

    pub twin_section : (g : Rig P) (k : ℕ) → section_at (twin_rig σ π g) k ≡ section_at g k
    twin_section g k = ap section_in (named_map (twin_seat σ π) g.seats k) ∙ section_through (named g.seats k)

    pub twin_figure : (f : Seat P → ℕ) → ((s : Seat P) → f (twin_seat σ π s) ≡ f s) → (g : Rig P) (k : ℕ) → figure_at f (twin_rig σ π g) k ≡ figure_at f g k
    twin_figure f same g k = ap (figure_in f) (named_map (twin_seat σ π) g.seats k) ∙ go (named g.seats k)
      where
        go : (o : Option (Seat P)) → figure_in f (through (twin_seat σ π) o) ≡ figure_in f o
        go None = refl
        go (Some s) = same s

    pub twin_asking : (g : Rig P) → asking_now (twin_rig σ π g) ≡ asking_now g
    twin_asking g =
        ap (count_names (λ k. is_asking (section_at (twin_rig σ π g) k))) (twin_agents g)
        ∙ count_same (λ k. is_asking (section_at (twin_rig σ π g) k)) (λ k. is_asking (section_at g k)) (agents g) (λ k a b. ap is_asking (twin_section g k))

    pub twin_holder : (g : Rig P) → holder (twin_rig σ π g) ≡ holder g
    twin_holder g =
        ap (first_of (λ k. is_holding (section_at (twin_rig σ π g) k)) 1) (twin_agents g)
        ∙ first_same (λ k. is_holding (section_at (twin_rig σ π g) k)) (λ k. is_holding (section_at g k)) 1 (agents g) (1 + agents g) refl (λ k a b. ap is_holding (twin_section g k))

    pub twin_there : (g : Rig P) (k : ℕ) → agent_check (twin_rig σ π g) k ≡ agent_check g k
    twin_there g k = ap (λ n. refuse_if (not (within 1 n k)) (NoSuchAgent k)) (twin_agents g)

    pub twin_hearing : (g : Rig P) (k : ℕ) → hearing_check (twin_rig σ π g) k ≡ hearing_check g k
    twin_hearing g k = ap (λ c. c then refuse_if (is_some g.standoff) OnStandoff then refuse_if (leb heard_at_most g.heard) HeardAll) (twin_there g k)

    pub twin_section_answer : (g : Rig P) (k : ℕ) → section_answer (twin_rig σ π g) k ≡ section_answer g k
    twin_section_answer g k = λ i. twin_there g k i then Ok (twin_section g k i)

    pub twin_figures_answer : (g : Rig P) (k : ℕ) → figures_answer (twin_rig σ π g) k ≡ figures_answer g k
    twin_figures_answer g k =
        λ i.
        twin_there g k i then Ok (record {
          steps = twin_figure (λ s. s.steps) (λ s. refl) g k i;
          entries = twin_figure (λ s. s.entries) (λ s. refl) g k i;
          refused = twin_figure (λ s. s.refused) (λ s. refl) g k i;
          heard = g.heard;
          crowd = g.crowd;
        })

    -- one seat changed, one call heard
    pub twin_seated : (g : Rig P) (k : ℕ) (s : Seat P) → seated (twin_rig σ π g) k (twin_seat σ π s) ≡ twin_rig σ π (seated g k s)
    twin_seated g k s =
        λ i. record {
          cells = g.cells;
          seats = sym (map-set (twin_seat σ π) g.seats (k - 1) s) i;
          heard = g.heard;
          crowd = g.crowd;
          standoff = g.standoff;
        }

    pub twin_counted : (g : Rig P) → counted (twin_rig σ π g) ≡ twin_rig σ π (counted g)
    twin_counted g =
        λ i. record {
          cells = g.cells;
          seats = map (twin_seat σ π) g.seats;
          heard = g.heard + 1;
          crowd = max g.crowd (twin_asking g i);
          standoff = g.standoff;
        }

    -- through a table, as long as it names cells
    pub twin_entry : (s : Seat P) (x : ℕ) → 1 ≤ get_or s.table (x - 1) 0 → get_or (map σ s.table) (x - 1) 0 ≡ σ (get_or s.table (x - 1) 0)
    twin_entry s x some =
        ⊎_elim
        (λ less. get_or-map σ s.table (x - 1) 0 0 less)
        (λ past. let none = get_or_past s.table (x - 1) 0 past in absurd (omega arith))
        (cases_lt (x - 1) (length s.table))
