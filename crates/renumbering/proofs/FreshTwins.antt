-- The twin of a freshly loaded world, and whose marks stand in the cells after a run. Assumes nothing.
use Rattle.std.proofs.Common.{◌≡◌, ℕ, zero, suc, ◌≤◌, true, List, [], ◌∷◌, map, length, replicate, Some, sym, refl, ap, ◌∙◌, subst, ⊎_elim, arith}
use Rattle.std.proofs.lemmas.List.{map-id}
use Rattle.std.specs.List.{slice_get}
use Rattle.numbers.specs.Names.{named}
use Rattle.numbers.proofs.NameLaws.{listed_from}
use Rattle.numbers.proofs.Pigeonhole.{find_number, changed, changed_here, changed_other}
use Rattle.numbers.proofs.RowLaws.{within_true}
use Rattle.plan.specs.declared.event.Event.{Event}
use Rattle.cells.specs.Marks.{lawful, mark_at}
use Rattle.cells.specs.declared.mark.Mark.TheVariants.{Empty, Owner}
use Rattle.rules.specs.Lawful.{replaced, replaced_agent}
use Rattle.rules.specs.Records.{loaded_agent}
use Rattle.model.specs.Meanings.{Meaning}
use Rattle.model.specs.Rigs.{Seat, World, run}
use Rattle.runs.proofs.Lawfulness.{Steady, Blind}
use Rattle.runs.proofs.Views.{agent_in, agent_at, named_some}
use Rattle.runs.proofs.Keeping.{Fresh}
use Rattle.renumbering.proofs.Twins.{twin_store, twin_seat, twin}
use Rattle.renumbering.proofs.TwinStores.{mark_twin}
use Rattle.renumbering.proofs.TwinCalls.{run_same, run_twin}
use Rattle.renumbering.proofs.Replacing.{exchange, exchange_first, exchange_other, exchange_permutes, same_numbering, missing_number}

-- a list is another through a function, if it is at each name
map_from : {A B : Type 0} (f : A → B) (xs : List A) (ys : List B) → length ys ≡ length xs → ((i : ℕ) (x : A) (y : B) → slice_get xs i ≡ Some x → slice_get ys i ≡ Some y → y ≡ f x) → ys ≡ map f xs
map_from f [] [] long same = refl
map_from f [] (y ∷ ys) long same = absurd (omega arith)
map_from f (x ∷ xs) [] long same = absurd (omega arith)
map_from f (x ∷ xs) (y ∷ ys) long same =
    let here = same 0 x y refl refl in
    let rest = map_from f xs ys (omega arith) (λ i. same (suc i)) in
    λ q. here q ∷ rest q

pub map_from_names : {A B : Type 0} (f : A → B) (xs : List A) (ys : List B) → length ys ≡ length xs → ((k : ℕ) (x : A) (y : B) → named xs k ≡ Some x → named ys k ≡ Some y → y ≡ f x) → ys ≡ map f xs
unfolding named
map_from_names f xs ys long same = map_from f xs ys long (λ i. same (suc i))

map_nothing : (π : ℕ → ℕ) (n : ℕ) → map (replaced π) (replicate n Empty) ≡ replicate n Empty
map_nothing π zero = refl
map_nothing π (suc n) = ap (λ r. Empty ∷ r) (map_nothing π n)

-- a loaded agent with its identity replaced is a loaded agent
pub loaded_replaced : {P : Type 0} (π : ℕ → ℕ) (p : P) (i j : ℕ) → π i ≡ j → loaded_agent p j ≡ replaced_agent π (loaded_agent p i)
loaded_replaced π p i j e =
    let seen = map_nothing π 64 in
    λ q. record {
      section = (loaded_agent p i).section;
      identity = sym e q;
      phase = p;
      name = 1;
      rung = 0;
      seen = sym seen q;
      flags = (loaded_agent p i).flags;
    }

module _ {P : Type 0} (R : Meaning P) (S : Steady R) where
  -- the agent at a seat of a fresh world
  fresh_agent : (w : World P) → Fresh R S w → (k : ℕ) (s : Seat P) → named w.rig.seats k ≡ Some s → s.agent ≡ loaded_agent R.loaded s.agent.identity
  fresh_agent w fresh k s here = subst (λ o. agent_in R o ≡ loaded_agent R.loaded (agent_in R o).identity) here (fresh.loaded k)

  -- a fresh world with the same figures, its tables renumbered and its identities replaced, is the twin
  pub record Twinned (σ π : ℕ → ℕ) (w v : World P) : Type 0 where
    pub agents : length v.rig.seats ≡ length w.rig.seats
    pub cells : v.rig.cells ≡ w.rig.cells
    pub heard : v.rig.heard ≡ w.rig.heard
    pub crowd : v.rig.crowd ≡ w.rig.crowd
    pub standoff : v.rig.standoff ≡ w.rig.standoff
    pub identities : (k : ℕ) → 1 ≤ k → k ≤ length w.rig.seats → π (agent_at R w k).identity ≡ (agent_at R v k).identity
    pub tables : (k : ℕ) (s t : Seat P) → named w.rig.seats k ≡ Some s → named v.rig.seats k ≡ Some t → t.table ≡ map σ s.table
    pub steps : (k : ℕ) (s t : Seat P) → named w.rig.seats k ≡ Some s → named v.rig.seats k ≡ Some t → t.steps ≡ s.steps
    pub entries : (k : ℕ) (s t : Seat P) → named w.rig.seats k ≡ Some s → named v.rig.seats k ≡ Some t → t.entries ≡ s.entries
    pub refused : (k : ℕ) (s t : Seat P) → named w.rig.seats k ≡ Some s → named v.rig.seats k ≡ Some t → t.refused ≡ s.refused

  pub fresh_twin : (σ τ π : ℕ → ℕ) (w v : World P) → Fresh R S w → Fresh R S v → Twinned σ π w v → v ≡ twin σ τ π w
  fresh_twin σ τ π w v one two t =
      λ q. record {
        rig = record {
          cells = t.cells q;
          seats = seats q;
          heard = t.heard q;
          crowd = t.crowd q;
          standoff = t.standoff q;
        };
        store = store q;
      }
    where
      seat : (k : ℕ) (a b : Seat P) → named w.rig.seats k ≡ Some a → named v.rig.seats k ≡ Some b → b ≡ twin_seat σ π a
      seat k a b e f =
          let r = named_some w.rig.seats k a e in
          let same : π a.agent.identity ≡ b.agent.identity = sym (ap (λ o. π (agent_in R o).identity) e) ∙ t.identities k r.0 r.1 ∙ ap (λ o. (agent_in R o).identity) f in
          let agent : b.agent ≡ replaced_agent π a.agent =
          fresh_agent v two k b f ∙ loaded_replaced π R.loaded a.agent.identity b.agent.identity same ∙ ap (replaced_agent π) (sym (fresh_agent w one k a e)) in
          let table = t.tables k a b e f in
          let steps = t.steps k a b e f in
          let entries = t.entries k a b e f in
          let refused = t.refused k a b e f in
          λ q. record { table = table q; agent = agent q; steps = steps q; entries = entries q; refused = refused q }

      seats : v.rig.seats ≡ map (twin_seat σ π) w.rig.seats
      seats = map_from_names (twin_seat σ π) w.rig.seats v.rig.seats t.agents seat

      store : v.store ≡ twin_store τ π w.rig.cells w.store
      store =
          listed_from (λ z. replaced π (mark_at w.store (τ z))) w.rig.cells Empty v.store (two.sound.room ∙ t.cells)
          (λ k a b. two.empty k ∙ ap (replaced π) (sym (one.empty (τ k))))

  -- an identity that no agent has never stands in a cell
  pub owner_known : Blind R S → (w : World P) → Fresh R S w → (es : List Event) (y i : ℕ) → 1 ≤ y → y ≤ w.rig.cells → mark_at (run R w es).store y ≡ Owner i → (k : ℕ) × (1 ≤ k) × (k ≤ length w.rig.seats) × ((agent_at R w k).identity ≡ i)
  owner_known B w fresh es y i low high owned =
      ⊎_elim
      (λ found. found)
      (λ none.
      let n = length w.rig.seats in
      let m = w.rig.cells in
      let ids : ℕ → ℕ = λ k. (agent_at R w k).identity in
      let row = changed ids (suc n) i in
      let free = missing_number row (suc n) in
      let j = free.0 in
      let few = fresh.sound.sized.agents_high in
      let after = run_same R S es w fresh.sound in
      let good : lawful (Owner i) ≡ true = subst (λ k. lawful k ≡ true) owned (after.sound.lawful_marks y) in
      let π = exchange i j in
      let perm = exchange_permutes i j (within_true 1 65535 i good) (free.1, omega (arith, free.2, few)) in
      let apart : i ≡ j → ⊥ = λ e. free.3 (suc n) (omega arith) (omega arith) (changed_here ids (suc n) i (suc n) refl ∙ e) in
      let kept : (k : ℕ) → 1 ≤ k → k ≤ n → π (ids k) ≡ ids k =
      λ k a b. exchange_other i j (ids k) (none k a b) (λ e. free.3 k a (omega arith) (changed_other ids (suc n) i k (λ z. omega arith) ∙ e)) in
      let itself : Twinned (λ z. z) π w w =
      record {
        agents = refl;
        cells = refl;
        heard = refl;
        crowd = refl;
        standoff = refl;
        identities = kept;
        tables = λ k s t e f. let same : s ≡ t = cc (e, f) in ap (λ u. u.table) (sym same) ∙ sym (map-id s.table);
        steps = λ k s t e f. let same : s ≡ t = cc (e, f) in ap (λ u. u.steps) (sym same);
        entries = λ k s t e f. let same : s ≡ t = cc (e, f) in ap (λ u. u.entries) (sym same);
        refused = λ k s t e f. let same : s ≡ t = cc (e, f) in ap (λ u. u.refused) (sym same);
      }
      in
      let w_twin : w ≡ twin (λ z. z) (λ z. z) π w = fresh_twin (λ z. z) (λ z. z) π w w fresh fresh itself in
      let v = run R w es in
      let v_twin : v ≡ twin (λ z. z) (λ z. z) π v = ap (λ u. run R u es) w_twin ∙ run_twin R S B (λ z. z) (λ z. z) π perm es w fresh.sound (same_numbering m) in
      let cells = after.cells in
      let mark : mark_at v.store y ≡ replaced π (mark_at v.store y) =
      ap (λ u. mark_at u.store y) v_twin ∙ mark_twin (λ z. z) (λ z. z) π perm v.rig.cells (same_numbering v.rig.cells) v.store after.sound.room y low (omega arith) in
      let both : Owner i ≡ Owner j = sym owned ∙ mark ∙ ap (replaced π) owned ∙ ap Owner (exchange_first i j i refl) in
      let same : i ≡ j = cc both in
      absurd (apart same))
      (find_number (λ k. (agent_at R w k).identity) (length w.rig.seats) i)
