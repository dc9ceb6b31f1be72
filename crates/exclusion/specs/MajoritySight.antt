-- Under the rule of majorities, what an agent sees as its own is its own, whatever is called. Assumes nothing.
use Rattle.std.specs.Prelude.{◌≡◌, ℕ, ◌-◌, ◌≤◌, Bool, true, false, List, length, ◌≢◌, refl}
use Rattle.std.proofs.Common.{sym, ap, subst, ◌∙◌, ⊎_elim, arith}
use Rattle.std.proofs.lemmas.List.{get_or-set_same, get_or-set_other, get_or-replicate}
use Rattle.std.proofs.lemmas.Bool.{cases_eq}
use Rattle.numbers.proofs.Pigeonhole.{apart_both}
use Rattle.cells.specs.Marks.{mark_at, put}
use Rattle.cells.specs.declared.mark.Mark.{Mark}
use Rattle.cells.specs.declared.mark.Mark.TheVariants.{Empty, Owner}
use Rattle.rules.specs.Records.{cell, done, went, own}
use Rattle.rules.specs.Lawful.{Name}
use Rattle.rules.specs.declared.want.Want.TheVariants.{Look, Read, Write, Swap}
use Rattle.rule_majority.specs.declared.phase.MajorityPhase.{MajorityPhase}
use Rattle.rule_majority.specs.declared.phase.MajorityPhase.TheVariants.{Take, Scan, Give, Wait}
use Rattle.rule_majority.specs.Majority.{Record, noted, want_in, step_in, majority_asked, majority_left, majority_becomes, Reachable}
use Rattle.model.specs.Meanings.{by_majority}
use Rattle.model.specs.Rigs.{World}
use Rattle.runs.proofs.Views.{agent_at, table_at, met_at}
use Rattle.runs.proofs.Effects.{Kept, Change, stays, asks, leaves, looks, reads, writes, swaps, misses}
use Rattle.runs.proofs.Keeping.{Sound}
use Rattle.exclusion.specs.MajoritySteady.{steady, Alike, swap_alike, scan_alike, give_alike, wait_alike}

-- what a want tells of the phase

never_looks : (a : Record) (p : MajorityPhase) → want_in p a ≢ Look
never_looks a Take e = let z : ◌≡◌ {A = ℕ} 0 1 = cc in omega arith
never_looks a Scan e = let z : ◌≡◌ {A = ℕ} 0 1 = cc in omega arith
never_looks a Give e = let z : ◌≡◌ {A = ℕ} 0 1 = cc in omega arith
never_looks a Wait e = let z : ◌≡◌ {A = ℕ} 0 1 = cc in omega arith

-- a read notes the mark at the name that it reads
read_notes : (m : ℕ) (a : Record) (x : ℕ) (c : Mark) (p : MajorityPhase) → want_in p a ≡ Read x → (a.name ≡ x) × Alike (step_in p m a (cell c)) (noted a c)
read_notes m a x c Take e = let z : ◌≡◌ {A = ℕ} 0 1 = cc in absurd (omega arith)
read_notes m a x c Scan e = (cc, scan_alike m a c)
read_notes m a x c Give e = let z : ◌≡◌ {A = ℕ} 0 1 = cc in absurd (omega arith)
read_notes m a x c Wait e = (cc, wait_alike m a c)

-- a write gives back what is at the name, and notes it
write_notes : (m : ℕ) (a : Record) (x : ℕ) (c : Mark) (p : MajorityPhase) → want_in p a ≡ Write x c → (a.name ≡ x) × (p ≡ Give) × Alike (step_in p m a done) (noted a Empty)
write_notes m a x c Take e = let z : ◌≡◌ {A = ℕ} 0 1 = cc in absurd (omega arith)
write_notes m a x c Scan e = let z : ◌≡◌ {A = ℕ} 0 1 = cc in absurd (omega arith)
write_notes m a x c Give e = (cc, refl, give_alike m a)
write_notes m a x c Wait e = let z : ◌≡◌ {A = ℕ} 0 1 = cc in absurd (omega arith)

-- a swap expects an empty cell, and notes nothing
swap_notes : (m : ℕ) (a : Record) (x : ℕ) (old new : Mark) (b : Bool) (p : MajorityPhase) → want_in p a ≡ Swap x old new → (old ≡ Empty) × Alike (step_in p m a (went b)) a
swap_notes m a x old new b Take e = (cc, swap_alike m a b)
swap_notes m a x old new b Scan e = let z : ◌≡◌ {A = ℕ} 0 1 = cc in absurd (omega arith)
swap_notes m a x old new b Give e = let z : ◌≡◌ {A = ℕ} 0 1 = cc in absurd (omega arith)
swap_notes m a x old new b Wait e = let z : ◌≡◌ {A = ℕ} 0 1 = cc in absurd (omega arith)

-- marks put at a name

put_here : (ms : List Mark) (y : ℕ) (c : Mark) → 1 ≤ y → y ≤ length ms → mark_at (put ms y c) y ≡ c
put_here ms y c a b = get_or-set_same ms (y - 1) c Empty (omega arith)

put_other : (ms : List Mark) (y : ℕ) (c : Mark) (z : ℕ) → 1 ≤ y → 1 ≤ z → (z ≢ y) → mark_at (put ms y c) z ≡ mark_at ms z
put_other ms y c z a b apart = get_or-set_other ms (y - 1) (z - 1) c Empty (λ e. apart (omega arith))

pub empty_owner : (i : ℕ) → Empty ≢ Owner i
empty_owner i e = let z : ◌≡◌ {A = ℕ} 0 1 = cc in omega arith

-- what agent j sees at name x, and its own mark
abbrev pub saw : World MajorityPhase → ℕ → ℕ → Mark
saw w j x = mark_at (agent_at by_majority w j).seen x

abbrev pub own_of : World MajorityPhase → ℕ → Mark
own_of w j = own (agent_at by_majority w j)

-- what an agent sees as its own is its own
abbrev pub SeesTruly : World MajorityPhase → Type 0
SeesTruly w = (j x : ℕ) → 1 ≤ j → j ≤ length w.rig.seats → Name w.rig.cells x → saw w j x ≡ own_of w j → met_at w j x ≡ own_of w j

module _ (k : ℕ) (w v : World MajorityPhase) (sound : Sound by_majority steady w) (low : 1 ≤ k) (high : k ≤ length w.rig.seats) (kept : Kept by_majority k w v) (true_before : SeesTruly w) where
  abbrev n : ℕ
  n = length w.rig.seats

  abbrev m : ℕ
  m = w.rig.cells

  abbrev was : Record
  was = agent_at by_majority w k

  abbrev is : Record
  is = agent_at by_majority v k

  -- cells

  met_same : v.store ≡ w.store → (j x : ℕ) → met_at v j x ≡ met_at w j x
  met_same e j x = ap (λ ms. mark_at ms (table_at v j x)) e ∙ ap (mark_at w.store) (kept.tables j x)

  met_other : (x : ℕ) (c : Mark) → Name m x → v.store ≡ put w.store (table_at w k x) c → (j y : ℕ) → 1 ≤ j → j ≤ n → Name m y → (table_at w j y ≢ table_at w k x) → met_at v j y ≡ met_at w j y
  met_other x c name e j y a b here apart =
      ap (λ ms. mark_at ms (table_at v j y)) e
      ∙ ap (mark_at (put w.store (table_at w k x) c)) (kept.tables j y)
      ∙ put_other w.store (table_at w k x) c (table_at w j y) ((sound.tables k low high).inside x name.0 name.1).0 ((sound.tables j a b).inside y here.0 here.1).0 apart

  -- what was own stays own: all of it, or that of the others
  abbrev OwnStays : Type 0
  OwnStays = (j y : ℕ) → 1 ≤ j → j ≤ n → Name m y → met_at w j y ≡ own_of w j → met_at v j y ≡ own_of w j

  abbrev OthersStay : Type 0
  OthersStay = (j y : ℕ) → 1 ≤ j → j ≤ n → Name m y → (j ≢ k) → met_at w j y ≡ own_of w j → met_at v j y ≡ own_of w j

  unwritten : v.store ≡ w.store → OwnStays
  unwritten e j y a b name is_own = met_same e j y ∙ is_own

  taken : (x : ℕ) (c : Mark) → Name m x → met_at w k x ≡ Empty → v.store ≡ put w.store (table_at w k x) c → OwnStays
  taken x c name free e j y a b here is_own =
      met_other x c name e j y a b here (λ same. empty_owner (agent_at by_majority w j).identity (sym free ∙ ap (mark_at w.store) (sym same) ∙ is_own))
      ∙ is_own

  given_others : (x : ℕ) (c : Mark) → Name m x → met_at w k x ≡ own_of w k → v.store ≡ put w.store (table_at w k x) c → OthersStay
  given_others x c name mine e j y a b here other is_own =
      met_other x c name e j y a b here
      (λ same.
      let marks_same : own_of w j ≡ own_of w k = sym is_own ∙ ap (mark_at w.store) same ∙ mine in
      let i_same : (agent_at by_majority w j).identity ≡ (agent_at by_majority w k).identity = cc marks_same in
      other (apart_both (λ l. (agent_at by_majority w l).identity) 65535 n j k sound.identities a b low high i_same))
      ∙ is_own

  given_own : (x : ℕ) (c : Mark) → Name m x → v.store ≡ put w.store (table_at w k x) c → (y : ℕ) → Name m y → (y ≢ x) → met_at v k y ≡ met_at w k y
  given_own x c name e y here apart =
      met_other x c name e k y low high here (λ same. apart (apart_both (table_at w k) m m y x (sound.tables k low high) here.0 here.1 name.0 name.1 same))

  -- the agent that moved
  abbrev MoverTrue : Type 0
  MoverTrue = (y : ℕ) → Name m y → mark_at is.seen y ≡ own is → met_at v k y ≡ own is

  both_true : OthersStay → MoverTrue → SeesTruly v
  both_true others mover j y a b name sees =
      let few : j ≤ n = subst (λ l. j ≤ l) kept.agents b in
      let here : Name m y = (name.0, subst (λ l. y ≤ l) kept.cells name.1) in
      ⊎_elim
      (λ same. subst (λ l. saw v l y ≡ own_of v l → met_at v l y ≡ own_of v l) (sym same) (mover y here) sees)
      (λ other.
      let rest = kept.others j other in
      others j y a few here other (true_before j y a few here (subst (λ a. mark_at a.seen y ≡ own a) rest sees)) ∙ ap own (sym rest))
      (cases_eq j k)

  others_from : OwnStays → OthersStay
  others_from stay j y a b here other is_own = stay j y a b here is_own

  -- the same marks seen
  unseen : Alike is was → OwnStays → MoverTrue
  unseen alike stay y here sees =
      let owns : own is ≡ own was = ap Owner alike.0 in
      let saw_own : mark_at was.seen y ≡ own was = ap (λ s. mark_at s y) (sym alike.1) ∙ sees ∙ owns in
      stay k y low high here (true_before k y low high here saw_own) ∙ sym owns

  reached : Reachable m was
  reached = sound.reached k low high

  name_fits : was.name ≤ length was.seen
  name_fits =
      let h = reached in
      let long = h.room in
      let top = h.named.1 in
      let most = sound.sized.cells_high in
      omega arith

  -- a mark noted, which is what stands there
  seen_now : (c : Mark) → Alike is (noted was c) → met_at w k was.name ≡ c → v.store ≡ w.store → MoverTrue
  seen_now c alike met e y here sees =
      let owns : own is ≡ own was = ap Owner alike.0 in
      let saw_own : mark_at (put was.seen was.name c) y ≡ own was = ap (λ s. mark_at s y) (sym alike.1) ∙ sees ∙ owns in
      ⊎_elim
      (λ same.
      let noted_own : c ≡ own was = sym (put_here was.seen was.name c reached.named.0 name_fits) ∙ ap (mark_at (put was.seen was.name c)) (sym same) ∙ saw_own in
      met_same e k y ∙ ap (met_at w k) same ∙ met ∙ noted_own ∙ sym owns)
      (λ other.
      met_same e k y ∙ true_before k y low high here (sym (put_other was.seen was.name c y reached.named.0 here.0 other) ∙ saw_own) ∙ sym owns)
      (cases_eq y was.name)

  -- a cell given back
  seen_given : (c : Mark) → Alike is (noted was Empty) → v.store ≡ put w.store (table_at w k was.name) c → MoverTrue
  seen_given c alike e y here sees =
      let owns : own is ≡ own was = ap Owner alike.0 in
      let saw_own : mark_at (put was.seen was.name Empty) y ≡ own was = ap (λ s. mark_at s y) (sym alike.1) ∙ sees ∙ owns in
      ⊎_elim
      (λ same. absurd (empty_owner was.identity (sym (put_here was.seen was.name Empty reached.named.0 name_fits) ∙ ap (mark_at (put was.seen was.name Empty)) (sym same) ∙ saw_own)))
      (λ other.
      given_own was.name c reached.named e y here other
      ∙ true_before k y low high here (sym (put_other was.seen was.name Empty y reached.named.0 here.0 other) ∙ saw_own)
      ∙ sym owns)
      (cases_eq y was.name)

  -- a request: nothing is seen
  seen_nothing : is ≡ majority_asked n m was → MoverTrue
  seen_nothing e y here sees =
      let most = sound.sized.cells_high in
      let top = here.1 in
      let first = here.0 in
      absurd (empty_owner is.identity (sym (get_or-replicate 64 (y - 1) Empty Empty (omega arith)) ∙ ap (λ a. mark_at a.seen y) (sym e) ∙ sees))

  alike_from : (a b : Record) → is ≡ a → Alike a b → Alike is b
  alike_from a b e alike = subst (λ c. Alike c b) (sym e) alike

  -- a call keeps it so
  pub change_true : Change by_majority k w v → SeesTruly v
  change_true (stays e s) = both_true (others_from (unwritten s)) (unseen (alike_from was was e (refl, refl)) (unwritten s))
  change_true (asks idles e s) = both_true (others_from (unwritten s)) (seen_nothing e)
  change_true (leaves holds e s) = both_true (others_from (unwritten s)) (unseen (alike_from (majority_left n m was) was e (refl, refl)) (unwritten s))
  change_true (looks moves want e s) = absurd (never_looks was was.phase want)
  change_true (reads x moves name want e s) =
      let c = met_at w k x in
      let told = read_notes m was x c was.phase want in
      both_true (others_from (unwritten s)) (seen_now c (alike_from (majority_becomes n m was (cell c)) (noted was c) e told.1) (ap (met_at w k) told.0) s)
  change_true (writes x c moves name good want e s) =
      let told = write_notes m was x c was.phase want in
      let put_there = s ∙ ap (λ z. put w.store (table_at w k z) c) (sym told.0) in
      let mine = true_before k was.name low high reached.named (reached.giving told.1) in
      both_true (given_others was.name c reached.named mine put_there) (seen_given c (alike_from (majority_becomes n m was done) (noted was Empty) e told.2) put_there)
  change_true (swaps x old new moves name good want met e s) =
      let told = swap_notes m was x old new true was.phase want in
      let stay = taken x new name (met ∙ told.0) s in
      both_true (others_from stay) (unseen (alike_from (majority_becomes n m was (went true)) was e told.1) stay)
  change_true (misses x old new moves name want unmet e s) =
      let told = swap_notes m was x old new false was.phase want in
      both_true (others_from (unwritten s)) (unseen (alike_from (majority_becomes n m was (went false)) was e told.1) (unwritten s))
