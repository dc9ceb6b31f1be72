-- What one call under rule 1 does to an agent that calls, by what matters for who holds. Assumes nothing.
use Rattle.std.specs.Prelude.{◌≡◌, ℕ, zero, suc, ◌+◌, ◌*◌, ◌≤◌, Bool, true, cond, not, ◌&&◌, ◌⊎◌, List, length, Some, None, Option, ◌==◌, ◌≢◌, nat_lt, refl}
use Rattle.std.proofs.Common.{sym, ap, subst, ◌∙◌, inl, inr, ⊎_elim, arith}
use Rattle.std.proofs.lemmas.Bool.{cond_both, cond-true, cond-false, cases_Bool, cases_eq, eqb-true}
use Rattle.numbers.specs.Names.{listed}
use Rattle.numbers.proofs.FirstLaws.{first_tells_some}
use Rattle.numbers.proofs.NameLaws.{length_listed, getD_listed}
use Rattle.cells.specs.Marks.{same_mark, mark_at, put}
use Rattle.cells.specs.declared.mark.Mark.{Mark}
use Rattle.cells.specs.declared.mark.Mark.TheVariants.{Empty}
use Rattle.tally.specs.Counts.{count_names, has, times, lowest, identities}
use Rattle.tally.proofs.CountLaws.{count_at_most}
use Rattle.rules.specs.Lawful.{Holds, Moves, Name}
use Rattle.rules.specs.Records.{marks, cell, done, own, going, having_seen, overlaid}
use Rattle.rules.specs.declared.agent.Section.{Section}
use Rattle.rules.specs.declared.agent.Section.TheVariants.{Idle, Asking, Holding, Leaving}
use Rattle.rules.specs.declared.want.Want.TheVariants.{Look as WantLook, Read as WantRead, Write as WantWrite, Swap as WantSwap}
use Rattle.rule_read_write.specs.declared.judging.Verdict.{Verdict}
use Rattle.rule_read_write.specs.declared.judging.Verdict.TheVariants.{Hold, Again, Put as PutAt, Withdraw}
use Rattle.rule_read_write.specs.declared.phase.ReadWritePhase.{ReadWritePhase}
use Rattle.rule_read_write.specs.declared.phase.ReadWritePhase.TheVariants.{Look, Put, Read, Clear}
use Rattle.rule_read_write.specs.Judging.{otherwise, verdict}
use Rattle.rule_read_write.specs.ReadWrite.{Record, want_in, led, looked, ended, onward, next_in}
use Rattle.model.specs.Meanings.{read_and_write}
use Rattle.model.specs.Rigs.{World}
use Rattle.runs.proofs.Views.{agent_at, table_at}
use Rattle.runs.proofs.Effects.{Change, stays, asks, leaves, looks, reads, writes, swaps, misses, same_equal}

-- two sections, phases, wants or marks that differ
pub never : {A : Type 0} → ◌≡◌ {A = ℕ} 0 1 → A
never z = absurd (omega arith)

-- about to write
abbrev pub Poised : Record → Type 0
Poised a = (a.phase ≡ Put) ⊎ (a.phase ≡ Clear)

-- what a call of an agent with this table made of its record a and of the marks ms
pub data Move (m : ℕ) (table : ℕ → ℕ) (a b : Record) (ms ns : List Mark) : Type 0 where
  -- nothing
  same : b ≡ a → ns ≡ ms → Move m table a b ms ns
  -- it neither holds nor is about to write
  calms : (Holds b → ⊥) → (Poised b → ⊥) → ns ≡ ms → Move m table a b ms ns
  -- it comes to hold, with all marks its own
  enters : ((x : ℕ) → Name m x → mark_at ms (table x) ≡ own a) → (Poised b → ⊥) → b.identity ≡ a.identity → ns ≡ ms → Move m table a b ms ns
  -- it comes to be about to write, at a cell that is empty or its own
  aims : (Holds b → ⊥) → Name m b.name → (mark_at ms (table b.name) ≡ Empty) ⊎ (mark_at ms (table b.name) ≡ own a) → ns ≡ ms → Move m table a b ms ns
  -- it writes where it was about to
  strikes : (c : Mark) → Poised a → Name m a.name → (Holds b → ⊥) → (Poised b → ⊥) → ns ≡ put ms (table a.name) c → Move m table a b ms ns

-- where all are counted, each passes
count_full : (test : ℕ → Bool) (n : ℕ) → count_names test n ≡ n → (y : ℕ) → 1 ≤ y → y ≤ n → test y ≡ true
unfolding count_names
count_full test zero e y a b = absurd (omega arith)
count_full test (suc n) e y a b =
    let most = count_at_most test n in
    ⊎_elim
    (λ yes'.
    let one : ◌≡◌ {A = ℕ} (cond (test (suc n)) 1 0) 1 = cond-true (test (suc n)) 1 0 yes' in
    ⊎_elim (λ here. ap test here ∙ yes') (λ other. count_full test n (omega arith) y a (omega arith)) (cases_eq y (suc n)))
    (λ no'. let none : ◌≡◌ {A = ℕ} (cond (test (suc n)) 1 0) 0 = cond-false (test (suc n)) 1 0 no' in absurd (omega arith))
    (cases_Bool (test (suc n)))

-- what a look may lead to
verdict_cases : (P : Verdict → Type 0) (k e : ℕ) (o : Option ℕ) (d m : ℕ) → (k ≡ m → P Hold) → P Again → ((x : ℕ) → o ≡ Some x → P (PutAt x)) → P Withdraw → P (verdict k e o d m)
verdict_cases P k e o d m hold again puts withdraw =
    cond_both (k == m) Hold _ P (λ all. hold (eqb-true k m all)) (λ _. cond_both (k == 0 && not (e == m)) Again (otherwise k o d m) P (λ _. again) (λ _. rest o refl))
  where
    rest : (q : Option ℕ) → o ≡ q → P (otherwise k q d m)
    rest (Some x) is = puts x is
    rest None is = cond_both (nat_lt (k * d) m) Withdraw Again P (λ _. withdraw) (λ _. again)

-- phases in which an agent is not about to write
look_calm : (p : ReadWritePhase) → p ≡ Look → (p ≡ Put) ⊎ (p ≡ Clear) → ⊥
look_calm p is poised = ⊎_elim (λ e. never (cc (is, e))) (λ e. never (cc (is, e))) poised

read_calm : (p : ReadWritePhase) → p ≡ Read → (p ≡ Put) ⊎ (p ≡ Clear) → ⊥
read_calm p is poised = ⊎_elim (λ e. never (cc (is, e))) (λ e. never (cc (is, e))) poised

module _ (m : ℕ) (table : ℕ → ℕ) (a : Record) (ms : List Mark) where
  abbrev met : ℕ → Mark
  met x = mark_at ms (table x)

  -- a mark of the look
  seen_mark : (x : ℕ) (k : Mark) → Name m x → has (listed met m) k x ≡ true → met x ≡ k
  seen_mark x k name e = sym (getD_listed met m x Empty name.0 name.1) ∙ same_equal (mark_at (listed met m) x) k e

  module _ (moves : Moves a) (ns : List Mark) where
    not_holding : Holds a → ⊥
    not_holding h = ⊎_elim (λ e. never (cc (e, h))) (λ e. never (cc (e, h))) moves

    look_move : ns ≡ ms → Move m table a (looked m a (listed met m)) ms ns
    look_move still =
        let row = listed met m in
        let long = length_listed met m in
        let b = having_seen a (overlaid row a.seen) in
        verdict_cases (λ v. Move m table a (led v b) ms ns) (times row (own a)) (times row Empty) (lowest row Empty) (identities row) m
        (λ all.
        enters
        (λ x name. seen_mark x (own a) name (count_full (has row (own a)) (length row) (all ∙ sym long) x name.0 (subst (λ l. x ≤ l) (sym long) name.1)))
        (look_calm Look refl) refl still)
        (calms not_holding (look_calm Look refl) still)
        (λ x found.
        let first = first_tells_some (has row Empty) 1 (length row) (1 + length row) x refl found in
        let name : Name m x = (first.from, omega (arith, first.below)) in
        aims not_holding name (inl (seen_mark x Empty name first.passes)) still)
        (calms not_holding (read_calm Read refl) still)

    -- behind a name: the next name, or the end
    ended_calm : (s : Section) → (s ≢ Holding) → (Holds (ended s a) → ⊥) × (Poised (ended s a) → ⊥)
    ended_calm Idle not = (not, look_calm Look refl)
    ended_calm Asking not = (not, look_calm Look refl)
    ended_calm Holding not = (not, look_calm Look refl)
    ended_calm Leaving not = ((λ e. never (cc (e))), look_calm Look refl)

    onward_calm : (Holds (onward m a) → ⊥) × (Poised (onward m a) → ⊥)
    onward_calm =
        cond_both (nat_lt a.name m) (going a a.section Read (a.name + 1)) (ended a.section a) (λ b. (Holds b → ⊥) × (Poised b → ⊥))
        (λ _. (not_holding, read_calm Read refl)) (λ _. ended_calm a.section not_holding)

    -- by the phase of the agent that stepped

    looks_in : (p : ReadWritePhase) → want_in p a ≡ WantLook → ns ≡ ms → Move m table a (next_in p m a (marks (listed met m))) ms ns
    looks_in Look e still = look_move still
    looks_in Put e still = never (cc (e))
    looks_in Read e still = never (cc (e))
    looks_in Clear e still = never (cc (e))

    reads_in : (p : ReadWritePhase) (x : ℕ) → Name m x → want_in p a ≡ WantRead x → ns ≡ ms → Move m table a (next_in p m a (cell (met x))) ms ns
    reads_in Look x name e still = never (cc (e))
    reads_in Put x name e still = never (cc (e))
    reads_in Read x name e still =
        let here : a.name ≡ x = cc (e) in
        cond_both (same_mark (met x) (own a)) (going a a.section Clear a.name) (onward m a) (λ b. Move m table a b ms ns)
        (λ mine. aims not_holding (subst (Name m) (sym here) name) (inr (ap met here ∙ same_equal (met x) (own a) mine)) still)
        (λ _. calms onward_calm.0 onward_calm.1 still)
    reads_in Clear x name e still = never (cc (e))

    writes_in : (p : ReadWritePhase) (x : ℕ) (c : Mark) → a.phase ≡ p → Name m x → want_in p a ≡ WantWrite x c → ns ≡ put ms (table x) c → Move m table a (next_in p m a done) ms ns
    writes_in Look x c is name e put' = never (cc (e))
    writes_in Put x c is name e put' =
        let here : a.name ≡ x = cc (e) in
        strikes c (inl is) (subst (Name m) (sym here) name) not_holding (look_calm Look refl) (put' ∙ ap (λ z. put ms (table z) c) (sym here))
    writes_in Read x c is name e put' = never (cc (e))
    writes_in Clear x c is name e put' =
        let here : a.name ≡ x = cc (e) in
        strikes c (inr is) (subst (Name m) (sym here) name) onward_calm.0 onward_calm.1 (put' ∙ ap (λ z. put ms (table z) c) (sym here))

    swaps_never : {A : Type 0} (p : ReadWritePhase) (x : ℕ) (old new : Mark) → want_in p a ≡ WantSwap x old new → A
    swaps_never Look x old new e = never (cc (e))
    swaps_never Put x old new e = never (cc (e))
    swaps_never Read x old new e = never (cc (e))
    swaps_never Clear x old new e = never (cc (e))

module _ (k : ℕ) (w v : World ReadWritePhase) where
  abbrev was : Record
  was = agent_at read_and_write w k

  -- the move, whatever the record became
  abbrev To : Record → Type 0
  To b = Move w.rig.cells (table_at w k) was b w.store v.store

  becomes : (b : Record) → agent_at read_and_write v k ≡ b → To b → To (agent_at read_and_write v k)
  becomes b is move = subst To (sym is) move

  pub change_move : Change read_and_write k w v → Move w.rig.cells (table_at w k) (agent_at read_and_write w k) (agent_at read_and_write v k) w.store v.store
  change_move (stays is still) = same is still
  change_move (asks idles is still) = becomes _ is (calms (λ e. never (cc (e))) (look_calm Look refl) still)
  change_move (leaves holds is still) = becomes _ is (calms (λ e. never (cc (e))) (read_calm Read refl) still)
  change_move (looks moves wants is still) = becomes _ is (looks_in w.rig.cells (table_at w k) was w.store moves v.store was.phase wants still)
  change_move (reads x moves name wants is still) = becomes _ is (reads_in w.rig.cells (table_at w k) was w.store moves v.store was.phase x name wants still)
  change_move (writes x c moves name good wants is put') = becomes _ is (writes_in w.rig.cells (table_at w k) was w.store moves v.store was.phase x c refl name wants put')
  change_move (swaps x old new moves name good wants met' is put') = swaps_never w.rig.cells (table_at w k) was w.store moves v.store was.phase x old new wants
  change_move (misses x old new moves name wants met' is still) = swaps_never w.rig.cells (table_at w k) was w.store moves v.store was.phase x old new wants
