-- One agent by its record and the marks it meets, with nobody else moving. Assumes nothing.
use Rattle.std.proofs.Common.{◌≡◌, ℕ, zero, suc, ◌+◌, ◌-◌, ◌*◌, ◌<◌, ◌≤◌, cond, List, sym, refl, subst, mul-zero, mul-suc, add-one, arith}
use Rattle.cells.specs.Marks.{same_mark, mark_at, put}
use Rattle.cells.specs.declared.mark.Mark.{Mark}
use Rattle.rules.specs.Records.{Reply, marks, cell, done, went}
use Rattle.rules.specs.Lawful.{Proper}
use Rattle.rules.specs.declared.agent.Agent.{Agent}
use Rattle.rules.specs.declared.agent.Section.TheVariants.{Asking}
use Rattle.rules.specs.declared.want.Want.{Want}
use Rattle.rules.specs.declared.want.Want.TheVariants.{Look, Read, Write, Swap}
use Rattle.model.specs.Meanings.{Meaning}

-- the record, and the marks in the order of the agent's own names
pub record Scene (P : Type 0) : Type 0 where
  pub agent : Agent P
  pub met : List Mark

-- what the marks answer to a want, and what they are afterwards
abbrev pub answered : List Mark → Want → Reply
answered ms Look = marks ms
answered ms (Read x) = cell (mark_at ms x)
answered ms (Write x c) = done
answered ms (Swap x old new) = went (same_mark (mark_at ms x) old)

abbrev pub changed : List Mark → Want → List Mark
changed ms Look = ms
changed ms (Read x) = ms
changed ms (Write x c) = put ms x c
changed ms (Swap x old new) = cond (same_mark (mark_at ms x) old) (put ms x new) ms

module _ {P : Type 0} (R : Meaning P) (n m : ℕ) where
  abbrev pub turn : Scene P → Scene P
  turn s = record {
    agent = R.becomes n m s.agent (answered s.met (R.wants n m s.agent));
    met = changed s.met (R.wants n m s.agent);
  }

  abbrev pub turns : ℕ → Scene P → Scene P
  turns zero s = s
  turns (suc t) s = turns t (turn s)

  -- it asks, and wants something that it may want
  pub record Ready (s : Scene P) : Type 0 where
    pub asks : s.agent.section ≡ Asking
    pub proper : Proper m (R.wants n m s.agent)

  -- t turns lead from s to e, all of them by an agent that is ready
  pub record Leads (t : ℕ) (s e : Scene P) : Type 0 where
    pub ends : turns t s ≡ e
    pub ready : (u : ℕ) → u < t → Ready (turns u s)

  pub leads_none : (s : Scene P) → Leads 0 s s
  leads_none s = record { ends = refl; ready = λ u less. absurd (omega arith) }

  leads_more : (t : ℕ) (s e : Scene P) → Ready s → Leads t (turn s) e → Leads (suc t) s e
  leads_more t s e now later = record { ends = later.ends; ready = go }
    where
      go : (u : ℕ) → u < suc t → Ready (turns u s)
      go zero less = now
      go (suc u) less = later.ready u (omega arith)

  pub leads_one : (s e : Scene P) → Ready s → turn s ≡ e → Leads 1 s e
  leads_one s e now is = leads_more 0 s e now (subst (Leads 0 (turn s)) is (leads_none (turn s)))

  pub leads_then : (t u : ℕ) (s d e : Scene P) → Leads t s d → Leads u d e → Leads (t + u) s e
  leads_then zero u s d e f g =
      let same : u ≡ 0 + u = omega arith in
      subst (λ x. Leads x s e) same (subst (λ x. Leads u x e) (sym f.ends) g)
  leads_then (suc t) u s d e f g =
      let later : Leads t (turn s) d = record { ends = f.ends; ready = λ v less. f.ready (suc v) (omega arith) } in
      let same : suc (t + u) ≡ suc t + u = omega arith in
      subst (λ x. Leads x s e) same (leads_more (t + u) s e (f.ready 0 (omega arith)) (leads_then t u (turn s) d e later g))

  -- b times c turns
  pub leads_each : (c b : ℕ) (stage : ℕ → Scene P) → ((j : ℕ) → j < b → Leads c (stage j) (stage (j + 1))) → Leads (c * b) (stage 0) (stage b)
  leads_each c zero stage each = subst (λ x. Leads x (stage 0) (stage 0)) (sym (mul-zero c)) (leads_none (stage 0))
  leads_each c (suc b) stage each =
      let before = leads_each c b stage (λ j less. each j (omega arith)) in
      let here : Leads c (stage b) (stage (suc b)) = subst (λ j. Leads c (stage b) (stage j)) (add-one b) (each b (omega arith)) in
      subst (λ x. Leads x (stage 0) (stage (suc b))) (sym (mul-suc c b)) (leads_then (c * b) c (stage 0) (stage b) (stage (suc b)) before here)

  -- a turn for each of m names, and the last one elsewhere
  pub leads_through : (stage : ℕ → Scene P) (e : Scene P) → 1 ≤ m → ((j : ℕ) → j + 1 < m → Leads 1 (stage j) (stage (j + 1))) → ((j : ℕ) → j + 1 ≡ m → Leads 1 (stage j) e) → Leads m (stage 0) e
  leads_through stage e some each last =
      let end : m - 1 + 1 ≡ m = omega arith in
      let total : 1 * (m - 1) + 1 ≡ m = omega arith in
      subst (λ t. Leads t (stage 0) e) total
      (leads_then (1 * (m - 1)) 1 (stage 0) (stage (m - 1)) e (leads_each 1 (m - 1) stage (λ j less. each j (omega arith))) (last (m - 1) end))
