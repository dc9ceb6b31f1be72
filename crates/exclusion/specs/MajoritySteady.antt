-- The rule of majorities is steady: reachable records lead to reachable ones, its wants are proper, and no move changes an identity.
-- Assumes nothing.
use Rattle.std.specs.Prelude.{◌≡◌, ℕ, ◌+◌, Bool, Some, None, Option, nat_lt, refl}
use Rattle.std.proofs.lemmas.Bool.{cond_both}
use Rattle.numbers.proofs.RowLaws.{within_from}
use Rattle.cells.specs.declared.mark.Mark.{Mark}
use Rattle.cells.specs.declared.mark.Mark.TheVariants.{Empty}
use Rattle.rules.specs.Records.{Reply, marks, cell, done, went}
use Rattle.rules.specs.Lawful.{Proper}
use Rattle.rules.specs.declared.agent.Section.{Section}
use Rattle.rules.specs.declared.agent.Section.TheVariants.{Idle, Asking, Holding, Leaving}
use Rattle.rule_majority.specs.declared.phase.MajorityPhase.{MajorityPhase}
use Rattle.rule_majority.specs.declared.phase.MajorityPhase.TheVariants.{Take, Scan, Give, Wait}
use Rattle.rule_majority.specs.declared.verdict.Verdict.{Verdict}
use Rattle.rule_majority.specs.declared.verdict.Verdict.TheVariants.{Withdraw, Hold, Again}
use Rattle.rule_majority.specs.Majority.{Record, own_name, own_seen, most_seen, all_empty, noted, to, nothing_left_in, give_at, by_verdict, decided, waited, want_in, step_in, Reachable, majority_reachable}
use Rattle.rule_majority.specs.Verdicts.{verdict}
use Rattle.rule_majority.specs.ReachLaws.{load_reachable, ask_reachable, leave_reachable, step_reachable}
use Rattle.model.specs.Meanings.{by_majority}
use Rattle.runs.proofs.Lawfulness.{Steady}

-- the same identity, and the same marks seen
abbrev pub Alike : Record → Record → Type 0
Alike b a = (b.identity ≡ a.identity) × (b.seen ≡ a.seen)

-- what the moves leave alike

left_alike : (s : Section) (a : Record) → Alike (nothing_left_in s a) a
left_alike Idle a = (refl, refl)
left_alike Asking a = (refl, refl)
left_alike Holding a = (refl, refl)
left_alike Leaving a = (refl, refl)

give_at_alike : (o : Option ℕ) (a : Record) → Alike (give_at o a) a
give_at_alike (Some x) a = (refl, refl)
give_at_alike None a = left_alike a.section a

verdict_alike : (v : Verdict) (m : ℕ) (a : Record) → Alike (by_verdict v m a) a
verdict_alike Withdraw m a = give_at_alike (own_name m a) a
verdict_alike Hold m a = (refl, refl)
verdict_alike Again m a = (refl, refl)

waited_alike : (m : ℕ) (a : Record) → Alike (waited m a) a
waited_alike m a = cond_both (all_empty m a) (to a Take 1) (to a Wait 1) (λ b. Alike b a) (λ _. (refl, refl)) (λ _. (refl, refl))

-- a swap leaves what was seen, a read notes the mark, a write notes that the cell is empty

pub swap_alike : (m : ℕ) (a : Record) (t : Bool) → Alike (step_in Take m a (went t)) a
swap_alike m a t = cond_both (nat_lt a.name m) (to a Take (a.name + 1)) (to a Scan 1) (λ b. Alike b a) (λ _. (refl, refl)) (λ _. (refl, refl))

pub scan_alike : (m : ℕ) (a : Record) (k : Mark) → Alike (step_in Scan m a (cell k)) (noted a k)
scan_alike m a k =
    let b = noted a k in
    cond_both (nat_lt a.name m) (to b Scan (a.name + 1)) (decided m b) (λ c. Alike c b)
    (λ _. (refl, refl))
    (λ _. verdict_alike (verdict (own_seen m b) (most_seen m b) m) m b)

pub give_alike : (m : ℕ) (a : Record) → Alike (step_in Give m a done) (noted a Empty)
give_alike m a = give_at_alike (own_name m (noted a Empty)) (noted a Empty)

pub wait_alike : (m : ℕ) (a : Record) (k : Mark) → Alike (step_in Wait m a (cell k)) (noted a k)
wait_alike m a k =
    let b = noted a k in
    cond_both (nat_lt a.name m) (to b Wait (a.name + 1)) (waited m b) (λ c. Alike c b) (λ _. (refl, refl)) (λ _. waited_alike m b)

-- the laws

pub same_identity : (m : ℕ) (a : Record) (p : MajorityPhase) (r : Reply) → (step_in p m a r).identity ≡ a.identity
same_identity m a Take (marks ms) = refl
same_identity m a Take (cell k) = refl
same_identity m a Take done = refl
same_identity m a Take (went b) = (swap_alike m a b).0
same_identity m a Scan (marks ms) = refl
same_identity m a Scan (cell k) = (scan_alike m a k).0
same_identity m a Scan done = refl
same_identity m a Scan (went b) = refl
same_identity m a Give (marks ms) = refl
same_identity m a Give (cell k) = refl
same_identity m a Give done = (give_alike m a).0
same_identity m a Give (went b) = refl
same_identity m a Wait (marks ms) = refl
same_identity m a Wait (cell k) = (wait_alike m a k).0
same_identity m a Wait done = refl
same_identity m a Wait (went b) = refl

pub want_proper : (m : ℕ) (a : Record) (p : MajorityPhase) → Reachable m a → Proper m (want_in p a)
want_proper m a Take h = (h.named, refl, within_from 1 65535 a.identity h.lawful_identity.0 h.lawful_identity.1)
want_proper m a Scan h = h.named
want_proper m a Give h = (h.named, refl)
want_proper m a Wait h = h.named

abbrev pub steady : Steady by_majority
steady = record {
  reachable = majority_reachable;
  loads = load_reachable;
  asks = λ n m a sized h _. ask_reachable n m a sized h;
  leaves = leave_reachable;
  steps = step_reachable;
  proper = λ n m a sized h _. want_proper m a a.phase h;
  asking = λ n m a. (refl, refl);
  leaving = λ n m a. (refl, refl);
  identity = λ n m a r. same_identity m a a.phase r;
}
