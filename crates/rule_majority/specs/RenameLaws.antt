-- Replaced identities change no count, and so no move. Assumes nothing.
use Rattle.std.specs.Prelude.{◌≡◌, ℕ, ◌+◌, ◌-◌, ◌*◌, ◌<◌, Bool, true, false, cond, map, Some, None, Option, nat_eq, nat_lt, refl}
use Rattle.std.proofs.Common.{sym, ap, subst, ◌∙◌}
use Rattle.std.proofs.lemmas.List.{length-map, take-map, map-set}
use Rattle.std.specs.Option.{unwrap_or}
use Rattle.numbers.proofs.RowLaws.{within_from}
use Rattle.cells.specs.Marks.{lawful}
use Rattle.cells.specs.declared.mark.Mark.{Mark}
use Rattle.cells.specs.declared.mark.Mark.TheVariants.{Empty}
use Rattle.tally.specs.Counts.{times, lowest}
use Rattle.rules.specs.Records.{Reply, marks, cell, done, went, own, seen_at, going, having_seen}
use Rattle.rules.specs.Lawful.{LawfulIdentity, AllLawful, Fits, Permutes, replaced, replaced_agent, replaced_reply}
use Rattle.rules.proofs.ReplaceLaws.{lawful_set, lawful_take, mark_replaced, all_replaced, times_replaced, lowest_replaced}
use Rattle.rules.specs.declared.agent.Section.{Section}
use Rattle.rules.specs.declared.agent.Section.TheVariants.{Idle, Asking, Holding, Leaving}
use Rattle.rule_majority.specs.declared.phase.MajorityPhase.{MajorityPhase}
use Rattle.rule_majority.specs.declared.phase.MajorityPhase.TheVariants.{Take, Scan, Give, Wait}
use Rattle.rule_majority.specs.declared.verdict.Verdict.{Verdict}
use Rattle.rule_majority.specs.declared.verdict.Verdict.TheVariants.{Withdraw, Hold, Again}
use Rattle.rule_majority.specs.Majority.{Record, own_name, own_seen, most_seen, all_empty, noted, to, nothing_left_in, give_at, give_next, by_verdict, decided, waited, majority_left, want_in, step_in, Reachable}
use Rattle.rule_majority.specs.Verdicts.{verdict}

-- the same test chooses between replaced records
chosen : (f : Record → Record) (b : Bool) (x y : Record) → cond b (f x) (f y) ≡ f (cond b x y)
chosen f true x y = refl
chosen f false x y = refl

module _ (π : ℕ → ℕ) (perm : Permutes π) where
  abbrev new : Record → Record
  new a = replaced_agent π a

  left_renamed : (s : Section) (a : Record) → nothing_left_in s (new a) ≡ new (nothing_left_in s a)
  left_renamed Idle a = refl
  left_renamed Asking a = refl
  left_renamed Holding a = refl
  left_renamed Leaving a = refl

  give_at_renamed : (o : Option ℕ) (a : Record) → give_at o (new a) ≡ new (give_at o a)
  give_at_renamed (Some x) a = refl
  give_at_renamed None a = left_renamed a.section a

  noted_renamed : (a : Record) (k : Mark) → noted (new a) (replaced π k) ≡ new (noted a k)
  noted_renamed a k = ap (having_seen (new a)) (sym (map-set (replaced π) a.seen (a.name - 1) k))

  module _ (m : ℕ) (a : Record) (good : LawfulIdentity a.identity) (all : AllLawful a.seen) where
    front : seen_at (new a) m ≡ map (replaced π) (seen_at a m)
    front = take-map (replaced π) m a.seen

    front_lawful : AllLawful (seen_at a m)
    front_lawful = lawful_take m a.seen all

    own_lawful : lawful (own a) ≡ true
    own_lawful = within_from 1 65535 a.identity good.0 good.1

    pub own_seen_renamed : own_seen m (new a) ≡ own_seen m a
    own_seen_renamed = ap (λ l. times l (own (new a))) front ∙ times_replaced π perm (seen_at a m) front_lawful (own a) own_lawful

    own_name_renamed : own_name m (new a) ≡ own_name m a
    own_name_renamed = ap (λ l. lowest l (own (new a))) front ∙ lowest_replaced π perm (seen_at a m) front_lawful (own a) own_lawful

    empty_renamed : all_empty m (new a) ≡ all_empty m a
    empty_renamed = ap (λ t. nat_eq t m) (ap (λ l. times l Empty) front ∙ times_replaced π perm (seen_at a m) front_lawful Empty refl)

    give_renamed : give_next m (new a) ≡ new (give_next m a)
    give_renamed = ap (λ o. give_at o (new a)) own_name_renamed ∙ give_at_renamed (own_name m a) a

    pub leave_renamed : (n : ℕ) → majority_left n m (new a) ≡ new (majority_left n m a)
    leave_renamed n = ap (λ o. going (new a) Leaving Give (unwrap_or o 1)) own_name_renamed

    verdict_renamed : (v : Verdict) → by_verdict v m (new a) ≡ new (by_verdict v m a)
    verdict_renamed Withdraw = give_renamed
    verdict_renamed Hold = refl
    verdict_renamed Again = refl

    pub decided_where_most_stays : most_seen m (new a) ≡ most_seen m a → decided m (new a) ≡ new (decided m a)
    decided_where_most_stays most =
        ap (λ k. by_verdict (verdict k (most_seen m (new a)) m) m (new a)) own_seen_renamed
        ∙ ap (λ t. by_verdict (verdict (own_seen m a) t m) m (new a)) most
        ∙ verdict_renamed (verdict (own_seen m a) (most_seen m a) m)

    waited_renamed : waited m (new a) ≡ new (waited m a)
    waited_renamed = ap (λ b. cond b (to (new a) Take 1) (to (new a) Wait 1)) empty_renamed ∙ chosen new (all_empty m a) (to a Take 1) (to a Wait 1)

  module _ (m : ℕ) (a : Record) (good : LawfulIdentity a.identity) (all : AllLawful a.seen) where
    all_noted : (k : Mark) → lawful k ≡ true → AllLawful (noted a k).seen
    all_noted k fits = lawful_set a.seen (a.name - 1) k all fits

    -- where the most marks of one identity stay as many
    pub step_where_most_stays : ((b : Record) → AllLawful b.seen → most_seen m (new b) ≡ most_seen m b) → (p : MajorityPhase) (r : Reply) → Fits m (want_in p a) r → step_in p m (new a) (replaced_reply π r) ≡ new (step_in p m a r)
    step_where_most_stays most Take (marks ms) fits = refl
    step_where_most_stays most Take (cell k) fits = refl
    step_where_most_stays most Take done fits = refl
    step_where_most_stays most Take (went b) fits = chosen new (nat_lt a.name m) (to a Take (a.name + 1)) (to a Scan 1)
    step_where_most_stays most Scan (marks ms) fits = refl
    step_where_most_stays most Scan (cell k) fits =
        ap (λ b. cond (nat_lt a.name m) (to b Scan (a.name + 1)) (decided m b)) (noted_renamed a k)
        ∙ ap (cond (nat_lt a.name m) (to (new (noted a k)) Scan (a.name + 1))) (decided_where_most_stays m (noted a k) good (all_noted k fits) (most (noted a k) (all_noted k fits)))
        ∙ chosen new (nat_lt a.name m) (to (noted a k) Scan (a.name + 1)) (decided m (noted a k))
    step_where_most_stays most Scan done fits = refl
    step_where_most_stays most Scan (went b) fits = refl
    step_where_most_stays most Give (marks ms) fits = refl
    step_where_most_stays most Give (cell k) fits = refl
    step_where_most_stays most Give done fits = ap (give_next m) (noted_renamed a Empty) ∙ give_renamed m (noted a Empty) good (all_noted Empty refl)
    step_where_most_stays most Give (went b) fits = refl
    step_where_most_stays most Wait (marks ms) fits = refl
    step_where_most_stays most Wait (cell k) fits =
        ap (λ b. cond (nat_lt a.name m) (to b Wait (a.name + 1)) (waited m b)) (noted_renamed a k)
        ∙ ap (cond (nat_lt a.name m) (to (new (noted a k)) Wait (a.name + 1))) (waited_renamed m (noted a k) good (all_noted k fits))
        ∙ chosen new (nat_lt a.name m) (to (noted a k) Wait (a.name + 1)) (waited m (noted a k))
    step_where_most_stays most Wait done fits = refl
    step_where_most_stays most Wait (went b) fits = refl

  pub reachable_renamed : (m : ℕ) (a : Record) → Reachable m a → Reachable m (new a)
  reachable_renamed m a h = record {
    lawful_identity = perm.inside a.identity h.lawful_identity.0 h.lawful_identity.1;
    lawful_seen = all_replaced π perm a.seen h.lawful_seen;
    room = length-map a.seen (replaced π) ∙ h.room;
    named = h.named;
    idle = h.idle;
    holding = λ e. let was = h.holding e in (was.0, was.1, subst (λ k. m < 2 * k) (sym (own_seen_renamed m a h.lawful_identity h.lawful_seen)) was.2);
    leaving = h.leaving;
    giving = λ e. mark_replaced π perm a.seen a.name ∙ ap (replaced π) (h.giving e);
  }
