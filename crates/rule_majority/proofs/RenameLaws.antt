-- Replaced identities leave the most marks of one identity as many, and so change no move. Assumes nothing.
use Rattle.std.specs.Prelude.{◌≡◌, ℕ}
use Rattle.std.proofs.Common.{ap, ◌∙◌}
use Rattle.std.proofs.lemmas.List.{take-map}
use Rattle.tally.specs.Counts.{most_of_one}
use Rattle.rules.specs.Records.{Reply, seen_at}
use Rattle.rules.specs.Lawful.{LawfulIdentity, AllLawful, Fits, Permutes, replaced, replaced_agent, replaced_reply}
use Rattle.rules.proofs.ReplaceLaws.{lawful_take, most_replaced}
use Rattle.rule_majority.specs.declared.phase.MajorityPhase.{MajorityPhase}
use Rattle.rule_majority.specs.Majority.{Record, most_seen, decided, want_in, step_in}
use Rattle.rule_majority.specs.RenameLaws.{decided_where_most_stays, step_where_most_stays}

module _ (π : ℕ → ℕ) (perm : Permutes π) where
  abbrev new : Record → Record
  new a = replaced_agent π a

  module _ (m : ℕ) (a : Record) (good : LawfulIdentity a.identity) (all : AllLawful a.seen) where
    most_renamed : most_seen m (new a) ≡ most_seen m a
    most_renamed = ap most_of_one (take-map (replaced π) m a.seen) ∙ most_replaced π perm (seen_at a m) (lawful_take m a.seen all)

    decided_renamed : decided m (new a) ≡ new (decided m a)
    decided_renamed = decided_where_most_stays π perm m a good all most_renamed

  module _ (m : ℕ) (a : Record) (good : LawfulIdentity a.identity) (all : AllLawful a.seen) where
    pub step_renamed : (p : MajorityPhase) (r : Reply) → Fits m (want_in p a) r → step_in p m (new a) (replaced_reply π r) ≡ new (step_in p m a r)
    step_renamed p r fits = step_where_most_stays π perm m a good all (λ b lawful. ap most_of_one (take-map (replaced π) m b.seen) ∙ most_replaced π perm (seen_at b m) (lawful_take m b.seen lawful)) p r fits
