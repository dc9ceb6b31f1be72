-- Rounds of a stand-off: one call for each of the agents that move together. Assumes nothing.
use Rattle.std.specs.Prelude.{ℕ, zero, suc, ◌+◌, Bool, true, false, List, [], ◌∷◌, is_some, Some, None, Err, Option, nat_lt}
use Rattle.numbers.specs.First.{first_of}
use Rattle.refusal.specs.Checks.{◌then◌, Check, refuse_if}
use Rattle.refusal.specs.declared.Refusal.{Refusal}
use Rattle.refusal.specs.declared.Refusal.TheVariants.{NotIdle, NotHolding, AtRest, HeardAll, NoStandoff}
use Rattle.plan.specs.declared.event.Event.{Event}
use Rattle.plan.specs.declared.event.Event.TheVariants as event
use Rattle.model.specs.Meanings.{Meaning}
use Rattle.model.specs.Rigs.{Rig, World, section_at, section_check, heard_at_most, after_check, moved, turned_away}
use Rattle.model.specs.declared.Round.{Round}
use Rattle.model.specs.declared.Round.TheVariants.{Request, Step, Leave}

-- what a round gives to agent k
abbrev pub given : Round → ℕ → Event
given Request k = event.Request k
given Step k = event.Step k
given Leave k = event.Leave k

-- a round names agent 1 where it is refused
abbrev pub refusal_of : Round → Refusal
refusal_of Request = NotIdle 1
refusal_of Step = AtRest 1
refusal_of Leave = NotHolding 1

-- one thing after another for the names 1 to n
abbrev pub in_turn : {A : Type 0} → (A → ℕ → A) → A → ℕ → A
in_turn f a zero = a
in_turn f a (suc n) = f (in_turn f a n) (suc n)

-- how many agents move together
abbrev pub moving : Option ℕ → ℕ
moving None = 0
moving (Some l) = l

module _ {P : Type 0} where
  abbrev pub may_not : Round → Rig P → ℕ → Bool
  may_not r g k = after_check (section_check (given r k) (section_at g k)) false true

  -- each of the agents 1 to l may do it
  abbrev pub all_may : Round → Rig P → ℕ → Check
  all_may r g l = refuse_if (is_some (first_of (may_not r g) 1 l)) (refusal_of r)

  -- the rig is a stand-off, and there are l calls left to hear
  abbrev pub round_hearing : Rig P → Option ℕ → Check
  round_hearing g None = Err NoStandoff
  round_hearing g (Some l) = refuse_if (nat_lt heard_at_most (g.heard + l)) HeardAll

  abbrev pub round_answer : World P → Round → Check
  round_answer w r = round_hearing w.rig w.rig.standoff then all_may r w.rig (moving w.rig.standoff)

  module _ (R : Meaning P) where
    abbrev pub after_round : World P → Round → World P
    after_round w r =
        after_check (round_hearing w.rig w.rig.standoff)
        (after_check (all_may r w.rig (moving w.rig.standoff))
        (in_turn (λ v k. moved R v (given r k)) w (moving w.rig.standoff))
        (in_turn (λ v k. turned_away R v (given r k)) w (moving w.rig.standoff)))
        w

    abbrev pub rounds : World P → List Round → World P
    rounds w [] = w
    rounds w (r ∷ rs) = rounds (after_round w r) rs
