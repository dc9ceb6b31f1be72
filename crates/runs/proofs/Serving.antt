-- What a moving agent wants, the store grants. Assumes nothing.
use Rattle.std.proofs.Common.{List, length, ap, subst}
use Rattle.model.specs.Meanings.{Meaning}
use Rattle.model.specs.Rigs.{World, wanted}
use Rattle.model.specs.Calls.{Call, play}
use Rattle.runs.specs.Serving.{Granted, AlwaysGranted}
use Rattle.runs.proofs.Lawfulness.{Steady}
use Rattle.runs.proofs.Views.{agent_in, named_some}
use Rattle.runs.proofs.Effects.{granted}
use Rattle.runs.proofs.Keeping.{Sound, play_keeps, moving_told}
use Rattle.runs.proofs.Freshness.{plan_fresh, standoff_fresh}

module _ {P : Type 0} (R : Meaning P) (S : Steady R) where
  pub sound_grants : (w : World P) → Sound R S w → Granted R w
  sound_grants w sound k s there moves =
      let range = named_some w.rig.seats k s there in
      let reached = subst (S.reachable (length w.rig.seats) w.rig.cells) (ap (agent_in R) there) (sound.reached k range.0 range.1) in
      granted R k w s there sound.room (sound.tables k range.0 range.1) (wanted R w.rig s)
      (S.proper (length w.rig.seats) w.rig.cells s.agent sound.sized reached (moving_told s.agent.section moves))

  -- after any calls
  pub play_sound : (cs : List Call) (w : World P) → Sound R S w → Sound R S (play R w cs)
  play_sound cs w sound = (play_keeps R S (λ _. Unit {0}) (λ _ _ _ _ _ _ _ _. tt) cs w sound tt).0

  pub always : AlwaysGranted R
  always = record {
    on_plans = λ ms file ok cs. sound_grants _ (play_sound cs _ (plan_fresh R S ms file ok).sound);
    on_standoffs = λ ms n m ok cs. sound_grants _ (play_sound cs _ (standoff_fresh R S ms n m ok).sound);
  }
