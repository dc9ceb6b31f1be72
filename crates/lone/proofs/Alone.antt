-- From an accepted load, the calls of one agent alone go as its scene goes. Assumes nothing.
use Rattle.std.proofs.Common.{◌≡◌, ℕ, ◌+◌, ◌<◌, ◌≤◌, List, length, replicate, None, Ok, refl, ap, ◌∙◌, subst, arith}
use Rattle.numbers.specs.Names.{listed}
use Rattle.numbers.proofs.NameLaws.{listed_same}
use Rattle.plan.specs.declared.event.Event.TheVariants.{Request, Step}
use Rattle.cells.specs.declared.mark.Mark.{Mark}
use Rattle.cells.specs.declared.mark.Mark.TheVariants.{Empty}
use Rattle.rules.specs.Records.{loaded_agent, going}
use Rattle.rules.specs.Lawful.{Sized, LawfulIdentity}
use Rattle.rules.specs.declared.agent.Section.{Section}
use Rattle.rules.specs.declared.agent.Section.TheVariants.{Asking, Holding, Leaving}
use Rattle.rules.specs.declared.want.Want.TheVariants.{Look}
use Rattle.model.specs.Meanings.{Meaning}
use Rattle.model.specs.Rigs.{World, section_answer, after, run}
use Rattle.model.specs.Loads.{blank_world, load_answer, after_load}
use Rattle.runs.proofs.Views.{agent_at, table_at, met_at}
use Rattle.runs.proofs.Lawfulness.{Steady}
use Rattle.runs.proofs.Keeping.{Fresh}
use Rattle.runs.proofs.Freshness.{load_told, plan_fresh}
use Rattle.lone.specs.Lone.{alone, HoldsAt, HoldsAlone}
use Rattle.lone.proofs.Scenes.{Scene, turns, Ready, Leads}
use Rattle.lone.proofs.Following.{scene_of, section_told, after_request, At, at_hears, at_goes, follows}

module _ {P : Type 0} (R : Meaning P) where
  -- a load is the same under a rule that only looks
  abbrev looking : Meaning P
  looking = record {
    number = R.number;
    loaded = R.loaded;
    asked = λ n m a. going a Asking a.phase a.name;
    left = λ n m a. going a Leaving a.phase a.name;
    wants = λ n m a. Look;
    becomes = λ n m a r. a;
  }

  looking_steady : Steady looking
  looking_steady = record {
    reachable = λ n m a. Unit {0};
    loads = λ n m i sized good. tt;
    asks = λ n m a sized h idles. tt;
    leaves = λ n m a sized h holds. tt;
    steps = λ n m a r sized h moves fits. tt;
    proper = λ n m a sized h moves. tt;
    asking = λ n m a. (refl, refl);
    leaving = λ n m a. (refl, refl);
    identity = λ n m a r. refl;
  }

  -- an agent of identity i that has just asked, over empty cells
  abbrev pub start : ℕ → ℕ → ℕ → Scene P
  start n m i = record { agent = R.asked n m (loaded_agent R.loaded i); met = listed (λ _. Empty) m }

  -- t turns lead to holding
  pub record Ends (n m i t : ℕ) : Type 0 where
    pub few : t < 100000
    pub last : Scene P
    pub leads : Leads R n m t (start n m i) last
    pub holds : last.agent.section ≡ Holding

  module _ (ms : List Mark) (file : List ℕ) (ok : load_answer R (blank_world P ms) file ≡ Ok tt) (k : ℕ) (low : 1 ≤ k) (high : k ≤ length (after_load R (blank_world P ms) file).rig.seats) where
    abbrev w : World P
    w = after_load R (blank_world P ms) file

    abbrev n : ℕ
    n = length w.rig.seats

    abbrev m : ℕ
    m = w.rig.cells

    fresh : Fresh looking looking_steady w
    fresh = plan_fresh looking looking_steady ms file ok

    no_standoff : w.rig.standoff ≡ None
    no_standoff = ap (λ v. v.rig.standoff) (load_told looking looking_steady ms file ok).world

    none_heard : w.rig.heard ≡ 0
    none_heard = ap (λ v. v.rig.heard) (load_told looking looking_steady ms file ok).world

    abbrev i : ℕ
    i = (agent_at R w k).identity

    at_load : At R k n m 0 (scene_of R k w) w
    at_load = record {
      agents = refl;
      cells = refl;
      standoff = no_standoff;
      heard = none_heard;
      room = fresh.sound.room;
      table = fresh.sound.tables k low high;
      scene = refl;
    }

    at_start : At R k n m 1 (start n m i) (after R w (Request k))
    at_start =
        let is : agent_at R w k ≡ loaded_agent R.loaded i = fresh.loaded k in
        let met : listed (met_at w k) m ≡ listed (λ _. Empty) m = listed_same (met_at w k) (λ _. Empty) m (λ x a b. fresh.empty (table_at w k x)) in
        let same : ◌≡◌ {A = Scene P} (record { agent = R.asked n m (agent_at R w k); met = listed (met_at w k) m }) (start n m i) = λ j. record { agent = R.asked n m (is j); met = met j } in
        let hears = at_hears R k n m low high 0 (scene_of R k w) w (omega arith) at_load in
        subst (λ e. At R k n m 1 e (after R w (Request k))) same
        (at_goes R k n m low high 0 (scene_of R k w) (record { agent = R.asked n m (agent_at R w k); met = listed (met_at w k) m }) w (after R w (Request k)) at_load (after_request R k w hears (ap (λ a. a.section) is)))

    -- the section after t steps
    told : (t : ℕ) (s : Section) → t < 100000 → ((u : ℕ) → u < t → Ready R n m (turns R n m u (start n m i))) → (turns R n m t (start n m i)).agent.section ≡ s → section_answer (run R w (alone k t)).rig k ≡ Ok s
    told t s few ready is =
        let v = run R (after R w (Request k)) (replicate t (Step k)) in
        let at : At R k n m (1 + t) (turns R n m t (start n m i)) v = follows R k n m low high t 1 (start n m i) (after R w (Request k)) (omega arith) at_start ready in
        section_told R k v (at_hears R k n m low high (1 + t) (turns R n m t (start n m i)) v (omega arith) at) ∙ ap Ok (ap (λ e. e.agent.section) at.scene ∙ is)

    holds_at : (t : ℕ) → Ends n m i t → HoldsAt R w k t
    holds_at t ends = record {
      holds = told t Holding ends.few ends.leads.ready (ap (λ e. e.agent.section) ends.leads.ends ∙ ends.holds);
      asks = λ u less. told u Asking (omega (arith, ends.few)) (λ v below. ends.leads.ready v (omega arith)) (ends.leads.ready u less).asks;
    }

    pub sized : Sized n m
    sized = fresh.sound.sized

    pub identified : LawfulIdentity i
    identified = fresh.sound.identities.inside k low high

  -- a rule that leads a lone agent to holding
  pub holds_alone : (T : ℕ → ℕ → ℕ) → ((n m i : ℕ) → Sized n m → LawfulIdentity i → Ends n m i (T n m)) → HoldsAlone R T
  holds_alone T ends ms file ok k low high =
      holds_at ms file ok k low high (T (n ms file ok k low high) (m ms file ok k low high)) (ends (n ms file ok k low high) (m ms file ok k low high) (i ms file ok k low high) (sized ms file ok k low high) (identified ms file ok k low high))
