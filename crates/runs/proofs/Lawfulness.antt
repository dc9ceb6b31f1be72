-- What a lawful rule shows, of its meaning: the laws of the trait `Rule` as a record. Assumes nothing.
use Rattle.std.proofs.Common.{◌≡◌, ℕ}
use Rattle.rules.specs.Lawful.{Sized, LawfulIdentity, Idles, Holds, Moves, Proper, Fits, Permutes, replaced_agent, replaced_want, replaced_reply, AskingAs, LeavingAs}
use Rattle.rules.specs.Records.{Reply, loaded_agent}
use Rattle.rules.specs.declared.agent.Agent.{Agent}
use Rattle.model.specs.Meanings.{Meaning, meaning_of}
use Rattle.rules.specs.contracts.rule.Rule.TheBound.{Met}
use Rattle.rules.specs.declared.rule.Rule.{Ghosts}
use Rattle.std.specs.declared.clone.Clone.{Ghosts as CloneGhosts}
use borrow.Fn.World.{World}
use denote.RattleType.{RattleType}
use mir.Syntax.{Dict}

-- where its calls lead
pub record Steady {P : Type 0} (R : Meaning P) : Type 1 where
  pub reachable : ℕ → ℕ → Agent P → Type 0
  pub loads : (n m i : ℕ) → Sized n m → LawfulIdentity i → reachable n m (loaded_agent R.loaded i)
  pub asks : (n m : ℕ) (a : Agent P) → Sized n m → reachable n m a → Idles a → reachable n m (R.asked n m a)
  pub leaves : (n m : ℕ) (a : Agent P) → Sized n m → reachable n m a → Holds a → reachable n m (R.left n m a)
  pub steps : (n m : ℕ) (a : Agent P) (r : Reply) → Sized n m → reachable n m a → Moves a → Fits m (R.wants n m a) r → reachable n m (R.becomes n m a r)
  pub proper : (n m : ℕ) (a : Agent P) → Sized n m → reachable n m a → Moves a → Proper m (R.wants n m a)
  pub asking : (n m : ℕ) (a : Agent P) → AskingAs a (R.asked n m a)
  pub leaving : (n m : ℕ) (a : Agent P) → LeavingAs a (R.left n m a)
  pub identity : (n m : ℕ) (a : Agent P) (r : Reply) → (R.becomes n m a r).identity ≡ a.identity

-- identities are compared for equality only
pub record Blind {P : Type 0} (R : Meaning P) (S : Steady R) : Type 0 where
  pub renamed : (n m : ℕ) (a : Agent P) (π : ℕ → ℕ) → Sized n m → S.reachable n m a → Permutes π → S.reachable n m (replaced_agent π a)
  pub renamedask : (n m : ℕ) (a : Agent P) (π : ℕ → ℕ) → Sized n m → S.reachable n m a → Permutes π → R.asked n m (replaced_agent π a) ≡ replaced_agent π (R.asked n m a)
  pub renamedleave : (n m : ℕ) (a : Agent P) (π : ℕ → ℕ) → Sized n m → S.reachable n m a → Permutes π → R.left n m (replaced_agent π a) ≡ replaced_agent π (R.left n m a)
  pub renamedwant : (n m : ℕ) (a : Agent P) (π : ℕ → ℕ) → Sized n m → S.reachable n m a → Moves a → Permutes π → R.wants n m (replaced_agent π a) ≡ replaced_want π (R.wants n m a)
  pub renamedstep : (n m : ℕ) (a : Agent P) (r : Reply) (π : ℕ → ℕ) → Sized n m → S.reachable n m a → Moves a → Fits m (R.wants n m a) r → Permutes π → R.becomes n m (replaced_agent π a) (replaced_reply π r) ≡ replaced_agent π (R.becomes n m a r)

-- what the laws of the trait `Rule` say of an implementation's meaning
module _ (T U : RattleType) (G : Ghosts T.Denot U.Denot) (D : Dict) (C : CloneGhosts U.Denot) (E : Dict) (w : World) (laws : Met w.𝓛 w.𝓜 w.𝓡 w.𝓡.env T U G D C E) where
  abbrev pub steady_of : Steady (meaning_of G)
  steady_of = record {
    reachable = G.reachable;
    loads = laws.loads;
    asks = laws.asks;
    leaves = laws.leaves;
    steps = laws.steps;
    proper = laws.proper;
    asking = laws.asking;
    leaving = laws.leaving;
    identity = laws.identity;
  }

  pub blind_of : Blind (meaning_of G) steady_of
  blind_of = record {
    renamed = laws.renamed;
    renamedask = laws.renamedask;
    renamedleave = laws.renamedleave;
    renamedwant = laws.renamedwant;
    renamedstep = laws.renamedstep;
  }
