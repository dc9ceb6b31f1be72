-- What `==` tells of an agent's section. Assumes nothing.
use Rattle.std.proofs.Common.{◌≡◌, refl}
use Rattle.rules.specs.contracts.agent.SectionPartialEq as derived
use Rattle.rules.specs.declared.agent.Section.{Section}
use Rattle.rules.specs.declared.agent.Section.TheVariants.{Idle, Asking, Holding, Leaving}
use Rattle.model.specs.Rigs.{is_asking, is_holding}

pub eq_asking : (s : Section) → (derived.TheImpl.ghosts).eq s Asking ≡ is_asking s
eq_asking Idle = refl
eq_asking Asking = refl
eq_asking Holding = refl
eq_asking Leaving = refl

pub eq_holding : (s : Section) → (derived.TheImpl.ghosts).eq s Holding ≡ is_holding s
eq_holding Idle = refl
eq_holding Asking = refl
eq_holding Holding = refl
eq_holding Leaving = refl
