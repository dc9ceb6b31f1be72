-- Sections that are equal. Assumes nothing.
use Rattle.std.proofs.Common.{◌≡◌, refl}
use Rattle.rules.specs.Sections.{same_section}
use Rattle.rules.specs.declared.agent.Section.{Section}
use Rattle.rules.specs.declared.agent.Section.TheVariants.{Idle, Asking, Holding, Leaving}
use Rattle.rules.specs.contracts.agent.SectionPartialEq as derived

-- `==` tells whether two sections are the same
pub eq_is : (s t : Section) → (derived.TheImpl.ghosts).eq s t ≡ same_section s t
eq_is Idle Idle = refl
eq_is Idle Asking = refl
eq_is Idle Holding = refl
eq_is Idle Leaving = refl
eq_is Asking Idle = refl
eq_is Asking Asking = refl
eq_is Asking Holding = refl
eq_is Asking Leaving = refl
eq_is Holding Idle = refl
eq_is Holding Asking = refl
eq_is Holding Holding = refl
eq_is Holding Leaving = refl
eq_is Leaving Idle = refl
eq_is Leaving Asking = refl
eq_is Leaving Holding = refl
eq_is Leaving Leaving = refl
