-- Sections: whether two are the same, and how one is shown. Assumes nothing.
use Rattle.std.specs.Prelude.{ℕ, Bool, true, false, List, codes}
use Rattle.rules.specs.declared.agent.Section.{Section}
use Rattle.rules.specs.declared.agent.Section.TheVariants.{Idle, Asking, Holding, Leaving}

abbrev pub same_section : Section → Section → Bool
same_section Idle Idle = true
same_section Idle Asking = false
same_section Idle Holding = false
same_section Idle Leaving = false
same_section Asking Idle = false
same_section Asking Asking = true
same_section Asking Holding = false
same_section Asking Leaving = false
same_section Holding Idle = false
same_section Holding Asking = false
same_section Holding Holding = true
same_section Holding Leaving = false
same_section Leaving Idle = false
same_section Leaving Asking = false
same_section Leaving Holding = false
same_section Leaving Leaving = true

-- how a section is shown
abbrev pub section_word : Section → List ℕ
section_word Idle = codes "idle"
section_word Asking = codes "asking"
section_word Holding = codes "holding"
section_word Leaving = codes "leaving"
