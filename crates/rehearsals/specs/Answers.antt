-- Tests whether answers of rigs are the same. Assumes nothing.
use Rattle.std.specs.Prelude.{ℕ, Bool, true, false, not, ◌&&◌, is_some, Ok, Err, Result, ◌==◌}
use Rattle.numbers.specs.First.{first_of}
use Rattle.refusal.specs.declared.Refusal.{Refusal}
use Rattle.rules.specs.declared.agent.Section.{Section}
use Rattle.rules.specs.declared.agent.Section.TheVariants.{Idle, Asking, Holding, Leaving}
use Rattle.model.specs.Rigs.{Rig, is_idle, is_asking, is_holding, section_answer}
use Rattle.model.specs.declared.Figures.{Figures}

abbrev pub is_leaving : Section → Bool
is_leaving Idle = false
is_leaving Asking = false
is_leaving Holding = false
is_leaving Leaving = true

abbrev pub same_section : Section → Section → Bool
same_section Idle t = is_idle t
same_section Asking t = is_asking t
same_section Holding t = is_holding t
same_section Leaving t = is_leaving t

abbrev pub same_figures : Figures → Figures → Bool
same_figures a b = a.steps == b.steps && (a.entries == b.entries && (a.refused == b.refused && (a.heard == b.heard && a.crowd == b.crowd)))

-- neither answer is a refusal, and what they tell passes the test
abbrev pub both_tell : {A : Type 0} → (A → A → Bool) → Result A Refusal → Result A Refusal → Bool
both_tell same (Ok a) (Ok b) = same a b
both_tell same (Ok a) (Err e) = false
both_tell same (Err d) (Ok b) = false
both_tell same (Err d) (Err e) = false

-- agent k is not told to be in the section of agent 1
abbrev pub apart : {P : Type 0} → Rig P → ℕ → Bool
apart g k = not (both_tell same_section (section_answer g k) (section_answer g 1))

-- none of the agents 1 to l is apart
abbrev pub together : {P : Type 0} → Rig P → ℕ → Bool
together g l = not (is_some (first_of (apart g) 1 l))
