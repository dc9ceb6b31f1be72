-- What makes a rule lawful. Assumes nothing.
use Rattle.std.specs.Prelude.{◌≡◌, ℕ, ◌≤◌, true, ◌⊎◌, List, map, length}
use Rattle.numbers.specs.Rows.{Distinct}
use Rattle.cells.specs.Marks.{lawful, mark_at}
use Rattle.cells.specs.declared.mark.Mark.{Mark}
use Rattle.cells.specs.declared.mark.Mark.TheVariants.{Empty, Owner, Rung}
use Rattle.rules.specs.Records.{Reply, marks, cell, done, went}
use Rattle.rules.specs.declared.agent.Agent.{Agent}
use Rattle.rules.specs.declared.agent.Section.{Section}
use Rattle.rules.specs.declared.agent.Section.TheVariants.{Idle, Asking, Holding, Leaving}
use Rattle.rules.specs.declared.want.Want.{Want}
use Rattle.rules.specs.declared.want.Want.TheVariants.{Look, Read, Write, Swap}

-- the numbers of agents and cells that a rig can have
pub record Sized (n m : ℕ) : Type 0 where
  pub agents_low : 2 ≤ n
  pub agents_high : n ≤ 16
  pub cells_low : 1 ≤ m
  pub cells_high : m ≤ 64

abbrev pub LawfulIdentity : ℕ → Type 0
LawfulIdentity i = (1 ≤ i) × (i ≤ 65535)

-- every mark of a list is lawful
abbrev pub AllLawful : List Mark → Type 0
AllLawful ms = (y : ℕ) → lawful (mark_at ms y) ≡ true

-- a step while asking ends in asking or holding, one while leaving in leaving or idle
abbrev pub Follows : Section → Section → Type 0
Follows Idle t = Unit {0}
Follows Asking t = (t ≡ Asking) ⊎ (t ≡ Holding)
Follows Holding t = Unit {0}
Follows Leaving t = (t ≡ Leaving) ⊎ (t ≡ Idle)

module _ {P : Type 0} where
  abbrev pub Idles : Agent P → Type 0
  Idles a = a.section ≡ Idle

  abbrev pub Holds : Agent P → Type 0
  Holds a = a.section ≡ Holding

  -- asking or leaving: an agent that can step
  abbrev pub Moves : Agent P → Type 0
  Moves a = (a.section ≡ Asking) ⊎ (a.section ≡ Leaving)

  abbrev pub NextSection : Agent P → Agent P → Type 0
  NextSection a b = Follows a.section b.section

  -- the first records of a request and of a leave keep the identity
  abbrev pub AskingAs : Agent P → Agent P → Type 0
  AskingAs a b = (b.section ≡ Asking) × (b.identity ≡ a.identity)

  abbrev pub LeavingAs : Agent P → Agent P → Type 0
  LeavingAs a b = (b.section ≡ Leaving) × (b.identity ≡ a.identity)

abbrev pub Name : ℕ → ℕ → Type 0
Name m x = (1 ≤ x) × (x ≤ m)

-- a want names only the names 1 to m, and only lawful marks
abbrev pub Proper : ℕ → Want → Type 0
Proper m Look = Unit {0}
Proper m (Read x) = Name m x
Proper m (Write x k) = Name m x × (lawful k ≡ true)
Proper m (Swap x old new) = Name m x × (lawful old ≡ true) × (lawful new ≡ true)

-- an answer of the kind that the want asks for, with as many marks as there are cells, all lawful
abbrev pub Fits : ℕ → Want → Reply → Type 0
Fits m Look (marks ms) = (length ms ≡ m) × AllLawful ms
Fits m Look (cell k) = ⊥
Fits m Look done = ⊥
Fits m Look (went b) = ⊥
Fits m (Read x) (marks ms) = ⊥
Fits m (Read x) (cell k) = lawful k ≡ true
Fits m (Read x) done = ⊥
Fits m (Read x) (went b) = ⊥
Fits m (Write x k) (marks ms) = ⊥
Fits m (Write x k) (cell l) = ⊥
Fits m (Write x k) done = Unit {0}
Fits m (Write x k) (went b) = ⊥
Fits m (Swap x old new) (marks ms) = ⊥
Fits m (Swap x old new) (cell k) = ⊥
Fits m (Swap x old new) done = ⊥
Fits m (Swap x old new) (went b) = Unit {0}

-- a permutation of all of 1 to 65,535
abbrev pub Permutes : (ℕ → ℕ) → Type 0
Permutes π = Distinct π 65535 65535

-- identities replaced, in marks, records, wants and answers
abbrev pub replaced : (ℕ → ℕ) → Mark → Mark
replaced π Empty = Empty
replaced π (Owner i) = Owner (π i)
replaced π (Rung r) = Rung r

abbrev pub replaced_agent : {P : Type 0} → (ℕ → ℕ) → Agent P → Agent P
replaced_agent π a = record {
  section = a.section;
  identity = π a.identity;
  phase = a.phase;
  name = a.name;
  rung = a.rung;
  seen = map (replaced π) a.seen;
  flags = a.flags;
}

abbrev pub replaced_want : (ℕ → ℕ) → Want → Want
replaced_want π Look = Look
replaced_want π (Read x) = Read x
replaced_want π (Write x k) = Write x (replaced π k)
replaced_want π (Swap x old new) = Swap x (replaced π old) (replaced π new)

abbrev pub replaced_reply : (ℕ → ℕ) → Reply → Reply
replaced_reply π (marks ms) = marks (map (replaced π) ms)
replaced_reply π (cell k) = cell (replaced π k)
replaced_reply π done = done
replaced_reply π (went b) = went b
