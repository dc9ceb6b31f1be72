-- What makes a file a plan, and what each refusal says of a file. Assumes nothing.
use Rattle.std.specs.Prelude.{◌≡◌, ℕ, ◌+◌, ◌-◌, ◌*◌, ◌<◌, ◌≤◌, ◌⊎◌, List, length, Some, MatchOption, ◌≢◌}
use Rattle.numbers.specs.Factors.{CoprimeUpTo, SmallestCommonFactor}
use Rattle.numbers.specs.Names.{named}
use Rattle.numbers.specs.Rows.{Distinct, FirstMisfit}
use Rattle.refusal.specs.Refusals.{part_number}
use Rattle.refusal.specs.declared.Part.{Part}
use Rattle.refusal.specs.declared.Refusal.{Refusal}
use Rattle.refusal.specs.declared.Refusal.TheVariants.{FileLength, FileVersion, FileRule, FileAgents, FileCells, CommonFactor, PartOutside, PartsOverlap, BadIdentity, BadEntry, BadEvent, NoSuchAgent, NotIdle, NotHolding, AtRest, HeardAll, NoSuchCell, NoMark, CellCount, BufferTooShort, CellTaken, NotBlank, OnStandoff, NoCommonFactor, StandoffAgents, StandoffCells, NoStandoff, RowLength, BadRenumbering}
use Rattle.plan.specs.Bytes.{byte, word}
use Rattle.plan.specs.Checks.{header_of, span_of}
use Rattle.plan.specs.Plans.{identity_at, entry_at, kind_at, agent_at, Sayings, entry_named}
use Rattle.plan.specs.declared.event.Event.{Event}
use Rattle.plan.specs.declared.event.Event.TheVariants.{Request, Step, Leave}
use Rattle.plan.specs.declared.header.Span.{Span}

-- from low to high, both included
abbrev pub Between : ℕ → ℕ → ℕ → Type 0
Between low high x = (low ≤ x) × (x ≤ high)

-- a part lies behind the header and inside a file of that length
abbrev pub Inside : ℕ → Span → Type 0
Inside len s = (12 ≤ s.start) × (s.end ≤ len)

-- byte y belongs to a part
abbrev pub In : Span → ℕ → Type 0
In s y = (s.start ≤ y) × (y < s.end)

-- no byte belongs to both
abbrev pub Apart : Span → Span → Type 0
Apart s t = (y : ℕ) → In s y → In t y → ⊥

-- parts in the order of their numbers, and pairs of them
abbrev pub Before : Part → Part → Type 0
Before p q = part_number p < part_number q

abbrev pub PairBefore : Part → Part → Part → Part → Type 0
PairBefore p q r s = (part_number p < part_number r) ⊎ ((part_number p ≡ part_number r) × (part_number q < part_number s))

module _ (rule : ℕ) (f : List ℕ) where
  abbrev pub agents_in : ℕ
  agents_in = (header_of f).agents

  abbrev pub cells_in : ℕ
  cells_in = (header_of f).cells

  abbrev pub span_in : Part → Span
  span_in = span_of (header_of f)

  -- event i has a known kind and a known agent
  abbrev pub KnownEvent : ℕ → Type 0
  KnownEvent i = Between 1 3 (kind_at (header_of f) f i) × Between 1 agents_in (agent_at (header_of f) f i)

  -- what an accepted file has, in the order in which it is looked at: each stage adds one thing to those before it
  abbrev pub GoodLength : Type 0
  GoodLength = Between 12 65535 (length f)

  abbrev pub GoodVersion : Type 0
  GoodVersion = GoodLength × ((header_of f).version ≡ 1)

  abbrev pub GoodRule : Type 0
  GoodRule = GoodVersion × ((header_of f).rule ≡ rule)

  abbrev pub GoodAgents : Type 0
  GoodAgents = GoodRule × Between 2 16 agents_in

  abbrev pub GoodCells : Type 0
  GoodCells = GoodAgents × Between 2 64 cells_in

  abbrev pub GoodFactors : Type 0
  GoodFactors = GoodCells × CoprimeUpTo agents_in cells_in

  abbrev pub GoodParts : Type 0
  GoodParts = GoodFactors × ((p : Part) → Inside (length f) (span_in p))

  abbrev pub GoodLayout : Type 0
  GoodLayout = GoodParts × ((p q : Part) → Before p q → Apart (span_in p) (span_in q))

  abbrev pub GoodIdentities : Type 0
  GoodIdentities = GoodLayout × Distinct (identity_at (header_of f) f) 65535 agents_in

  abbrev pub GoodTables : Type 0
  GoodTables = GoodIdentities × ((k : ℕ) → 1 ≤ k → k ≤ agents_in → Distinct (entry_at (header_of f) f k) cells_in cells_in)

  abbrev pub Acceptable : Type 0
  Acceptable = GoodTables × ((i : ℕ) → 1 ≤ i → i ≤ (header_of f).count → KnownEvent i)

  -- what a refusal says: all that is looked at earlier is good, and here is the first fault
  abbrev pub Fault : Refusal → Type 0
  Fault FileLength = GoodLength → ⊥
  Fault FileVersion = GoodLength × ((header_of f).version ≢ 1)
  Fault FileRule = GoodVersion × ((header_of f).rule ≢ rule)
  Fault FileAgents = GoodRule × (Between 2 16 agents_in → ⊥)
  Fault FileCells = GoodAgents × (Between 2 64 cells_in → ⊥)
  Fault (CommonFactor l) = GoodCells × SmallestCommonFactor agents_in cells_in l
  Fault (PartOutside p) = GoodFactors × (Inside (length f) (span_in p) → ⊥) × ((q : Part) → Before q p → Inside (length f) (span_in q))
  Fault (PartsOverlap p q) = GoodParts × Before p q × ((y : ℕ) × In (span_in p) y × In (span_in q) y) × ((r s : Part) → Before r s → PairBefore r s p q → Apart (span_in r) (span_in s))
  Fault (BadIdentity k) = GoodLayout × FirstMisfit (identity_at (header_of f) f) 65535 agents_in k
  Fault (BadEntry k x) = GoodIdentities × (1 ≤ k) × (k ≤ agents_in) × FirstMisfit (entry_at (header_of f) f k) cells_in cells_in x × ((j : ℕ) → 1 ≤ j → j < k → Distinct (entry_at (header_of f) f j) cells_in cells_in)
  Fault (BadEvent i) = GoodTables × (1 ≤ i) × (i ≤ (header_of f).count) × (KnownEvent i → ⊥) × ((j : ℕ) → 1 ≤ j → j < i → KnownEvent j)
  Fault (NoSuchAgent k) = ⊥
  Fault (NotIdle k) = ⊥
  Fault (NotHolding k) = ⊥
  Fault (AtRest k) = ⊥
  Fault HeardAll = ⊥
  Fault (NoSuchCell y) = ⊥
  Fault NoMark = ⊥
  Fault CellCount = ⊥
  Fault BufferTooShort = ⊥
  Fault (CellTaken y) = ⊥
  Fault NotBlank = ⊥
  Fault OnStandoff = ⊥
  Fault NoCommonFactor = ⊥
  Fault StandoffAgents = ⊥
  Fault StandoffCells = ⊥
  Fault NoStandoff = ⊥
  Fault RowLength = ⊥
  Fault (BadRenumbering y) = ⊥

-- the two bytes of an event
abbrev pub event_kind : Event → ℕ
event_kind (Request k) = 1
event_kind (Step k) = 2
event_kind (Leave k) = 3

abbrev pub event_agent : Event → ℕ
event_agent (Request k) = k
event_agent (Step k) = k
event_agent (Leave k) = k

-- a plan answers with the file's own bytes, and they make a trial: identities differ, and each table is an arrangement of the cells
pub record Faithful (f : List ℕ) (p : Sayings) : Type 0 where
  pub agents : p.agents ≡ byte f 2
  pub cells : p.cells ≡ byte f 3
  pub rule : p.rule ≡ byte f 1
  pub count : length p.events ≡ word f 10
  pub identities : (k : ℕ) → 1 ≤ k → k ≤ p.agents → named p.identities k ≡ Some (word f (word f 4 + 2 * (k - 1)))
  pub tables : (k x : ℕ) → 1 ≤ k → k ≤ p.agents → 1 ≤ x → x ≤ p.cells → entry_named p k x ≡ Some (byte f (word f 6 + byte f 3 * (k - 1) + (x - 1)))
  pub events : (i : ℕ) → 1 ≤ i → i ≤ length p.events → MatchOption (named p.events i) ⊥ (λ e. (event_kind e ≡ byte f (word f 8 + 2 * (i - 1))) × (event_agent e ≡ byte f (word f 8 + 2 * (i - 1) + 1)) × Between 1 p.agents (event_agent e))
  pub differ : (j k : ℕ) → 1 ≤ j → j < k → k ≤ p.agents → named p.identities j ≢ named p.identities k
  pub lawful : (k : ℕ) → 1 ≤ k → k ≤ p.agents → MatchOption (named p.identities k) ⊥ (Between 1 65535)
  pub arranged : (k : ℕ) → 1 ≤ k → k ≤ p.agents → (y : ℕ) → Between 1 p.cells y → (x : ℕ) × Between 1 p.cells x × (entry_named p k x ≡ Some y) × ((z : ℕ) → Between 1 p.cells z → entry_named p k z ≡ Some y → z ≡ x)
  pub in_range : (k x : ℕ) → 1 ≤ k → k ≤ p.agents → Between 1 p.cells x → MatchOption (entry_named p k x) ⊥ (Between 1 p.cells)
