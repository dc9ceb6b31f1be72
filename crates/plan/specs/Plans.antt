-- What a plan file says: agents, cells, rule, identities, tables and events. Assumes nothing.
use Rattle.std.specs.Prelude.{ℕ, ◌+◌, ◌-◌, ◌*◌, cond, List, Some, None, Option, ◌==◌}
use Rattle.numbers.specs.Names.{named, listed}
use Rattle.numbers.specs.Rows.{within}
use Rattle.plan.specs.Bytes.{byte, word}
use Rattle.plan.specs.declared.event.Event.{Event}
use Rattle.plan.specs.declared.event.Event.TheVariants.{Request, Step, Leave}
use Rattle.plan.specs.declared.header.Header.{Header}
use Rattle.plan.specs.declared.plan.Plan.{Plan}

-- the rule that a file asks for: its rule byte, or 1 where that is missing or not from 1 to 3
abbrev pub rule_asked : List ℕ → ℕ
rule_asked f = cond (within 1 3 (byte f 1)) (byte f 1) 1

-- the identity of agent k
abbrev pub identity_at : Header → List ℕ → ℕ → ℕ
identity_at h f k = word f (h.identities + 2 * (k - 1))

-- what agent k calls x: the entry of its table
abbrev pub entry_at : Header → List ℕ → ℕ → ℕ → ℕ
entry_at h f k x = byte f (h.tables + h.cells * (k - 1) + (x - 1))

-- kind and agent of event i
abbrev pub kind_at : Header → List ℕ → ℕ → ℕ
kind_at h f i = byte f (h.events + 2 * (i - 1))

abbrev pub agent_at : Header → List ℕ → ℕ → ℕ
agent_at h f i = byte f (h.events + 2 * (i - 1) + 1)

-- kind 1 is a request, 2 a step, 3 a leave; no other is accepted
abbrev pub event_of : ℕ → ℕ → Event
event_of kind k = cond (kind == 1) (Request k) (cond (kind == 2) (Step k) (Leave k))

abbrev pub event_at : Header → List ℕ → ℕ → Event
event_at h f i = event_of (kind_at h f i) (agent_at h f i)

-- what a plan says, whatever file it stands in
pub record Sayings : Type 0 where
  pub rule : ℕ
  pub agents : ℕ
  pub cells : ℕ
  pub identities : List ℕ
  pub tables : List (List ℕ)
  pub events : List Event

-- the plan of a file with header h
abbrev pub plan_at : Header → List ℕ → Sayings
plan_at h f = record {
  rule = h.rule;
  agents = h.agents;
  cells = h.cells;
  identities = listed (identity_at h f) h.agents;
  tables = listed (λ k. listed (entry_at h f k) h.cells) h.agents;
  events = listed (event_at h f) h.count;
}

abbrev pub model : Plan → Sayings
model p = plan_at p.draft.header p.draft.file.now

-- the entry at local name x of the table with name k, if both are there
abbrev pub entry_in : Option (List ℕ) → ℕ → Option ℕ
entry_in None x = None
entry_in (Some row) x = named row x

abbrev pub entry_named : Sayings → ℕ → ℕ → Option ℕ
entry_named p k x = entry_in (named p.tables k) x
