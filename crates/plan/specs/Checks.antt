-- How a plan file is judged: the header, its parts, and the checks in their order. Assumes nothing.
use Rattle.std.specs.Prelude.{ℕ, ◌+◌, ◌*◌, min, max, Bool, not, ◌&&◌, ◌||◌, List, length, is_some, Some, None, Ok, Err, Option, Result, ◌==◌, nat_lt}
use Rattle.numbers.specs.Factors.{smallest_common_factor}
use Rattle.numbers.specs.First.{first_of}
use Rattle.numbers.specs.Rows.{within, first_misfit}
use Rattle.refusal.specs.Checks.{◌then◌, Check, refuse_if, refuse_at}
use Rattle.refusal.specs.declared.Part.{Part}
use Rattle.refusal.specs.declared.Part.TheVariants.{Identities, Tables, Events}
use Rattle.refusal.specs.declared.Refusal.{Refusal}
use Rattle.refusal.specs.declared.Refusal.TheVariants.{FileLength, FileVersion, FileRule, FileAgents, FileCells, CommonFactor, PartOutside, PartsOverlap, BadIdentity, BadEntry, BadEvent}
use Rattle.plan.specs.Bytes.{byte, word}
use Rattle.plan.specs.Plans.{identity_at, entry_at, kind_at, agent_at, Sayings, plan_at, model}
use Rattle.plan.specs.declared.header.Header.{Header}
use Rattle.plan.specs.declared.header.Span.{Span}
use Rattle.plan.specs.declared.plan.Plan.{Plan}

-- the fields of the twelve bytes that a file opens with
abbrev pub header_of : List ℕ → Header
header_of f = record {
  version = byte f 0;
  rule = byte f 1;
  agents = byte f 2;
  cells = byte f 3;
  identities = word f 4;
  tables = word f 6;
  events = word f 8;
  count = word f 10;
}

abbrev pub length_check : List ℕ → Check
length_check f = refuse_if (not (within 12 65535 (length f))) FileLength

abbrev pub header_read : List ℕ → Result Header Refusal
header_read f = length_check f then Ok (header_of f)

abbrev pub header_check : ℕ → Header → Check
header_check rule h =
    refuse_if (not (h.version == 1)) FileVersion then
    refuse_if (not (h.rule == rule)) FileRule then
    refuse_if (not (within 2 16 h.agents)) FileAgents then
    refuse_if (not (within 2 64 h.cells)) FileCells then
    refuse_at CommonFactor (smallest_common_factor h.agents h.cells)

-- where a part begins, and how many bytes it has
abbrev pub offset : Header → Part → ℕ
offset h Identities = h.identities
offset h Tables = h.tables
offset h Events = h.events

abbrev pub size : Header → Part → ℕ
size h Identities = 2 * h.agents
size h Tables = h.agents * h.cells
size h Events = 2 * h.count

abbrev pub span_of : Header → Part → Span
span_of h p = record { start = offset h p; end = offset h p + size h p }

abbrev pub inside_check : Header → ℕ → Part → Check
inside_check h len p = refuse_if (nat_lt (span_of h p).start 12 || nat_lt len (span_of h p).end) (PartOutside p)

-- two parts have a byte in common if the later begins before the earlier ends
abbrev pub overlap : Span → Span → Bool
overlap s t = nat_lt (max s.start t.start) (min s.end t.end)

abbrev pub apart_check : Header → Part → Part → Check
apart_check h p q = refuse_if (overlap (span_of h p) (span_of h q)) (PartsOverlap p q)

abbrev pub parts_check : Header → ℕ → Check
parts_check h len =
    inside_check h len Identities then
    inside_check h len Tables then
    inside_check h len Events then
    apart_check h Identities Tables then
    apart_check h Identities Events then
    apart_check h Tables Events

abbrev pub identities_check : Header → List ℕ → Check
identities_check h f = refuse_at BadIdentity (first_misfit (identity_at h f) 65535 h.agents)

-- the first bad local name in the table of agent k
abbrev pub row_misfit : Header → List ℕ → ℕ → Option ℕ
row_misfit h f k = first_misfit (entry_at h f k) h.cells h.cells

abbrev pub refuse_in_table : Header → List ℕ → Option ℕ → Check
refuse_in_table h f None = Ok tt
refuse_in_table h f (Some k) = refuse_at (BadEntry k) (row_misfit h f k)

-- agents first, and then the local names of the first one whose table is bad
abbrev pub tables_check : Header → List ℕ → Check
tables_check h f = refuse_in_table h f (first_of (λ k. is_some (row_misfit h f k)) 1 h.agents)

abbrev pub known : Header → List ℕ → ℕ → Bool
known h f i = within 1 3 (kind_at h f i) && within 1 h.agents (agent_at h f i)

abbrev pub events_check : Header → List ℕ → Check
events_check h f = refuse_at BadEvent (first_of (λ i. not (known h f i)) 1 h.count)

-- all checks of a file with header h, in their order
abbrev pub all_checks : ℕ → Header → List ℕ → Check
all_checks rule h f =
    header_check rule h then
    parts_check h (length f) then
    identities_check h f then
    tables_check h f then
    events_check h f

-- the answer to a file: the first refusal, or the plan
abbrev pub decoded : ℕ → List ℕ → Result Sayings Refusal
decoded rule f = length_check f then all_checks rule (header_of f) f then Ok (plan_at (header_of f) f)

-- what a decoder answered, by what its plan says
abbrev pub answered : Result Plan Refusal → Result Sayings Refusal
answered (Ok p) = Ok (model p)
answered (Err e) = Err e
