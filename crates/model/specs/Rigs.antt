-- A rig of agents over a list of marks: what each call answers, and what the rig is afterwards. Assumes nothing.
use Rattle.std.specs.Prelude.{ℕ, ◌+◌, ◌-◌, max, Bool, true, false, cond, not, List, [], ◌∷◌, length, is_some, Some, None, Ok, Err, Option, Result, nat_le, slice_index, slice_set}
use Rattle.numbers.specs.First.{first_of}
use Rattle.numbers.specs.Names.{named, listed}
use Rattle.numbers.specs.Rows.{within}
use Rattle.refusal.specs.Checks.{◌then◌, Check, refuse_if, refuse_at}
use Rattle.refusal.specs.declared.Refusal.{Refusal}
use Rattle.refusal.specs.declared.Refusal.TheVariants.{NoSuchAgent, NotIdle, NotHolding, AtRest, HeardAll, NoSuchCell, OnStandoff}
use Rattle.plan.specs.declared.event.Event.{Event}
use Rattle.plan.specs.declared.event.Event.TheVariants.{Request, Step, Leave}
use Rattle.cells.specs.Marks.{mark_at, read_answer, name_check, mark_check, write_answer, after_write, swap_answer, says_yes, after_swap}
use Rattle.cells.specs.declared.mark.Mark.{Mark}
use Rattle.tally.specs.Counts.{count_names}
use Rattle.rules.specs.Records.{Reply, marks, cell, done, went}
use Rattle.rules.specs.declared.agent.Agent.{Agent}
use Rattle.rules.specs.declared.agent.Section.{Section}
use Rattle.rules.specs.declared.agent.Section.TheVariants.{Idle, Asking, Holding, Leaving}
use Rattle.rules.specs.declared.want.Want.{Want}
use Rattle.rules.specs.declared.want.Want.TheVariants.{Look, Read, Write, Swap}
use Rattle.model.specs.Meanings.{Meaning}
use Rattle.model.specs.declared.Figures.{Figures}

-- an agent in a rig: its table, its record, and its figures
pub record Seat (P : Type 0) : Type 0 where
  pub table : List ℕ
  pub agent : Agent P
  pub steps : ℕ
  pub entries : ℕ
  pub refused : ℕ

-- a rig: the number of cells, the agents, how many calls were heard, the most agents asking after any one call, and, on a stand-off, how many agents move together
pub record Rig (P : Type 0) : Type 0 where
  pub cells : ℕ
  pub seats : List (Seat P)
  pub heard : ℕ
  pub crowd : ℕ
  pub standoff : Option ℕ

-- a rig with the marks in its store
pub record World (P : Type 0) : Type 0 where
  pub rig : Rig P
  pub store : List Mark

abbrev pub agents : {P : Type 0} → Rig P → ℕ
agents g = length g.seats

-- sections

abbrev pub is_idle : Section → Bool
is_idle Idle = true
is_idle Asking = false
is_idle Holding = false
is_idle Leaving = false

abbrev pub is_asking : Section → Bool
is_asking Idle = false
is_asking Asking = true
is_asking Holding = false
is_asking Leaving = false

abbrev pub is_holding : Section → Bool
is_holding Idle = false
is_holding Asking = false
is_holding Holding = true
is_holding Leaving = false

-- an agent at rest cannot step
abbrev pub is_at_rest : Section → Bool
is_at_rest Idle = true
is_at_rest Asking = false
is_at_rest Holding = true
is_at_rest Leaving = false

-- which agent a call is for, and what a call asks of its section
abbrev pub agent_of : Event → ℕ
agent_of (Request k) = k
agent_of (Step k) = k
agent_of (Leave k) = k

abbrev pub section_check : Event → Section → Check
section_check (Request k) s = refuse_if (not (is_idle s)) (NotIdle k)
section_check (Step k) s = refuse_if (is_at_rest s) (AtRest k)
section_check (Leave k) s = refuse_if (not (is_holding s)) (NotHolding k)

-- all calls that a rig will hear
abbrev pub heard_at_most : ℕ
heard_at_most = 1000000

-- one thing after a check that passed, another after one that refused
abbrev pub after_check : {A : Type 0} → Check → A → A → A
after_check (Ok u) passed refused = passed
after_check (Err e) passed refused = refused

module _ {P : Type 0} where
  -- what the questions answer of one agent

  abbrev pub section_in : Option (Seat P) → Section
  section_in None = Idle
  section_in (Some s) = s.agent.section

  abbrev pub section_at : Rig P → ℕ → Section
  section_at g k = section_in (named g.seats k)

  abbrev pub figure_in : (Seat P → ℕ) → Option (Seat P) → ℕ
  figure_in f None = 0
  figure_in f (Some s) = f s

  abbrev pub figure_at : (Seat P → ℕ) → Rig P → ℕ → ℕ
  figure_at f g k = figure_in f (named g.seats k)

  abbrev pub asking_now : Rig P → ℕ
  asking_now g = count_names (λ k. is_asking (section_at g k)) (agents g)

  -- the lowest-numbered holding agent
  abbrev pub holder : Rig P → Option ℕ
  holder g = first_of (λ k. is_holding (section_at g k)) 1 (agents g)

  -- what the questions answer
  abbrev pub agent_check : Rig P → ℕ → Check
  agent_check g k = refuse_if (not (within 1 (agents g) k)) (NoSuchAgent k)

  abbrev pub section_answer : Rig P → ℕ → Result Section Refusal
  section_answer g k = agent_check g k then Ok (section_at g k)

  abbrev pub figures_answer : Rig P → ℕ → Result Figures Refusal
  figures_answer g k = agent_check g k then Ok (record {
    steps = figure_at (λ s. s.steps) g k;
    entries = figure_at (λ s. s.entries) g k;
    refused = figure_at (λ s. s.refused) g k;
    heard = g.heard;
    crowd = g.crowd;
  })

  abbrev pub cell_answer : World P → ℕ → Result Mark Refusal
  cell_answer w y = read_answer w.store y

  -- the rig with another seat for agent k
  abbrev pub seated : Rig P → ℕ → Seat P → Rig P
  seated g k s = record {
    cells = g.cells;
    seats = slice_set g.seats (k - 1) s;
    heard = g.heard;
    crowd = g.crowd;
    standoff = g.standoff;
  }

  -- one call more was heard
  abbrev pub heard_once : Rig P → Rig P
  heard_once g = record {
    cells = g.cells;
    seats = g.seats;
    heard = g.heard + 1;
    crowd = g.crowd;
    standoff = g.standoff;
  }

  -- one call more was heard, and the crowd may have grown
  abbrev pub counted : Rig P → Rig P
  counted g = record {
    cells = g.cells;
    seats = g.seats;
    heard = g.heard + 1;
    crowd = max g.crowd (asking_now g);
    standoff = g.standoff;
  }

  abbrev pub with_agent : Seat P → Agent P → Seat P
  with_agent s a = record {
    table = s.table;
    agent = a;
    steps = s.steps;
    entries = s.entries;
    refused = s.refused;
  }

  -- one step more, and one entry more if it ended in holding
  abbrev pub stepped : Seat P → Agent P → Seat P
  stepped s a = record {
    table = s.table;
    agent = a;
    steps = s.steps + 1;
    entries = s.entries + cond (is_holding a.section) 1 0;
    refused = s.refused;
  }

  abbrev pub refused_once : Seat P → Seat P
  refused_once s = record {
    table = s.table;
    agent = s.agent;
    steps = s.steps;
    entries = s.entries;
    refused = s.refused + 1;
  }

  -- the store's name for local name x
  abbrev pub entry : Seat P → ℕ → ℕ
  entry s x = slice_index s.table (x - 1)

  -- what the store answers to a want through the agent's table, and its marks afterwards
  abbrev pub served : ℕ → List Mark → Seat P → Want → Reply
  served m ms s Look = marks (listed (λ x. mark_at ms (entry s x)) m)
  served m ms s (Read x) = cell (mark_at ms (entry s x))
  served m ms s (Write x k) = done
  served m ms s (Swap x old new) = went (says_yes (swap_answer ms (entry s x) old new))

  abbrev pub store_after : List Mark → Seat P → Want → List Mark
  store_after ms s Look = ms
  store_after ms s (Read x) = ms
  store_after ms s (Write x k) = after_write ms (entry s x) k
  store_after ms s (Swap x old new) = after_swap ms (entry s x) old new

  -- a store refuses a name that it has not and a mark that is none; under a lawful rule over as many cells as the plan has, this never comes
  abbrev pub store_check : ℕ → List Mark → Seat P → Want → Check
  store_check m ms s Look = refuse_at (λ x. NoSuchCell (entry s x)) (first_of (λ x. not (within 1 (length ms) (entry s x))) 1 m)
  store_check m ms s (Read x) = name_check (length ms) (entry s x)
  store_check m ms s (Write x k) = write_answer ms (entry s x) k
  store_check m ms s (Swap x old new) = name_check (length ms) (entry s x) then mark_check old then mark_check new

  -- checked before the section: the agent is there, the rig is no stand-off, and there is a call left to hear
  abbrev pub hearing_check : Rig P → ℕ → Check
  hearing_check g k =
      agent_check g k then
      refuse_if (is_some g.standoff) OnStandoff then
      refuse_if (nat_le heard_at_most g.heard) HeardAll

  abbrev pub at_seat : {A : Type 0} → Option (Seat P) → (Seat P → A) → A → A
  at_seat None f otherwise = otherwise
  at_seat (Some s) f otherwise = f s

  module _ (R : Meaning P) where
    abbrev pub wanted : Rig P → Seat P → Want
    wanted g s = R.wants (agents g) g.cells s.agent

    -- what a step needs of the store
    abbrev pub serving_check : World P → Event → Seat P → Check
    serving_check w (Request k) s = Ok tt
    serving_check w (Step k) s = store_check w.rig.cells w.store s (wanted w.rig s)
    serving_check w (Leave k) s = Ok tt

    -- what a call answers
    abbrev pub answer : World P → Event → Check
    answer w e =
        hearing_check w.rig (agent_of e) then
        section_check e (section_at w.rig (agent_of e)) then
        at_seat (named w.rig.seats (agent_of e)) (serving_check w e) (Ok tt)

    -- what an accepted call does: that agent's record changes, and every other record stays
    abbrev pub done_by : World P → Event → Seat P → World P
    done_by w (Request k) s = record {
      rig = counted (seated w.rig k (with_agent s (R.asked (agents w.rig) w.rig.cells s.agent)));
      store = w.store;
    }
    done_by w (Step k) s = record {
      rig = counted (seated w.rig k (stepped s (R.becomes (agents w.rig) w.rig.cells s.agent (served w.rig.cells w.store s (wanted w.rig s)))));
      store = store_after w.store s (wanted w.rig s);
    }
    done_by w (Leave k) s = record {
      rig = counted (seated w.rig k (with_agent s (R.left (agents w.rig) w.rig.cells s.agent)));
      store = w.store;
    }

    -- an accepted call
    abbrev pub moved : World P → Event → World P
    moved w e = at_seat (named w.rig.seats (agent_of e)) (λ s. after_check (serving_check w e s) (done_by w e s) w) w

    -- a call refused for the section: it is heard, and counted for its agent
    abbrev pub turned_away : World P → Event → World P
    turned_away w e = at_seat (named w.rig.seats (agent_of e)) (λ s. record { rig = heard_once (seated w.rig (agent_of e) (refused_once s)); store = w.store }) w

    -- what the rig and its store are after a call
    abbrev pub after : World P → Event → World P
    after w e =
        after_check (hearing_check w.rig (agent_of e))
        (after_check (section_check e (section_at w.rig (agent_of e))) (moved w e) (turned_away w e))
        w

    -- a run: the calls one after another
    abbrev pub run : World P → List Event → World P
    run w [] = w
    run w (e ∷ es) = run (after w e) es
