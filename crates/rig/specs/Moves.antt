-- What a call changes, part by part. Assumes nothing.
use Rattle.std.specs.Prelude.{ℕ, ◌+◌, max, cond, List, Ok}
use Rattle.numbers.specs.Names.{named}
use Rattle.numbers.specs.declared.sizes.Sizes.{Sizes}
use Rattle.refusal.specs.Checks.{Check}
use Rattle.plan.specs.declared.event.Event.{Event}
use Rattle.plan.specs.declared.event.Event.TheVariants.{Request, Step, Leave}
use Rattle.cells.specs.declared.mark.Mark.{Mark}
use Rattle.rules.specs.declared.want.Want.{Want}
use Rattle.model.specs.Meanings.{Meaning}
use Rattle.model.specs.Rigs.{World, Seat, agent_of, is_holding, seated, heard_once, refused_once, at_seat, asking_now, serving_check, store_check, served, store_after, stepped, with_agent}
use Rattle.rig.specs.declared.seat.Seat as code

module _ {P : Type 0} where
  -- a call that is refused for the section of agent k
  abbrev pub away : World P → ℕ → World P
  away w k = at_seat (named w.rig.seats k) (λ s. record { rig = heard_once (seated w.rig k (refused_once s)); store = w.store }) w

  -- the crowd may have grown
  abbrev pub crowded : World P → World P
  crowded w = record {
    rig = record {
      cells = w.rig.cells;
      seats = w.rig.seats;
      heard = w.rig.heard;
      crowd = max w.rig.crowd (asking_now w.rig);
      standoff = w.rig.standoff;
    };
    store = w.store;
  }

  -- one step more, and one entry more if the agent holds now
  abbrev pub one_step_more : code.Seat P → code.Seat P
  one_step_more s = record {
    table = s.table;
    agent = s.agent;
    steps = s.steps + 1;
    entries = s.entries + cond (is_holding s.agent.section) 1 0;
    refused = s.refused;
  }

  -- what the store says to a call that is heard
  abbrev pub granted : Meaning P → World P → Event → Check
  granted R w e = at_seat (named w.rig.seats (agent_of e)) (serving_check R w e) (Ok tt)

  -- an accepted call, for its agent and the cells over so many agents and cells
  module _ (R : Meaning P) (z : Sizes) (ms : List Mark) where
    abbrev pub wanted_by : Seat P → Want
    wanted_by s = R.wants z.agents z.cells s.agent

    -- what it needs of the store
    abbrev pub needs : Event → Seat P → Check
    needs (Request k) s = Ok tt
    needs (Step k) s = store_check z.cells ms s (wanted_by s)
    needs (Leave k) s = Ok tt

    -- what becomes of its agent
    abbrev pub seat_after : Event → Seat P → Seat P
    seat_after (Request k) s = with_agent s (R.asked z.agents z.cells s.agent)
    seat_after (Step k) s = stepped s (R.becomes z.agents z.cells s.agent (served z.cells ms s (wanted_by s)))
    seat_after (Leave k) s = with_agent s (R.left z.agents z.cells s.agent)

    -- and of the cells
    abbrev pub cells_after : Event → Seat P → List Mark
    cells_after (Request k) s = ms
    cells_after (Step k) s = store_after ms s (wanted_by s)
    cells_after (Leave k) s = ms
