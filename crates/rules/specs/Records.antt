-- Records of agents, and what the cells answer them. Assumes nothing.
use Rattle.std.specs.Prelude.{ℕ, Bool, false, List, [], ◌∷◌, take, replicate}
use Rattle.cells.specs.declared.mark.Mark.{Mark}
use Rattle.cells.specs.declared.mark.Mark.TheVariants.{Empty, Owner}
use Rattle.rules.specs.declared.agent.Agent.{Agent}
use Rattle.rules.specs.declared.agent.Section.{Section}
use Rattle.rules.specs.declared.agent.Section.TheVariants.{Idle}
use Rattle.rules.specs.declared.answer.Answer.{Answer}
use Rattle.rules.specs.declared.answer.Answer.TheVariants.{Marks, Cell, Done, Went}

-- an answer, by what it holds
pub data Reply : Type 0 where
  marks : List Mark → Reply
  cell : Mark → Reply
  done : Reply
  went : Bool → Reply

abbrev pub reply_of : Answer → Reply
reply_of (Marks ms) = marks ms.now
reply_of (Cell k) = cell k
reply_of Done = done
reply_of (Went b) = went b

-- marks put at the front of others, as far as there is room
abbrev pub overlaid : List Mark → List Mark → List Mark
overlaid [] old = old
overlaid (k ∷ ks) [] = []
overlaid (k ∷ ks) (o ∷ old) = k ∷ overlaid ks old

-- an agent as a load leaves it: idle, at local name 1, rung 0, nothing seen and no flag set
abbrev pub loaded_agent : {P : Type 0} → P → ℕ → Agent P
loaded_agent p i = record {
  section = Idle;
  identity = i;
  phase = p;
  name = 1;
  rung = 0;
  seen = replicate 64 Empty;
  flags = replicate 64 false;
}

module _ {P : Type 0} (a : Agent P) where
  -- the agent's own mark
  abbrev pub own : Mark
  own = Owner a.identity

  -- what was seen at the names 1 to m, and the flags there
  abbrev pub seen_at : ℕ → List Mark
  seen_at m = take m a.seen

  abbrev pub flags_at : ℕ → List Bool
  flags_at m = take m a.flags

  -- the same record but for section, phase and name; for the rung; for the marks seen; for the flags
  abbrev pub going : Section → P → ℕ → Agent P
  going s p x = record {
    section = s;
    identity = a.identity;
    phase = p;
    name = x;
    rung = a.rung;
    seen = a.seen;
    flags = a.flags;
  }

  abbrev pub on_rung : ℕ → Agent P
  on_rung r = record {
    section = a.section;
    identity = a.identity;
    phase = a.phase;
    name = a.name;
    rung = r;
    seen = a.seen;
    flags = a.flags;
  }

  abbrev pub having_seen : List Mark → Agent P
  having_seen ms = record {
    section = a.section;
    identity = a.identity;
    phase = a.phase;
    name = a.name;
    rung = a.rung;
    seen = ms;
    flags = a.flags;
  }

  abbrev pub flagged : List Bool → Agent P
  flagged fs = record {
    section = a.section;
    identity = a.identity;
    phase = a.phase;
    name = a.name;
    rung = a.rung;
    seen = a.seen;
    flags = fs;
  }
