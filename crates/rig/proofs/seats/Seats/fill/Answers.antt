use Rattle.std.proofs.Common.{◌≡◌, ◌+◌, ◌-◌, sym, subst, arith}
use Rattle.rig.specs.Seating.{seated_in, MadeOf}
use Rattle.rig.proofs.SeatingLaws.{made_more}
use Rattle.rig.proofs.seats.Seats.fill.Goals as goal
use Rattle.rig.proofs.seats.Seats.fill.Goals.{else-loop-agent-test, then-loop-agent-test+else-agent-agents}

pub loop-agent-preserved : goal.loop-agent-preserved
loop-agent-preserved g c =
    let k = c.loop-agent.agent in
    let back : k + 1 - 1 ≡ k = omega arith in
    let more = made_more (goal.F-post g c.args.made) (seated_in c.loop-agent.self) (seated_in c.add.new.self) c.made.result k c.loop-agent.auto.agent c.add.ensures.after c.made.ensures c.loop-agent.invariant.made in
    record { made = subst (MadeOf (goal.F-post g c.args.made) (seated_in c.add.new.self)) (sym back) more; in_range = omega arith }

pub returns : goal.returns
returns g c =
    let made = goal.F-post g c.args.made in
    elim c.loop-agent-test.branch [
      | else-loop-agent-test w ↦
          let end : c.loop-agent.agent - 1 ≡ c.args.agents = omega (arith, w.loop-agent-test.false) in
          record { seats = subst (MadeOf made (seated_in c.loop-agent-test.self)) end (subst (λ s. MadeOf made (seated_in s) (c.loop-agent.agent - 1)) (sym w.self-is) c.loop-agent.invariant.made) }
      | then-loop-agent-test+else-agent-agents w ↦
          let end : c.loop-agent.agent ≡ c.args.agents = omega (arith, w.loop-agent-test.true) in
          let more = made_more made (seated_in c.loop-agent.self) (seated_in w.add.new.self) w.made.result c.loop-agent.agent c.loop-agent.auto.agent w.add.ensures.after w.made.ensures c.loop-agent.invariant.made in
          record { seats = subst (MadeOf made (seated_in c.loop-agent-test.self)) end (subst (λ s. MadeOf made (seated_in s) c.loop-agent.agent) (sym w.self-is) more) }
    ]
