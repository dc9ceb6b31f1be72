use Rattle.std.proofs.Common.{rules, subst}
use Rattle.plan.specs.Plans.{model}
use Rattle.model.specs.Loads.{seat_of}
use Rattle.model.specs.Meanings.{meaning_of}
use Rattle.rig.specs.Seating.{seated_in}
use Rattle.rig.proofs.SeatingLaws.{Seated, made_seated}
use Rattle.rig.proofs.loads.seat_planned.Goals as goal

pub returns : goal.returns
returns g c =
    let p = model c.args.plan.now in
    let f = seat_of (meaning_of g.R.Rule) p in
    let made = c.fill.ensures.seats in
    let all = made_seated f p.cells (seated_in c.fill.new.self) c.agents.result made.long
    (λ k a b. let one = made.each k a b in (one.0, one.1, search rules, search rules)) in
    let seated = subst (Seated f p.cells (seated_in c.fill.new.self)) c.agents.ensures.value all in
    record { seats = seated.0; fresh = seated.1 }
