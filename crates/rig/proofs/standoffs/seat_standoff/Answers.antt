use Rattle.std.proofs.Common.{rules}
use Rattle.model.specs.Loads.{standoff_seat}
use Rattle.model.specs.Meanings.{meaning_of}
use Rattle.rig.specs.Seating.{seated_in}
use Rattle.rig.proofs.SeatingLaws.{made_seated}
use Rattle.rig.proofs.standoffs.seat_standoff.Goals as goal

pub returns : goal.returns
returns g c =
    let z = c.args.turning.now in
    let made = c.fill.ensures.seats in
    let seated = made_seated (standoff_seat (meaning_of g.R.Rule) z.together z.cells) z.cells (seated_in c.fill.new.self) c.args.agents made.long
    (λ k a b. let one = made.each k a b in (one.0, one.1, search rules, search rules)) in
    record { seats = seated.0; fresh = seated.1 }
