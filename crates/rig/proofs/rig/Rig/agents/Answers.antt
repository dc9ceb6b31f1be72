use Rattle.std.proofs.Common.{sym, ◌∙◌}
use Rattle.std.proofs.lemmas.List.{length-map}
use Rattle.rig.specs.Seating.{seated_in}
use Rattle.rig.specs.Worlds.{seat_over}
use Rattle.rig.proofs.rig.Rig.agents.Goals as goal

pub returns : goal.returns
returns g c =
    let old = c.args.self.now in
    record { value = c.count.ensures.value ∙ sym (length-map (seated_in old.seats) (seat_over old.cells)); few = c.count.ensures.few }
