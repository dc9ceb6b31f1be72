use Rattle.std.proofs.Common.{rules, ℕ, ◌≤◌, cond, leb, arith}
use Rattle.model.specs.Loads.{turned}
use Rattle.rig.proofs.TableLaws.{made_filled, filled_front}
use Rattle.rig.proofs.standoffs.Turning.table.Goals as goal

pub returns : goal.returns
returns c =
    let z = c.args.self.now in
    let t = c.from_fn.result in
    let f : ℕ → ℕ = λ x. cond (leb c.args.agent z.together) (turned z.together z.cells c.args.agent x) x in
    let long = c.from_fn.ensures.items.long in
    let few : z.cells ≤ 64 = z.most in
    record { value = filled_front f t z.cells (omega (arith, long, few)) (made_filled _ f _ t 64 z.cells few long (λ i v q b k. search rules) c.from_fn.ensures.items.each) }
