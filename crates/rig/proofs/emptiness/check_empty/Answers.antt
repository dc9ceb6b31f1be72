use Rattle.std.proofs.Common.{◌≡◌, length, rules, tests, sym, ap, ◌∙◌, arith}
use Rattle.numbers.specs.First.{first_of}
use Rattle.numbers.proofs.SearchLaws.{find_inclusive}
use Rattle.refusal.specs.Checks.{refuse_at}
use Rattle.refusal.specs.declared.Refusal.TheVariants.{CellTaken}
use Rattle.rig.proofs.EmptyLaws.{differs, searched}
use Rattle.rig.proofs.emptiness.check_empty.Given as given
use Rattle.rig.proofs.emptiness.check_empty.Goals as goal
use Rattle.rig.proofs.emptiness.check_empty.Goals.{After-find}

-- the first cell that is not read as empty
found : (g : given.Over) (c : After-find g) → c.find.result ≡ first_of (differs (g.S.CellStore.marks c.args.store.now)) 1 c.args.cells
found g c =
    let ms = g.S.CellStore.marks c.args.store.now in
    let m = c.args.cells in
    find_inclusive (differs ms) c.new.result _ _ c.find.result 1 m m c.find.ensures.ran c.new.ensures.start c.new.ensures.end c.new.ensures.exhausted (omega arith) (λ x y q k. search (rules, tests))

long : (g : given.Over) (c : After-find g) → length (g.S.CellStore.marks c.args.store.now) ≡ c.args.cells
long g c = sym c.count.ensures.value ∙ c.if-count-cells.false

pub returns-in-Some : goal.returns-in-Some
returns-in-Some g c =
    let d = (goal.at.returns-in-Some g c).After-find in
    record { value = ap (refuse_at CellTaken) (sym c.in-Some.is ∙ found g d) ∙ searched _ _ (long g d) }

pub returns-in-None : goal.returns-in-None
returns-in-None g c =
    let d = (goal.at.returns-in-None g c).After-find in
    record { value = ap (refuse_at CellTaken) (sym c.in-None.is ∙ found g d) ∙ searched _ _ (long g d) }
