use Rattle.std.proofs.Common.{rules, ℕ, unwrap_or, arith}
use Rattle.plan.specs.Plans.{entry_named, plan_at}
use Rattle.rig.proofs.TableLaws.{made_filled, entry_planned, table_planned}
use Rattle.rig.proofs.loads.table_of.Goals as goal

pub returns : goal.returns
returns c =
    let p = c.args.plan.now in
    let h = p.draft.header in
    let f : ℕ → ℕ = λ x. unwrap_or (entry_named (plan_at h p.draft.file.now) c.args.agent x) 0 in
    let long = c.from_fn.ensures.items.long in
    let few = c.requires.cells in
    let filled = made_filled _ f _ c.from_fn.result 64 h.cells few long (λ i v q b k. search rules) c.from_fn.ensures.items.each in
    record {
      value =
          table_planned h p.draft.file.now c.args.agent c.requires.first c.requires.last c.from_fn.result (omega arith)
          (λ x a b. entry_planned h p.draft.file.now c.args.agent c.requires.first c.requires.last x _ a b (filled x a b));
    }
