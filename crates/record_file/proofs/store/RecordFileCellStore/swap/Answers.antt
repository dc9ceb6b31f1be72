use Rattle.std.proofs.Common.{cond, sym, refl, ap, ◌∙◌}
use Rattle.cells.specs.Marks.{same_mark}
use Rattle.cells.proofs.MarkLaws.{eq_is}
use Rattle.record_file.specs.Records.{put_record, start, encoded}
use Rattle.record_file.proofs.RecordLaws.{room, swapped}
use Rattle.record_file.proofs.store.RecordFileCellStore.swap.Goals as goal

pub mark_at-requires : goal.mark_at-requires
mark_at-requires c = room c.args.self.now.file.now c.count.result c.args.name c.count.ensures.value c.in_ok-check_name.ensures.value

pub put-requires : goal.put-requires
put-requires c = room c.args.self.now.file.now c.count.result c.args.name c.count.ensures.value c.in_ok-check_name.ensures.value

pub returns-then-found : goal.returns-then-found
returns-then-found c =
    let f = c.args.self.now.file.now in
    let y = c.args.name in
    let h =
    swapped f c.count.result y c.count.ensures.value c.in_ok-check_name.ensures.value c.args.old c.args.new c.eq-found.result c.put.new.self.file.now
    c.in_ok-check_mark.ensures.value c.in_ok-check_mark-2.ensures.value
    (c.eq-found.ensures ∙ eq_is _ c.args.old ∙ ap (λ k. same_mark k c.args.old) c.mark_at.ensures.value)
    (c.put.ensures.after ∙ sym (ap (λ b. cond b (put_record f (start y) (encoded c.args.new)) f) c.if-found.true))
    in
    record { value = h.value; after = h.after; same = c.put.ensures.same; bytes = h.bytes }

pub returns-else-found : goal.returns-else-found
returns-else-found c =
    let f = c.args.self.now.file.now in
    let y = c.args.name in
    let h =
    swapped f c.count.result y c.count.ensures.value c.in_ok-check_name.ensures.value c.args.old c.args.new c.eq-found.result f
    c.in_ok-check_mark.ensures.value c.in_ok-check_mark-2.ensures.value
    (c.eq-found.ensures ∙ eq_is _ c.args.old ∙ ap (λ k. same_mark k c.args.old) c.mark_at.ensures.value)
    (sym (ap (λ b. cond b (put_record f (start y) (encoded c.args.new)) f) c.if-found.false))
    in
    record { value = h.value; after = h.after; same = refl; bytes = h.bytes }
