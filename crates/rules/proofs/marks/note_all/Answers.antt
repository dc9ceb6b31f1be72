use Rattle.std.proofs.Common.{◌++◌, drop, ap, ◌∙◌}
use Rattle.rules.proofs.ListLaws.{overlaid_is}
use Rattle.rules.proofs.marks.note_all.Goals as goal

pub returns : goal.returns
returns c =
    let old = c.args.list.now in
    let room = c.min-room.result in
    record { after = ap (λ ks. ks ++ drop room old) c.copy_from_slice.ensures.after ∙ overlaid_is c.args.marks.now old room c.min-room.ensures }
