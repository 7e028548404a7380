use Rattle.std.proofs.Common.{vec_items}
use Rattle.checker.proofs.Structures.{structured}
use Rattle.checker.proofs.Unique.{noted_accepted}
use Rattle.checker.proofs.checked.CheckedSheet.lines.Goals as goal

pub returns : goal.returns
returns c =
    let s = c.args.self.now in
    let w = s.draft.head.width in
    let t = s.draft.head.result in
    let rows = vec_items s.draft.rows in
    let lines = vec_items s.lines in
    record { value = c.as_slice.ensures.value; structured = structured w t rows lines (noted_accepted w t rows lines s.long s.lawful s.noted) }
