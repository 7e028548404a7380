use Rattle.std.proofs.Common.{◌/◌, length, vec_items, ◌∙◌, arith}
use Rattle.std.proofs.lemmas.List.{take_all}
use Rattle.sheet.proofs.Places.{joined_parts}
use Rattle.sheet.proofs.rows.read_rows.Goals as goal

pub returns-clause-bytes : goal.returns-clause-bytes
returns-clause-bytes c =
    let body = c.args.body.now in
    let whole = c.as_chunks.ensures in
    joined_parts (vec_items c.loop-part.rows) (length body / 20) body (omega arith) (c.loop-part.invariant.parts ∙ take_all c.loop-part.part-index c.as_chunks.result.0.now c.loop-part-test.false ∙ whole.front)
