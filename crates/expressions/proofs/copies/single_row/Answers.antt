use Rattle.expressions.proofs.Writing.{room}
use Rattle.expressions.proofs.copies.single_row.Goals as goal

pub copy-requires : goal.copy-requires
copy-requires c =
    let p = c.args.view.now.place in
    let m = room p c.args.tables.now c.args.a c.start_of-at.result c.start_of-to.result c.area.result c.requires.ample c.requires.before c.start_of-at.ensures c.start_of-to.ensures c.area.ensures.small in
    record { source = m.source; within = m.within }
