use Rattle.meaning.proofs.Rows.{within_small}
use Rattle.expressions.proofs.Writing.{room}
use Rattle.expressions.proofs.copies.variable_row.Goals as goal

pub copy-requires : goal.copy-requires
copy-requires c =
    let p = c.args.view.now.place in
    let s = within_small p.width c.in_ok-form.form c.in_ok-form.ensures.within in
    let m = room p c.args.tables.now c.args.a c.start_of-at.result c.start_of-to.result _ c.requires.ample c.requires.before c.start_of-at.ensures c.start_of-to.ensures s.elements in
    record { source = m.source; within = m.within }
