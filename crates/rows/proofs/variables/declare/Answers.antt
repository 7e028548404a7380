use Rattle.meaning.specs.States.{holding}
use Rattle.rows.proofs.Filling.{begins_with}
use Rattle.tables.specs.Lent.{held}
use Rattle.rows.proofs.variables.declare.Goals as goal

pub returns-clause-value : goal.returns-clause-value
returns-clause-value c s =
    let g = c.args in
    let t = held g.frame.now.tables in
    begins_with g.frame.now.place g.w g.start (holding s g.frame.now.slips.now t) c.begin-declared.result _ c.proceed.result c.note.new.slips c.begin-declared.ensures.filled c.proceed.ensures c.note.ensures
