use Rattle.std.proofs.Common.{refl}
use Rattle.meaning.specs.Expressions.{by2}
use Rattle.meaning.specs.Changes.{assigned}
use Rattle.meaning.specs.States.{holding, value_in}
use Rattle.rows.proofs.Filling.{refilled}
use Rattle.tables.specs.Lent.{held}
use Rattle.rows.proofs.variables.assign.Goals as goal

pub returns-clause-value : goal.returns-clause-value
returns-clause-value c head s =
    let g = c.args in
    let t = held g.frame.now.tables in
    let done = c.assign_row-assigned in
    refilled g.frame.now.place g.v (holding s g.frame.now.slips.now t) (by2 g.frame.now.place.width (value_in g.frame.now.place.width g.frame.now.slips.now t) g.v g.a assigned) done.result _ c.proceed.result g.frame.now.slips.now done.ensures.filled c.proceed.ensures refl
