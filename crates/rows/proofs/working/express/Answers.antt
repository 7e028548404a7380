use Rattle.meaning.specs.Expressions.{evaluated}
use Rattle.meaning.specs.States.{value_in, holding}
use Rattle.meaning.proofs.Within.{evaluated_within}
use Rattle.statements.proofs.Settling.{settles}
use Rattle.rows.proofs.Expressing.{told_within}
use Rattle.tables.specs.Lent.{held}
use Rattle.rows.proofs.working.express.Goals as goal

pub settle-requires : goal.settle-requires
settle-requires c =
    let g = c.args in
    let t = held g.frame.now.tables in
    let at = value_in g.frame.now.place.width g.frame.now.slips.now t in
    record {
      row = c.requires.row;
      within = told_within g.frame.now.place (evaluated g.frame.now.place.width at g.stream g.expression) t _ c.evaluate-made.result (evaluated_within g.frame.now.place.width at g.stream g.expression) c.evaluate-made.ensures.made;
    }

pub returns-clause-value : goal.returns-clause-value
returns-clause-value c s =
    let g = c.args in
    let t = held g.frame.now.tables in
    settles g.frame.now.place (holding s g.frame.now.slips.now t) (evaluated g.frame.now.place.width (value_in g.frame.now.place.width g.frame.now.slips.now t) g.stream g.expression) c.evaluate-made.result _ c.settle.result c.settle.new.slips c.evaluate-made.ensures.made c.settle.ensures.answer
    c.settle.ensures.slips
