-- Check shows what each kind of row asks, and what the row's line says the row does.
use Rattle.std.proofs.Common.{sym, subst}
use Rattle.checker.specs.declared.line.Line.{Line}
use Rattle.instruction.specs.declared.instructions.Instruction.TheVariants.{Expression, Change, Control}
use Rattle.statements.specs.Ready.{Ready}
use Rattle.statements.proofs.Checked.{ready}
use Rattle.rows.specs.States.{state_at}
use Rattle.rows.proofs.Expressing.{acts_by, says_so}
use Rattle.rows.proofs.Sheets.{reads_under, reaches}
use Rattle.rows.proofs.working.work.Goals as goal

pub express-requires-clause-reads : goal.express-requires-clause-reads
express-requires-clause-reads g c =
    let a = c.args in
    reads_under a.lines.now a.frame.now.place.width a.head c.requires.sheet a.frame.now.place.row c.requires.inside c.in-Expression.expression
    (says_so a.lines.now a.frame.now.place.row c.line_of-line.result (Expression c.in-Expression.expression) c.line_of-line.ensures c.in-Expression.is)

pub change_row-requires-clause-reaches : goal.change_row-requires-clause-reaches
change_row-requires-clause-reaches g c =
    let a = c.args in
    reaches a.lines.now a.frame.now.place.width a.head c.requires.sheet a.frame.now.place.row c.requires.inside c.in-Change.change
    (says_so a.lines.now a.frame.now.place.row c.line_of-line.result (Change c.in-Change.change) c.line_of-line.ensures c.in-Change.is)

pub control_row-requires-clause-ready : goal.control_row-requires-clause-ready
control_row-requires-clause-ready g c =
    let a = c.args in
    let line = c.line_of-line in
    let own = ready a.lines.now a.frame.now.place.width a.head c.requires.sheet a.frame.now.place.row c.requires.inside c.in-Control.control
    (says_so a.lines.now a.frame.now.place.row line.result (Control c.in-Control.control) line.ensures c.in-Control.is) in
    subst (λ (l : Line). Ready a.lines.now a.frame.now.place.row l.target c.in-Control.control) (sym line.ensures) own

pub returns-in-Expression-clause-acts : goal.returns-in-Expression-clause-acts
returns-in-Expression-clause-acts g c =
    let a = c.args in
    let here = state_at a.frame.now a.intake.now (g.S.Source.waiting a.source.now) a.output.now in
    acts_by a.frame.now.place a.head a.lines.now c.line_of-line.result (Expression c.in-Expression.expression) here c.express.result _ c.line_of-line.ensures c.in-Expression.is (c.express.ensures.value here)

pub returns-in-Control-clause-acts : goal.returns-in-Control-clause-acts
returns-in-Control-clause-acts g c =
    let a = c.args in
    let here = state_at a.frame.now a.intake.now (g.S.Source.waiting a.source.now) a.output.now in
    acts_by a.frame.now.place a.head a.lines.now c.line_of-line.result (Control c.in-Control.control) here c.control_row.result _ c.line_of-line.ensures c.in-Control.is (c.control_row.ensures.value here)
