use Rattle.std.proofs.Common.{◌*◌, max}
use Rattle.element.specs.Cells.{cells, rows_of}
use Rattle.element.specs.Matrices.{stacked}
use Rattle.tables.specs.Lent.{held}
use Rattle.meaning.specs.Values.{null_of}
use Rattle.tables.proofs.Changing.{changed_boolean, changed_character, changed_integer}
use Rattle.tables.proofs.lent.Tables.stack.Goals as goal

pub returns-in-Boolean-clause-value : goal.returns-in-Boolean-clause-value
returns-in-Boolean-clause-value c =
    let a = c.args in
    changed_boolean _ (held a.self.now) _ (λ k T. stacked (null_of k) (max a.s a.n) (rows_of a.r a.s (cells T a.a (a.r * a.s))) (cells T a.b a.n)) c.in-Boolean.is c.stack.ensures

pub returns-in-Character-clause-value : goal.returns-in-Character-clause-value
returns-in-Character-clause-value c =
    let a = c.args in
    changed_character _ (held a.self.now) _ (λ k T. stacked (null_of k) (max a.s a.n) (rows_of a.r a.s (cells T a.a (a.r * a.s))) (cells T a.b a.n)) c.in-Character.is c.stack-in-Character.ensures

pub returns-in-Integer-clause-value : goal.returns-in-Integer-clause-value
returns-in-Integer-clause-value c =
    let a = c.args in
    changed_integer _ (held a.self.now) _ (λ k T. stacked (null_of k) (max a.s a.n) (rows_of a.r a.s (cells T a.a (a.r * a.s))) (cells T a.b a.n)) c.in-Integer.is c.stack-in-Integer.ensures
