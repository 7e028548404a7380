use Rattle.std.proofs.Common.{◌*◌}
use Rattle.element.specs.Cells.{cells, rows_of}
use Rattle.element.specs.Matrices.{resized}
use Rattle.tables.specs.Lent.{held}
use Rattle.meaning.specs.Values.{null_of}
use Rattle.tables.proofs.Changing.{changed_boolean, changed_character, changed_integer}
use Rattle.tables.proofs.lent.Tables.resize_matrix.Goals as goal

pub returns-in-Boolean-clause-value : goal.returns-in-Boolean-clause-value
returns-in-Boolean-clause-value c =
    let a = c.args in
    changed_boolean _ (held a.self.now) _ (λ k T. resized (null_of k) a.rows a.columns (rows_of a.r a.s (cells T a.from (a.r * a.s)))) c.in-Boolean.is c.resize_matrix.ensures

pub returns-in-Character-clause-value : goal.returns-in-Character-clause-value
returns-in-Character-clause-value c =
    let a = c.args in
    changed_character _ (held a.self.now) _ (λ k T. resized (null_of k) a.rows a.columns (rows_of a.r a.s (cells T a.from (a.r * a.s)))) c.in-Character.is c.resize_matrix-in-Character.ensures

pub returns-in-Integer-clause-value : goal.returns-in-Integer-clause-value
returns-in-Integer-clause-value c =
    let a = c.args in
    changed_integer _ (held a.self.now) _ (λ k T. resized (null_of k) a.rows a.columns (rows_of a.r a.s (cells T a.from (a.r * a.s)))) c.in-Integer.is c.resize_matrix-in-Integer.ensures
