use Rattle.tables.specs.Lent.{held}
use Rattle.meaning.specs.Values.{null_of}
use Rattle.std.proofs.Common.{get_or, replicate}
use Rattle.tables.proofs.Changing.{changed_boolean, changed_character, changed_integer}
use Rattle.tables.proofs.lent.Tables.spread.Goals as goal

pub returns-in-Boolean-clause-value : goal.returns-in-Boolean-clause-value
returns-in-Boolean-clause-value c =
    let a = c.args in
    changed_boolean _ (held a.self.now) _ (λ k T. replicate a.n (get_or T a.from (null_of k))) c.in-Boolean.is c.spread_cell.ensures

pub returns-in-Character-clause-value : goal.returns-in-Character-clause-value
returns-in-Character-clause-value c =
    let a = c.args in
    changed_character _ (held a.self.now) _ (λ k T. replicate a.n (get_or T a.from (null_of k))) c.in-Character.is c.spread_cell-in-Character.ensures

pub returns-in-Integer-clause-value : goal.returns-in-Integer-clause-value
returns-in-Integer-clause-value c =
    let a = c.args in
    changed_integer _ (held a.self.now) _ (λ k T. replicate a.n (get_or T a.from (null_of k))) c.in-Integer.is c.spread_cell-in-Integer.ensures
