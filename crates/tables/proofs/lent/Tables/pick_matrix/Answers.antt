use Rattle.std.proofs.Common.{◌*◌}
use Rattle.element.specs.Cells.{cells}
use Rattle.tables.specs.Lent.{held}
use Rattle.meaning.specs.Values.{null_of}
use Rattle.picks.specs.Indices.{first_outside2, indices_of}
use Rattle.picks.specs.Picks.{crossed}
use Rattle.tables.proofs.Choosing.{chosen_boolean, chosen_character, chosen_integer}
use Rattle.tables.proofs.lent.Tables.pick_matrix.Goals as goal

pub returns-in-Boolean-clause-value : goal.returns-in-Boolean-clause-value
returns-in-Boolean-clause-value c =
    let a = c.args in
    chosen_boolean _ (held a.self.now) a.to (λ k T. crossed (null_of k) a.s (cells T a.from (a.r * a.s)) (indices_of a.rows a.self.now.integers.now) (indices_of a.columns a.self.now.integers.now)) _ (first_outside2 a.r a.s (indices_of a.rows a.self.now.integers.now) (indices_of a.columns a.self.now.integers.now)) _ c.in-Boolean.is c.pick_matrix.ensures

pub returns-in-Character-clause-value : goal.returns-in-Character-clause-value
returns-in-Character-clause-value c =
    let a = c.args in
    chosen_character _ (held a.self.now) a.to (λ k T. crossed (null_of k) a.s (cells T a.from (a.r * a.s)) (indices_of a.rows a.self.now.integers.now) (indices_of a.columns a.self.now.integers.now)) _ (first_outside2 a.r a.s (indices_of a.rows a.self.now.integers.now) (indices_of a.columns a.self.now.integers.now)) _ c.in-Character.is c.pick_matrix-in-Character.ensures

pub returns-in-Integer-clause-value : goal.returns-in-Integer-clause-value
returns-in-Integer-clause-value c =
    let a = c.args in
    chosen_integer _ (held a.self.now) a.to (λ k T. crossed (null_of k) a.s (cells T a.from (a.r * a.s)) (indices_of a.rows a.self.now.integers.now) (indices_of a.columns a.self.now.integers.now)) _ (first_outside2 a.r a.s (indices_of a.rows a.self.now.integers.now) (indices_of a.columns a.self.now.integers.now)) _ c.in-Integer.is c.pick_matrix-in-Integer.ensures
