use Rattle.element.specs.Cells.{cells}
use Rattle.tables.specs.Lent.{held}
use Rattle.meaning.specs.Values.{null_of}
use Rattle.picks.specs.Indices.{first_outside, index_count, indices_of}
use Rattle.element.specs.Operands.{along}
use Rattle.picks.specs.Stores.{stored}
use Rattle.tables.proofs.Choosing.{chosen_boolean, chosen_character, chosen_integer}
use Rattle.tables.proofs.lent.Tables.store.Goals as goal

pub returns-in-Boolean-clause-value : goal.returns-in-Boolean-clause-value
returns-in-Boolean-clause-value c =
    let a = c.args in
    chosen_boolean _ (held a.self.now) a.to (λ k T. stored (cells T a.to a.have) (indices_of a.index a.self.now.integers.now) (along (null_of k) T a.values (index_count a.index))) _ (first_outside 1 a.have (indices_of a.index a.self.now.integers.now)) _ c.in-Boolean.is c.store.ensures

pub returns-in-Character-clause-value : goal.returns-in-Character-clause-value
returns-in-Character-clause-value c =
    let a = c.args in
    chosen_character _ (held a.self.now) a.to (λ k T. stored (cells T a.to a.have) (indices_of a.index a.self.now.integers.now) (along (null_of k) T a.values (index_count a.index))) _ (first_outside 1 a.have (indices_of a.index a.self.now.integers.now)) _ c.in-Character.is c.store-in-Character.ensures

pub returns-in-Integer-clause-value : goal.returns-in-Integer-clause-value
returns-in-Integer-clause-value c =
    let a = c.args in
    chosen_integer _ (held a.self.now) a.to (λ k T. stored (cells T a.to a.have) (indices_of a.index a.self.now.integers.now) (along (null_of k) T a.values (index_count a.index))) _ (first_outside 1 a.have (indices_of a.index a.self.now.integers.now)) _ c.in-Integer.is c.store-in-Integer.ensures
