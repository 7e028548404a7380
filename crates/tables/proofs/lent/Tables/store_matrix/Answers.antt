use Rattle.std.proofs.Common.{◌+◌, ◌*◌, [], ◌∷◌, get_or, set, to_z-of_z}
use Rattle.element.specs.Cells.{cells}
use Rattle.tables.specs.Lent.{held}
use Rattle.meaning.specs.Values.{null_of}
use Rattle.picks.specs.Indices.{first_outside2, place_of}
use Rattle.tables.proofs.Choosing.{chosen_boolean, chosen_character, chosen_integer}
use Rattle.tables.proofs.lent.Tables.store_matrix.Goals as goal

pub returns-in-Boolean-clause-value : goal.returns-in-Boolean-clause-value
returns-in-Boolean-clause-value c =
    let a = c.args in
    let fits-i = c.ranges.i in
    let fits-j = c.ranges.j in
    chosen_boolean _ (held a.self.now) a.to (λ k T. set (cells T a.to (a.r * a.s)) (place_of a.i * a.s + place_of a.j) (get_or T a.from (null_of k))) _ (first_outside2 a.r a.s (a.i ∷ []) (a.j ∷ [])) _ c.in-Boolean.is (simp to_z-of_z at c.store_cell.ensures)

pub returns-in-Character-clause-value : goal.returns-in-Character-clause-value
returns-in-Character-clause-value c =
    let a = c.args in
    let fits-i = c.ranges.i in
    let fits-j = c.ranges.j in
    chosen_character _ (held a.self.now) a.to (λ k T. set (cells T a.to (a.r * a.s)) (place_of a.i * a.s + place_of a.j) (get_or T a.from (null_of k))) _ (first_outside2 a.r a.s (a.i ∷ []) (a.j ∷ [])) _ c.in-Character.is (simp to_z-of_z at c.store_cell-in-Character.ensures)

pub returns-in-Integer-clause-value : goal.returns-in-Integer-clause-value
returns-in-Integer-clause-value c =
    let a = c.args in
    let fits-i = c.ranges.i in
    let fits-j = c.ranges.j in
    chosen_integer _ (held a.self.now) a.to (λ k T. set (cells T a.to (a.r * a.s)) (place_of a.i * a.s + place_of a.j) (get_or T a.from (null_of k))) _ (first_outside2 a.r a.s (a.i ∷ []) (a.j ∷ [])) _ c.in-Integer.is (simp to_z-of_z at c.store_cell-in-Integer.ensures)
