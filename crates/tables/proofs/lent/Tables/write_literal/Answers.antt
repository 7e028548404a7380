use Rattle.std.proofs.Common.{ℕ, ◌+◌, ◌<◌, ◌≤◌, arith, [], ◌∷◌, ◌∙◌, to_z-of_z, w8}
use borrow.Author.Rules.{sfits_of}
use Rattle.types.specs.declared.kinds.Kind.TheVariants.{Integer}
use Rattle.meaning.specs.Elements.{cast}
use Rattle.tables.specs.Lent.{held}
use Rattle.tables.proofs.Changing.{changed_boolean, changed_character, changed_integer, put_cell}
use Rattle.tables.proofs.lent.Tables.write_literal.Goals as goal

-- n + 1 is at most m
room : {n m : ℕ} → n + 1 ≤ m → n < m
room h = omega arith

pub returns-in-Boolean-clause-value : goal.returns-in-Boolean-clause-value
returns-in-Boolean-clause-value c =
    let a = c.args in
    let fits = c.ranges.n in
    changed_boolean _ (held a.self.now) a.to (λ k T. cast Integer k a.n ∷ []) c.in-Boolean.is (put_cell a.self.now.booleans.now a.to _ _ (room c.requires.within.booleans) (simp to_z-of_z at c.cast.ensures))

pub returns-in-Character-clause-value : goal.returns-in-Character-clause-value
returns-in-Character-clause-value c =
    let a = c.args in
    let fits = c.ranges.n in
    changed_character _ (held a.self.now) a.to (λ k T. cast Integer k a.n ∷ []) c.in-Character.is (put_cell a.self.now.characters.now a.to _ _ (room c.requires.within.characters) (to_z-of_z {w = w8} (sfits_of c.cast-in-Character.type_inv) ∙ simp to_z-of_z at c.cast-in-Character.ensures))

pub returns-in-Integer-clause-value : goal.returns-in-Integer-clause-value
returns-in-Integer-clause-value c =
    let a = c.args in
    let fits = c.ranges.n in
    changed_integer _ (held a.self.now) a.to (λ k T. cast Integer k a.n ∷ []) c.in-Integer.is (put_cell a.self.now.integers.now a.to _ _ (room c.requires.within.integers) (to_z-of_z fits))
