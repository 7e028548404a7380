use Rattle.types.specs.declared.kinds.Kind.TheVariants.{Boolean, Character, Integer}
use Rattle.element.specs.Cells.{cells}
use Rattle.tables.specs.Lent.{seen}
use Rattle.tables.proofs.Same.{same_in}
use Rattle.tables.proofs.lent.Shared.equal.Goals as goal

pub returns-in-Boolean : goal.returns-in-Boolean
returns-in-Boolean c =
    let a = c.args in
    same_in Boolean (seen a.self.now) (λ k T. cells T a.a a.n) (λ k T. cells T a.b a.n) _ c.in-Boolean.is c.equal.ensures

pub returns-in-Character : goal.returns-in-Character
returns-in-Character c =
    let a = c.args in
    same_in Character (seen a.self.now) (λ k T. cells T a.a a.n) (λ k T. cells T a.b a.n) _ c.in-Character.is c.equal-in-Character.ensures

pub returns-in-Integer : goal.returns-in-Integer
returns-in-Integer c =
    let a = c.args in
    same_in Integer (seen a.self.now) (λ k T. cells T a.a a.n) (λ k T. cells T a.b a.n) _ c.in-Integer.is c.equal-in-Integer.ensures
