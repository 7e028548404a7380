use Rattle.std.proofs.Common.{to_z-of_z, w32, SFits, rules}
use Rattle.element.specs.Cells.{cells}
use Rattle.elementwise.specs.Products.{dot}
use Rattle.expressions.proofs.Multiplying.{dot_written}
use Rattle.expressions.proofs.products.write_dot.Goals as goal

pub returns : goal.returns
returns c =
    let a = c.args in
    let f : SFits w32 c.in_ok-sum.sum = search rules in
    simp to_z-of_z (dot_written (dot (cells a.integers.now a.a a.n) (cells a.integers.now a.b a.n)) a.integers.now a.to c.in_ok-sum.sum c.requires.within c.in_ok-sum.ensures)
