use Rattle.std.proofs.Common.{arith}
use Rattle.element.specs.Cells.{cells}
use Rattle.element.proofs.Writes.{length_cells}
use Rattle.print.proofs.Spaces.{length_vector, texts_le}
use Rattle.print.proofs.lengths.vector_fits.Goals as goal

pub returns-then-n-LONGEST : goal.returns-then-n-LONGEST
returns-then-n-LONGEST g c =
    let a = c.args in
    let xs = cells a.table.now a.at a.n in
    let le = texts_le g.E.Element.text g.E.Element.LONGEST g.met.E.Element.brief xs in
    grind (arith, length_vector g.E.Element.text xs, length_cells a.table.now a.at a.n c.requires.within)
