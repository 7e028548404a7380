use Rattle.std.proofs.Common.{◌*◌, length, ap, arith}
use Rattle.std.specs.List.{sum_by}
use Rattle.std.proofs.lemmas.List.{take_all}
use Rattle.element.specs.Cells.{cells, rows_of}
use Rattle.print.specs.Texts.{vector_text}
use Rattle.print.proofs.Spaces.{rows_more, length_rows, length_vector}
use Rattle.print.proofs.lengths.matrix_len.Goals as goal

pub loop-k-preserved : goal.loop-k-preserved
loop-k-preserved g c =
    let a = c.args in
    let more = rows_more a.table.now a.at a.r a.s g.E.Element.text c.loop-k.k c.loop-k-test.true in
    record { value = omega arith; small = omega arith }

pub returns : goal.returns
returns g c =
    let a = c.args in
    let text = vector_text g.E.Element.text in
    let rows = rows_of a.r a.s (cells a.table.now a.at (a.r * a.s)) in
    let l = length_rows a.table.now a.at a.r a.s in
    let all = ap (λ xs. sum_by (λ x. length (text x)) xs) (take_all c.loop-k.k rows (omega arith)) in
    omega (arith, length_vector text rows)
