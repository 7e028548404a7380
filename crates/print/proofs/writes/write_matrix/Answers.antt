use Rattle.std.proofs.Common.{◌+◌, ◌*◌, arith, rules}
use Rattle.element.specs.Cells.{cells, rows_of}
use Rattle.element.proofs.Writes.{part_cells}
use Rattle.print.specs.Texts.{vector_text}
use Rattle.print.proofs.Spaces.{begun_more, begun_fits, begun_all, begun_end, row_is, length_rows}
use Rattle.print.proofs.writes.write_matrix.Goals as goal

pub write_gap-start-requires : goal.write_gap-start-requires
write_gap-start-requires g c =
    let a = c.args in
    let l = length_rows a.table.now a.at a.r a.s in
    let fit = begun_fits (vector_text g.E.Element.text) (rows_of a.r a.s (cells a.table.now a.at (a.r * a.s))) _ _ a.from _ _ _ _ (omega arith) c.loop-k.invariant (row_is a.table.now a.at a.r a.s c.loop-k.k (omega arith)) c.requires.fits in
    search rules

pub write_vector-end-requires : goal.write_vector-end-requires
write_vector-end-requires g c =
    let a = c.args in
    let l = length_rows a.table.now a.at a.r a.s in
    let fit = begun_fits (vector_text g.E.Element.text) (rows_of a.r a.s (cells a.table.now a.at (a.r * a.s))) _ _ a.from _ _ _ _ (omega arith) c.loop-k.invariant (row_is a.table.now a.at a.r a.s c.loop-k.k (omega arith)) c.requires.fits in
    search (rules, part_cells)

pub loop-k-preserved : goal.loop-k-preserved
loop-k-preserved g c =
    let a = c.args in
    let l = length_rows a.table.now a.at a.r a.s in
    let part = part_cells a.table.now (a.at + c.loop-k.k * a.s) a.s in
    begun_more _ _ _ _ _ _ _ _ _ _ _ _ (omega arith) (search rules) c.loop-k.invariant c.write_gap-start.ensures.written c.write_gap-start.ensures.end
    (rw part at c.write_vector-end.ensures.written) (rw part at c.write_vector-end.ensures.end) (row_is a.table.now a.at a.r a.s c.loop-k.k c.loop-k-test.true)

pub bounds-output-end : goal.bounds-output-end
bounds-output-end g c =
    let a = c.args in
    let l = length_rows a.table.now a.at a.r a.s in
    let all = begun_end _ _ _ _ a.from _ _ (omega arith) c.loop-k.invariant in search rules

pub returns : goal.returns
returns g c =
    let a = c.args in
    let l = length_rows a.table.now a.at a.r a.s in
    record {
      written = begun_all _ _ _ _ a.from _ _ (omega arith) c.requires.fits c.loop-k.invariant;
      end = begun_end _ _ _ _ a.from _ _ (omega arith) c.loop-k.invariant;
    }
