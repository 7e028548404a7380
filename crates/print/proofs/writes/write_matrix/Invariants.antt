use Rattle.std.proofs.Common.{◌+◌, ◌*◌}
use Rattle.element.specs.Cells.{cells, rows_of}
use Rattle.print.specs.Texts.{vector_text}
use Rattle.print.proofs.Spaces.{Begun}
use Rattle.print.proofs.writes.write_matrix.Given as goal

abbrev pub invariant-loop-k : goal.invariant-loop-k
invariant-loop-k g l =
    Begun (vector_text g.E.Element.text) (rows_of l.r l.s (cells l.table l.at (l.r * l.s))) l.initial.output (l.from + 1) l.k l.output l.end
