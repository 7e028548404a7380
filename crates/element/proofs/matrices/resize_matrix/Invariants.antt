use Rattle.std.proofs.Common.{◌≡◌, ◌*◌, take}
use Rattle.element.specs.Cells.{put, cells, joined, rows_of}
use Rattle.element.specs.Matrices.{resized_rows}
use Rattle.element.proofs.matrices.resize_matrix.Given as goal

abbrev pub invariant-loop-k : goal.invariant-loop-k
invariant-loop-k g l = l.table ≡ put l.initial.table l.to (joined (take l.k (resized_rows g.E.Element.NULL l.rows l.columns (rows_of l.r l.s (cells l.initial.table l.from (l.r * l.s))))))
