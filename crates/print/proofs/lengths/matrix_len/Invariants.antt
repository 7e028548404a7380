use Rattle.std.proofs.Common.{◌≡◌, ◌+◌, ◌-◌, ◌*◌, ◌≤◌, length, take}
use Rattle.std.specs.List.{sum_by}
use Rattle.element.specs.Cells.{cells, rows_of}
use Rattle.print.specs.Texts.{vector_text}
use Rattle.print.proofs.lengths.matrix_len.Given as goal

abbrev pub invariant-loop-k : goal.invariant-loop-k
invariant-loop-k g l = record {
  value : l.total ≡ 2 + (l.r - 1) + sum_by (λ x. length (vector_text g.E.Element.text x)) (take l.k (rows_of l.r l.s (cells l.table l.at (l.r * l.s))));
  small : l.total ≤ 2 + l.r + 67108864 * l.k;
}
