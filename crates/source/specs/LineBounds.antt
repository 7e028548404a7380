-- A line in hand has no more bytes than a source may have.
use Rattle.std.specs.Prelude.{◌≤◌, length}
use Rattle.std.proofs.Common.{arith}
use Rattle.std.proofs.lemmas.List.{length-reverse}
use Rattle.source.specs.Lines.{left_of}
use Rattle.source.specs.declared.line.Line.{Line}

pub left_short : (l : Line) → length (left_of l) ≤ 16777216
left_short l = simp length-reverse (omega (arith, l.short))
