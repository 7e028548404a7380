use Rattle.std.proofs.Common.{◌+◌}
use Rattle.print.proofs.Spaces.{Begun}
use Rattle.print.proofs.writes.write_vector.Given as goal

abbrev pub invariant-loop-k : goal.invariant-loop-k
invariant-loop-k g l = Begun g.E.Element.text l.vector l.initial.output (l.from + 1) l.k l.output l.end
