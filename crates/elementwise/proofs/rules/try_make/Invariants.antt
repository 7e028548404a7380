use Rattle.std.proofs.Common.{length}
use Rattle.element.specs.Cells.{tabulate}
use Rattle.elementwise.proofs.Collects.{Sofar}
use Rattle.elementwise.proofs.rules.try_make.Given as goal

abbrev pub invariant-loop-k : goal.invariant-loop-k
invariant-loop-k g l = Sofar g.E.Element.NULL l.initial.target (tabulate (length l.initial.target) (g.R.Rule.gives l.rule l.source)) l.k l.target
