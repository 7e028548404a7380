use Rattle.std.proofs.Common.{◌≡◌, length}
use lib.Seq.{paste}
use Rattle.element.specs.Cells.{tabulate}
use Rattle.elementwise.proofs.rules.make.Given as goal

abbrev pub invariant-loop-k : goal.invariant-loop-k
invariant-loop-k g l = l.target ≡ paste l.initial.target 0 (tabulate (length l.initial.target) (g.R.Rule.gives l.rule l.source)) l.k
