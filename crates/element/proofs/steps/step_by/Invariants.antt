use Rattle.std.proofs.Common.{◌≡◌}
use lib.Seq.{paste}
use Rattle.element.specs.Cells.{cells}
use Rattle.element.specs.Steps.{stepped}
use Rattle.element.proofs.steps.step_by.Given as goal

abbrev pub invariant-loop-k : goal.invariant-loop-k
invariant-loop-k g l = l.target ≡ paste l.initial.target 0 (stepped g.E.Element.NULL l.step (cells l.below l.from l.n)) l.k
