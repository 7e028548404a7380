use Rattle.std.proofs.Common.{◌≡◌, pos}
use lib.Seq.{paste}
use Rattle.element.specs.Steps.{stepped}
use Rattle.picks.specs.Indices.{between}
use Rattle.picks.proofs.intervals.step_interval.Given as goal

abbrev pub invariant-loop-k : goal.invariant-loop-k
invariant-loop-k l = l.target ≡ paste l.initial.target 0 (stepped (pos 0) l.step (between l.low l.high)) l.k
