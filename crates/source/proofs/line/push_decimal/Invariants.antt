use Rattle.std.proofs.Common.{◌≡◌, ◌++◌, reverse, decimal}
use Rattle.source.proofs.line.push_decimal.Given as goal

abbrev pub invariant-loop-left : goal.invariant-loop-left
invariant-loop-left l = decimal l.left ++ reverse l.stack.items ≡ decimal l.initial.left ++ reverse l.initial.stack.items

abbrev pub decreases-loop-left : goal.decreases-loop-left
decreases-loop-left l = l.left
