use Rattle.std.proofs.Common.{◌≡◌, vec_items, vec_capacity}
use Rattle.checker.specs.Stack.{open_rows}
use Rattle.checker.proofs.Checks.{Checking}
use Rattle.checker.proofs.checking.check_rows.Given as goal

abbrev pub invariant-loop-p : goal.invariant-loop-p
invariant-loop-p l = Checking l.head.width l.head.result l.rows (vec_items l.lines) (open_rows l.blocks) l.start l.p × (vec_capacity l.lines ≡ vec_capacity l.initial.lines)
