use Rattle.std.proofs.Common.{rules}
use Rattle.element.proofs.Lines.{stack_all}
use Rattle.element.proofs.matrices.stack.Goals as goal

pub returns : goal.returns
returns g c = search (rules, stack_all)
