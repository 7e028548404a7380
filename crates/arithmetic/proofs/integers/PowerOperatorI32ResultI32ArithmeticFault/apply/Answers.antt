use Rattle.std.proofs.Common.{rules}
use Rattle.arithmetic.proofs.Powers.{power_repeats}
use Rattle.arithmetic.proofs.integers.PowerOperatorI32ResultI32ArithmeticFault.apply.Goals as goal

pub returns : goal.returns
returns c = search (rules, power_repeats)
