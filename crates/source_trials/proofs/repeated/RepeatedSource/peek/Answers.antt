use Rattle.std.proofs.Common.{arith}
use Rattle.source_trials.proofs.Repeating.{first_repeated}
use Rattle.source_trials.proofs.repeated.RepeatedSource.peek.Goals as goal

pub returns-then-self-gt0 : goal.returns-then-self-gt0
returns-then-self-gt0 c = first_repeated _ _ (omega arith)
