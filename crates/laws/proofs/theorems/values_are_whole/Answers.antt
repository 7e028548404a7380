use Rattle.laws.proofs.Wholes.{wholes}
use Rattle.laws.proofs.theorems.values_are_whole.Goals as goal

pub returns : goal.returns
returns c = wholes
