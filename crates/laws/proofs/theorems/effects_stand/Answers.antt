use Rattle.laws.proofs.Tables.{effects}
use Rattle.laws.proofs.theorems.effects_stand.Goals as goal

pub returns : goal.returns
returns c = effects
