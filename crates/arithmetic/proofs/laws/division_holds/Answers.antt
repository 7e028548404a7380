use Rattle.arithmetic.proofs.Divisions.{division}
use Rattle.arithmetic.proofs.laws.division_holds.Goals as goal

pub returns : goal.returns
returns c = division
