use Rattle.laws.proofs.Rows.{rows_safe}
use Rattle.laws.proofs.theorems.checked_rows_are_safe.Goals as goal

pub returns : goal.returns
returns c = rows_safe
