use Rattle.laws.proofs.Sheets.{accepted_safe}
use Rattle.laws.proofs.theorems.accepted_rows_are_safe.Goals as goal

pub returns : goal.returns
returns c = accepted_safe
