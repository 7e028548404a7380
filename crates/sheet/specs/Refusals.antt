-- The number of each refusal.
use Rattle.std.specs.Prelude.{ℕ}
use Rattle.sheet.specs.declared.refusal.Refusal.{Refusal}
use Rattle.sheet.specs.declared.refusal.Refusal.TheVariants.{NotASheet, BadLayout, BadHead, NoRoom}

abbrev pub refusal_number : Refusal → ℕ
refusal_number NotASheet = 1
refusal_number BadLayout = 2
refusal_number BadHead = 3
refusal_number NoRoom = 4
