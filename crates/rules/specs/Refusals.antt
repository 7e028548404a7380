-- The number of each refusal of check.
use Rattle.std.specs.Prelude.{ℕ}
use Rattle.rules.specs.declared.refusal.Refusal.{Refusal}
use Rattle.rules.specs.declared.refusal.Refusal.TheVariants.{NoRoom, Form, Operand, Block, Scope, Unfit, Sizes}

abbrev pub refusal_number : Refusal → ℕ
refusal_number NoRoom = 4
refusal_number Form = 5
refusal_number Operand = 6
refusal_number Block = 7
refusal_number Scope = 8
refusal_number Unfit = 9
refusal_number Sizes = 10
