-- The blocks that a stack holds.
use Rattle.std.specs.Prelude.{ℕ, Bool, true, List, reverse, length, nat_lt}
use Rattle.instruction.specs.declared.instructions.Control.{Control as Turn}
use Rattle.instruction.specs.declared.instructions.Control.TheVariants as control
use Rattle.instruction.specs.declared.instructions.Instruction.{Instruction}
use Rattle.instruction.specs.declared.instructions.Instruction.TheVariants.{Expression, Change, Control}
use Rattle.checker.specs.declared.opened.Blocks.{Blocks}

-- innermost first
abbrev pub open_rows : Blocks → List ℕ
open_rows b = reverse b.rows.items

abbrev pub turn_fits : Turn → List ℕ → Bool
turn_fits (control.If a b) cs = nat_lt (length cs) 32
turn_fits (control.Else b) cs = true
turn_fits (control.Loop b) cs = nat_lt (length cs) 32
turn_fits (control.Each a b) cs = nat_lt (length cs) 32
turn_fits (control.Test a) cs = true
turn_fits control.Break cs = true
turn_fits control.Continue cs = true
turn_fits (control.End b) cs = true

-- a stack of 32 has a place for the block that the row opens, if it opens one
abbrev pub fits : Instruction → List ℕ → Bool
fits (Expression e) cs = true
fits (Change s) cs = true
fits (Control t) cs = turn_fits t cs
