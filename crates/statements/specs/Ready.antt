-- What a control row asks of the sheet that it stands in.
use Rattle.std.specs.Prelude.{ℕ, ◌<◌, List, length}
use Rattle.instruction.specs.declared.instructions.Control.{Control as Turn}
use Rattle.instruction.specs.declared.instructions.Control.TheVariants as control
use Rattle.instruction.specs.declared.instructions.Instruction.{Instruction}
use Rattle.instruction.specs.declared.instructions.Instruction.TheVariants.{Expression, Change, Control}
use Rattle.checker.specs.declared.line.Line.{Line}
use Rattle.checker.specs.Blocks.{at}

-- the domain of an each row i stands before it
abbrev pub TurnDomain : ℕ → Turn → Type 0
TurnDomain i (control.If a b) = Unit {0}
TurnDomain i (control.Else b) = Unit {0}
TurnDomain i (control.Loop b) = Unit {0}
TurnDomain i (control.Each a b) = a < i
TurnDomain i (control.Test a) = Unit {0}
TurnDomain i control.Break = Unit {0}
TurnDomain i control.Continue = Unit {0}
TurnDomain i (control.End b) = Unit {0}

abbrev pub DomainBefore : ℕ → Instruction → Type 0
DomainBefore i (Expression e) = Unit {0}
DomainBefore i (Change c) = Unit {0}
DomainBefore i (Control u) = TurnDomain i u

-- row p may go back to row i
pub record Reopens (lines : List Line) (p i : ℕ) : Type 0 where
  pub earlier : i < p
  pub inside : i < length lines
  pub domain : DomainBefore i (at lines i).instruction

-- operands stand before row p, and so does the opener that it goes back to
abbrev pub Ready : List Line → ℕ → ℕ → Turn → Type 0
Ready lines p target (control.If a b) = a < p
Ready lines p target (control.Else b) = Unit {0}
Ready lines p target (control.Loop b) = Unit {0}
Ready lines p target (control.Each a b) = a < p
Ready lines p target (control.Test a) = a < p
Ready lines p target control.Break = Unit {0}
Ready lines p target control.Continue = Reopens lines p target
Ready lines p target (control.End b) = Reopens lines p target
