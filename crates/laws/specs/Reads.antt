-- The rows whose values an instruction uses: its operands, and the variable that it reads or writes.
use Rattle.std.specs.Prelude.{ℕ, ◌<◌, List, [], ◌∷◌, Some, None, Option}
use Rattle.instruction.specs.declared.instructions.Expression.{Expression as Make}
use Rattle.instruction.specs.declared.instructions.Expression.TheVariants as make
use Rattle.instruction.specs.declared.instructions.Change.{Change as Changes}
use Rattle.instruction.specs.declared.instructions.Change.TheVariants as change
use Rattle.instruction.specs.declared.instructions.Control.{Control as Turn}
use Rattle.instruction.specs.declared.instructions.Control.TheVariants as control
use Rattle.instruction.specs.declared.instructions.Instruction.{Instruction}
use Rattle.instruction.specs.declared.instructions.Instruction.TheVariants.{Expression, Change, Control}
use Rattle.checker.specs.declared.line.Line.{Line}
use Rattle.checker.specs.Blocks.{at}

abbrev pub make_reads : Make → List ℕ
make_reads (make.Literal k n) = []
make_reads (make.Empty k) = []
make_reads (make.Variable v) = v ∷ []
make_reads (make.Prefix o a) = a ∷ []
make_reads (make.Infix o a b) = a ∷ b ∷ []
make_reads (make.Interval a b) = a ∷ b ∷ []
make_reads (make.Stack a b) = a ∷ b ∷ []
make_reads (make.Pick a b) = a ∷ b ∷ []
make_reads (make.PickTwo a b c) = a ∷ b ∷ c ∷ []
make_reads (make.Measure m a) = a ∷ []
make_reads (make.Cast k a) = a ∷ []
make_reads (make.Resize a r s) = a ∷ []
make_reads make.State = []

abbrev pub start_reads : Option ℕ → List ℕ
start_reads None = []
start_reads (Some a) = a ∷ []

abbrev pub change_reads : Changes → List ℕ
change_reads (change.Declare t v) = start_reads v
change_reads (change.Assign i a) = i ∷ a ∷ []
change_reads (change.Store i b c) = i ∷ b ∷ c ∷ []
change_reads (change.StoreTwo i b c d) = i ∷ b ∷ c ∷ d ∷ []
change_reads (change.Print a) = a ∷ []
change_reads (change.Read i) = i ∷ []
change_reads (change.Return a) = a ∷ []

-- ---- end and continue, by their opener, row i: an each is taken on, which asks for its element and its domain
abbrev pub resume_reads : ℕ → Turn → List ℕ
resume_reads i (control.If a b) = []
resume_reads i (control.Else b) = []
resume_reads i (control.Loop b) = []
resume_reads i (control.Each a b) = i ∷ a ∷ []
resume_reads i (control.Test a) = []
resume_reads i control.Break = []
resume_reads i control.Continue = []
resume_reads i (control.End b) = []

abbrev pub reopen_reads : ℕ → Instruction → List ℕ
reopen_reads i (Expression e) = []
reopen_reads i (Change c) = []
reopen_reads i (Control u) = resume_reads i u

abbrev pub turn_reads : List Line → ℕ → Turn → List ℕ
turn_reads lines target (control.If a b) = a ∷ []
turn_reads lines target (control.Else b) = []
turn_reads lines target (control.Loop b) = []
turn_reads lines target (control.Each a b) = a ∷ []
turn_reads lines target (control.Test a) = a ∷ []
turn_reads lines target control.Break = []
turn_reads lines target control.Continue = reopen_reads target (at lines target).instruction
turn_reads lines target (control.End b) = reopen_reads target (at lines target).instruction

-- by a row's lines, its target and what it says
abbrev pub reads : List Line → ℕ → Instruction → List ℕ
reads lines target (Expression e) = make_reads e
reads lines target (Change c) = change_reads c
reads lines target (Control u) = turn_reads lines target u

-- each of these rows is one of the first n
abbrev pub AllUnder : ℕ → List ℕ → Type 0
AllUnder n [] = Unit {0}
AllUnder n (i ∷ is) = (i < n) × AllUnder n is
