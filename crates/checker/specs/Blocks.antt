-- What earlier rows mean for a row: operands, open blocks, variables in scope, jumps.
use Rattle.std.specs.Prelude.{ℕ, zero, suc, Bool, true, false, not, ◌&&◌, ◌||◌, List, [], ◌∷◌, length, is_some, Some, None, Option, ◌==◌, nat_lt, slice_index_or}
use Rattle.std.specs.List.{find}
use Rattle.types.specs.declared.kinds.Kind.TheVariants.{Integer}
use Rattle.types.specs.declared.typing.Typing.{Typing}
use Rattle.checker.specs.declared.line.Line.{Line}
use Rattle.instruction.specs.declared.instructions.Expression.{Expression as Make}
use Rattle.instruction.specs.declared.instructions.Expression.TheVariants as make
use Rattle.instruction.specs.declared.instructions.Change.{Change as Changes}
use Rattle.instruction.specs.declared.instructions.Change.TheVariants as change
use Rattle.instruction.specs.declared.instructions.Control.{Control as Turn}
use Rattle.instruction.specs.declared.instructions.Control.TheVariants as control
use Rattle.instruction.specs.declared.instructions.Instruction.{Instruction}
use Rattle.instruction.specs.declared.instructions.Instruction.TheVariants.{Expression, Change, Control}
use Rattle.types.specs.Typings.{scalar}

-- ---- rows
abbrev pub past_end : Line
past_end = record { instruction = Change (change.Return 0); typing = None; block = None; target = 0 }

abbrev pub at : List Line → ℕ → Line
at lines i = slice_index_or lines i past_end

abbrev pub typing_of : Option Typing → Typing
typing_of None = scalar Integer
typing_of (Some t) = t

-- what is noted of row i
abbrev pub typing_at : List Line → ℕ → Typing
typing_at lines i = typing_of (at lines i).typing

abbrev pub makes : Instruction → Bool
makes (Expression e) = true
makes (Change s) = false
makes (Control t) = false

-- ---- operands
abbrev pub start_operand : Option ℕ → List ℕ
start_operand None = []
start_operand (Some a) = a ∷ []

abbrev pub make_operands : Make → List ℕ
make_operands (make.Literal k n) = []
make_operands (make.Empty k) = []
make_operands (make.Variable v) = []
make_operands (make.Prefix o a) = a ∷ []
make_operands (make.Infix o a b) = a ∷ b ∷ []
make_operands (make.Interval a b) = a ∷ b ∷ []
make_operands (make.Stack a b) = a ∷ b ∷ []
make_operands (make.Pick a b) = a ∷ b ∷ []
make_operands (make.PickTwo a b c) = a ∷ b ∷ c ∷ []
make_operands (make.Measure m a) = a ∷ []
make_operands (make.Cast k a) = a ∷ []
make_operands (make.Resize a r s) = a ∷ []
make_operands make.State = []

abbrev pub change_operands : Changes → List ℕ
change_operands (change.Declare t v) = start_operand v
change_operands (change.Assign v a) = a ∷ []
change_operands (change.Store v b c) = b ∷ c ∷ []
change_operands (change.StoreTwo v b c d) = b ∷ c ∷ d ∷ []
change_operands (change.Print a) = a ∷ []
change_operands (change.Read v) = []
change_operands (change.Return a) = a ∷ []

abbrev pub turn_operands : Turn → List ℕ
turn_operands (control.If a b) = a ∷ []
turn_operands (control.Else b) = []
turn_operands (control.Loop b) = []
turn_operands (control.Each a b) = a ∷ []
turn_operands (control.Test a) = a ∷ []
turn_operands control.Break = []
turn_operands control.Continue = []
turn_operands (control.End b) = []

-- the rows whose values an instruction takes
abbrev pub operands : Instruction → List ℕ
operands (Expression e) = make_operands e
operands (Change s) = change_operands s
operands (Control t) = turn_operands t

abbrev pub all : (ℕ → Bool) → List ℕ → Bool
all f [] = true
all f (x ∷ xs) = f x && all f xs

-- the test passes at each number below n
abbrev pub below : (ℕ → Bool) → ℕ → Bool
below f zero = true
below f (suc n) = f n && below f n

-- row a stands before row p, with only expression rows from a to p
abbrev pub near : List Line → ℕ → ℕ → Bool
near lines p a = nat_lt a p && below (λ i. nat_lt i a || makes (at lines i).instruction) p

-- ---- blocks
-- all but the innermost
abbrev pub outer : List ℕ → List ℕ
outer [] = []
outer (c ∷ cs) = cs

abbrev pub turned : Turn → ℕ → List ℕ → List ℕ
turned (control.If a b) p cs = p ∷ cs
turned (control.Else b) p cs = p ∷ outer cs
turned (control.Loop b) p cs = p ∷ cs
turned (control.Each a b) p cs = p ∷ cs
turned (control.Test a) p cs = cs
turned control.Break p cs = cs
turned control.Continue p cs = cs
turned (control.End b) p cs = outer cs

-- the open blocks after row p, if those before it are cs
abbrev pub after : Instruction → ℕ → List ℕ → List ℕ
after (Expression e) p cs = cs
after (Change s) p cs = cs
after (Control t) p cs = turned t p cs

-- the openers of the blocks that are open before row p, innermost first
abbrev pub blocks : List Line → ℕ → List ℕ
blocks lines zero = []
blocks lines (suc p) = after (at lines p).instruction p (blocks lines p)

abbrev pub innermost : List ℕ → Option ℕ
innermost [] = None
innermost (c ∷ cs) = Some c

abbrev pub member : ℕ → List ℕ → Bool
member v [] = false
member v (c ∷ cs) = v == c || member v cs

abbrev pub turn_loops : Turn → Bool
turn_loops (control.If a b) = false
turn_loops (control.Else b) = false
turn_loops (control.Loop b) = true
turn_loops (control.Each a b) = true
turn_loops (control.Test a) = false
turn_loops control.Break = false
turn_loops control.Continue = false
turn_loops (control.End b) = false

-- opens a loop or an each
abbrev pub loops : Instruction → Bool
loops (Expression e) = false
loops (Change s) = false
loops (Control t) = turn_loops t

abbrev pub turn_closer : Turn → ℕ
turn_closer (control.If a b) = b
turn_closer (control.Else b) = b
turn_closer (control.Loop b) = b
turn_closer (control.Each a b) = b
turn_closer (control.Test a) = 0
turn_closer control.Break = 0
turn_closer control.Continue = 0
turn_closer (control.End b) = b

-- the row that an opener names as the one that closes its block; an end names its opener
abbrev pub closer : Instruction → ℕ
closer (Expression e) = 0
closer (Change s) = 0
closer (Control t) = turn_closer t

abbrev pub turn_branches : Turn → Bool
turn_branches (control.If a b) = true
turn_branches (control.Else b) = false
turn_branches (control.Loop b) = false
turn_branches (control.Each a b) = false
turn_branches (control.Test a) = false
turn_branches control.Break = false
turn_branches control.Continue = false
turn_branches (control.End b) = false

-- opens the first part of an if
abbrev pub branches : Instruction → Bool
branches (Expression e) = false
branches (Change s) = false
branches (Control t) = turn_branches t

-- the innermost loop or each among open blocks
abbrev pub loop_among : List Line → List ℕ → Option ℕ
loop_among lines cs = find (λ c. loops (at lines c).instruction) cs

-- row p may close the innermost block as an else does
abbrev pub closes_if : List Line → ℕ → List ℕ → Bool
closes_if lines p [] = false
closes_if lines p (c ∷ cs) = branches (at lines c).instruction && closer (at lines c).instruction == p

-- row p may close the innermost block, which row b opened
abbrev pub closes_block : List Line → ℕ → ℕ → List ℕ → Bool
closes_block lines p b [] = false
closes_block lines p b (c ∷ cs) = b == c && closer (at lines c).instruction == p

abbrev pub turn_nests : List Line → ℕ → List ℕ → Turn → Bool
turn_nests lines p cs (control.If a b) = nat_lt (length cs) 32
turn_nests lines p cs (control.Else b) = closes_if lines p cs
turn_nests lines p cs (control.Loop b) = nat_lt (length cs) 32
turn_nests lines p cs (control.Each a b) = nat_lt (length cs) 32
turn_nests lines p cs (control.Test a) = is_some (loop_among lines cs)
turn_nests lines p cs control.Break = is_some (loop_among lines cs)
turn_nests lines p cs control.Continue = is_some (loop_among lines cs)
turn_nests lines p cs (control.End b) = closes_block lines p b cs

abbrev pub returns : Changes → Bool
returns (change.Declare t v) = false
returns (change.Assign v a) = false
returns (change.Store v b c) = false
returns (change.StoreTwo v b c d) = false
returns (change.Print a) = false
returns (change.Read v) = false
returns (change.Return a) = true

-- row p keeps the rule of blocks, cs being those open before it; the last row is a return outside all blocks
abbrev pub nests : List Line → ℕ → List ℕ → Bool → Instruction → Bool
nests lines p cs last (Expression e) = not last
nests lines p cs last (Change s) = not last || (returns s && length cs == 0)
nests lines p cs last (Control t) = not last && turn_nests lines p cs t

-- ---- scope
abbrev pub change_declares : Changes → Bool
change_declares (change.Declare t v) = true
change_declares (change.Assign v a) = false
change_declares (change.Store v b c) = false
change_declares (change.StoreTwo v b c d) = false
change_declares (change.Print a) = false
change_declares (change.Read v) = false
change_declares (change.Return a) = false

abbrev pub declares : Instruction → Bool
declares (Expression e) = false
declares (Change s) = change_declares s
declares (Control t) = false

abbrev pub turn_ranges : Turn → Bool
turn_ranges (control.If a b) = false
turn_ranges (control.Else b) = false
turn_ranges (control.Loop b) = false
turn_ranges (control.Each a b) = true
turn_ranges (control.Test a) = false
turn_ranges control.Break = false
turn_ranges control.Continue = false
turn_ranges (control.End b) = false

-- opens an each
abbrev pub ranges : Instruction → Bool
ranges (Expression e) = false
ranges (Change s) = false
ranges (Control t) = turn_ranges t

-- a block that a row stood in is open still, or it stood in none
abbrev pub still_in : Option ℕ → List ℕ → Bool
still_in None cs = true
still_in (Some c) cs = member c cs

-- row v declares a variable, in a block that is open still
abbrev pub in_scope : List Line → ℕ → List ℕ → ℕ → Bool
in_scope lines p cs v = nat_lt v p && (declares (at lines v).instruction && still_in (at lines v).block cs)

-- row v opens an each that is open still
abbrev pub in_each : List Line → List ℕ → ℕ → Bool
in_each lines cs v = ranges (at lines v).instruction && member v cs

abbrev pub make_scoped : List Line → ℕ → List ℕ → Make → Bool
make_scoped lines p cs (make.Literal k n) = true
make_scoped lines p cs (make.Empty k) = true
make_scoped lines p cs (make.Variable v) = in_scope lines p cs v || in_each lines cs v
make_scoped lines p cs (make.Prefix o a) = true
make_scoped lines p cs (make.Infix o a b) = true
make_scoped lines p cs (make.Interval a b) = true
make_scoped lines p cs (make.Stack a b) = true
make_scoped lines p cs (make.Pick a b) = true
make_scoped lines p cs (make.PickTwo a b c) = true
make_scoped lines p cs (make.Measure m a) = true
make_scoped lines p cs (make.Cast k a) = true
make_scoped lines p cs (make.Resize a r s) = true
make_scoped lines p cs make.State = true

abbrev pub change_scoped : List Line → ℕ → List ℕ → Changes → Bool
change_scoped lines p cs (change.Declare t v) = true
change_scoped lines p cs (change.Assign v a) = in_scope lines p cs v
change_scoped lines p cs (change.Store v b c) = in_scope lines p cs v
change_scoped lines p cs (change.StoreTwo v b c d) = in_scope lines p cs v
change_scoped lines p cs (change.Print a) = true
change_scoped lines p cs (change.Read v) = in_scope lines p cs v
change_scoped lines p cs (change.Return a) = true

-- the variable that row p names is in scope; one that it writes is declared
abbrev pub scoped : List Line → ℕ → List ℕ → Instruction → Bool
scoped lines p cs (Expression e) = make_scoped lines p cs e
scoped lines p cs (Change s) = change_scoped lines p cs s
scoped lines p cs (Control t) = true

-- ---- jumps
abbrev pub row_of : Option ℕ → ℕ
row_of None = 0
row_of (Some c) = c

abbrev pub turn_target : List Line → List ℕ → Turn → ℕ
turn_target lines cs (control.If a b) = b
turn_target lines cs (control.Else b) = b
turn_target lines cs (control.Loop b) = b
turn_target lines cs (control.Each a b) = b
turn_target lines cs (control.Test a) = closer (at lines (row_of (loop_among lines cs))).instruction
turn_target lines cs control.Break = closer (at lines (row_of (loop_among lines cs))).instruction
turn_target lines cs control.Continue = row_of (loop_among lines cs)
turn_target lines cs (control.End b) = b

-- where a jump leads: on at the row after this one
abbrev pub target_of : List Line → List ℕ → Instruction → ℕ
target_of lines cs (Expression e) = 0
target_of lines cs (Change s) = 0
target_of lines cs (Control t) = turn_target lines cs t

-- ---- words for what check shows of blocks
abbrev pub turn_opens : Turn → Bool
turn_opens (control.If a b) = true
turn_opens (control.Else b) = true
turn_opens (control.Loop b) = true
turn_opens (control.Each a b) = true
turn_opens (control.Test a) = false
turn_opens control.Break = false
turn_opens control.Continue = false
turn_opens (control.End b) = false

-- opens a block
abbrev pub opener : Instruction → Bool
opener (Expression e) = false
opener (Change s) = false
opener (Control t) = turn_opens t

abbrev pub turn_shuts : Turn → Bool
turn_shuts (control.If a b) = false
turn_shuts (control.Else b) = true
turn_shuts (control.Loop b) = false
turn_shuts (control.Each a b) = false
turn_shuts (control.Test a) = false
turn_shuts control.Break = false
turn_shuts control.Continue = false
turn_shuts (control.End b) = true

-- closes a block
abbrev pub shuts : Instruction → Bool
shuts (Expression e) = false
shuts (Change s) = false
shuts (Control t) = turn_shuts t

-- returns
abbrev pub finishes : Instruction → Bool
finishes (Expression e) = false
finishes (Change s) = returns s
finishes (Control t) = false
