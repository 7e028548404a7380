-- What check says of each row, and of a sheet.
use Rattle.std.specs.Prelude.{◌≡◌, ℕ, ◌+◌, ◌<◌, Bool, true, ◌&&◌, List, length, take, pos, is_ok, Some, None, Ok, Err, Option, Result, ◌==◌, nat_le, nat_lt, slice_index_or}
use Rattle.std.proofs.Common.{lit<}
use Rattle.sheet.specs.declared.row.Row.{Row}
use Rattle.types.specs.declared.typing.Typing.{Typing}
use Rattle.rules.specs.declared.refusal.Refusal.{Refusal}
use Rattle.rules.specs.declared.refusal.Refusal.TheVariants.{Form, Operand, Block, Scope}
use Rattle.checker.specs.declared.line.Line.{Line}
use Rattle.instruction.specs.declared.instructions.Instruction.{Instruction}
use Rattle.instruction.specs.Forms.{form}
use Rattle.rules.specs.Rules.{Judged, unless, typed}
use Rattle.checker.specs.Blocks.{past_end, at, typing_at, operands, all, near, blocks, innermost, nests, scoped, target_of}

-- the line of an instruction with its typing
abbrev pub lined : List Line → List ℕ → Instruction → Judged → Result Line Refusal
lined lines cs i (Err e) = Err e
lined lines cs i (Ok n) = Ok (record { instruction = i; typing = n; block = innermost cs; target = target_of lines cs i })

-- the rules in their order: operands, blocks, scope, kinds and shapes, sizes
abbrev pub ruled : ℕ → Typing → Bool → List Line → ℕ → (ℕ → Bool) → List ℕ → Instruction → Judged
ruled w result last lines p placed cs i =
    unless (all placed (operands i)) Operand (
    unless (nests lines p cs last i) Block (
    unless (scoped lines p cs i) Scope (
    typed w result (typing_at lines) i)))

abbrev pub judged_as : ℕ → Typing → Bool → List Line → ℕ → (ℕ → Bool) → List ℕ → Option Instruction → Result Line Refusal
judged_as w result last lines p placed cs None = Err Form
judged_as w result last lines p placed cs (Some i) = lined lines cs i (ruled w result last lines p placed cs i)

-- what check says of row p, from its own fields and the lines of the rows before it
abbrev pub judge : ℕ → Typing → List Row → List Line → ℕ → Row → Result Line Refusal
judge w result rows lines p x = judged_as w result (p + 1 == length rows) lines p (near lines p) (blocks lines p) (form x)

abbrev pub no_row : Row
no_row = record { code = 0; line = 0; a = 0; b = 0; c = 0; d = 0; r = 0; s = 0; n = pos 0; code_fits = lit< tt; line_fits = lit< tt; a_fits = lit< tt; b_fits = lit< tt; c_fits = lit< tt; d_fits = lit< tt; r_fits = lit< tt; s_fits = lit< tt; n_fits = lit< tt }

-- the rows below n are lawful, and these are their lines
abbrev pub LawfulTo : ℕ → Typing → List Row → List Line → ℕ → Type 0
LawfulTo w result rows lines n = (p : ℕ) → p < n → judge w result rows (take p lines) p (slice_index_or rows p no_row) ≡ Ok (at lines p)

-- every row is lawful, and these are their lines
pub record Accepted (w : ℕ) (result : Typing) (rows : List Row) (lines : List Line) : Type 0 where
  pub long : length lines ≡ length rows
  pub lawful : LawfulTo w result rows lines (length rows)

-- row q is the first that breaks a rule, e the first rule that it breaks, and these are the lines of the rows before it
pub record Faulty (w : ℕ) (result : Typing) (rows : List Row) (lines : List Line) (e : Refusal) (q : ℕ) : Type 0 where
  pub inside : q < length rows
  pub long : length lines ≡ q
  pub lawful : LawfulTo w result rows lines q
  pub breaks : judge w result rows lines q (slice_index_or rows q no_row) ≡ Err e

-- row a stands between
abbrev pub between : ℕ → ℕ → ℕ → Bool
between from to a = nat_le from a && nat_lt a to

-- ---- the same in equations between truth values and lines
abbrev pub line_of : Result Line Refusal → Line
line_of (Ok line) = line
line_of (Err e) = past_end

-- each row is lawful
abbrev pub Lawful : ℕ → Typing → List Row → List Line → Type 0
Lawful w result rows lines = (p : ℕ) → p < length rows → is_ok (judge w result rows (take p lines) p (slice_index_or rows p no_row)) ≡ true

-- and these are their lines
abbrev pub Noted : ℕ → Typing → List Row → List Line → Type 0
Noted w result rows lines = (p : ℕ) → p < length rows → line_of (judge w result rows (take p lines) p (slice_index_or rows p no_row)) ≡ at lines p
