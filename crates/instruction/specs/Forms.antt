-- What a row says by its own fields alone, or nothing where they break a rule: an unknown code, a number that
-- names no kind, shape or operator, a literal outside its kind, a wrong fixed size, a stray field.
use Rattle.std.specs.Prelude.{ℕ, Bool, true, false, cond, ℤ, pos, negsuc, Some, None, Option, ◌==◌, nat_le}
use Rattle.std.specs.Option.{option_map}
use Rattle.types.specs.declared.kinds.Kind.{Kind}
use Rattle.types.specs.declared.kinds.Kind.TheVariants.{Boolean, Character, Integer}
use Rattle.types.specs.declared.kinds.Shape.{Shape}
use Rattle.types.specs.Types.{Size, kind_of, shape_of, written}
use Rattle.types.specs.Typings.{typing, type_fits}
use Rattle.sheet.specs.declared.row.Row.{Row}
use Rattle.instruction.specs.declared.instructions.Prefix.{Prefix}
use Rattle.instruction.specs.declared.instructions.Infix.{Infix}
use Rattle.instruction.specs.declared.instructions.Measure.{Measure as Asked}
use Rattle.instruction.specs.declared.instructions.Expression.{Expression as Make}
use Rattle.instruction.specs.declared.instructions.Expression.TheVariants as make
use Rattle.instruction.specs.declared.instructions.Change.TheVariants as change
use Rattle.instruction.specs.declared.instructions.Control.TheVariants as control
use Rattle.instruction.specs.declared.instructions.Instruction.{Instruction}
use Rattle.instruction.specs.declared.instructions.Instruction.TheVariants.{Expression, Change, Control}
use Rattle.instruction.specs.Fields.{fields_of, plain}
use Rattle.instruction.specs.Operators.{prefix_of, infix_of, measure_of}

-- a number that a literal of the kind may be
abbrev pub literal_fits : Kind → ℤ → Bool
literal_fits Boolean (pos n) = nat_le n 1
literal_fits Boolean (negsuc n) = false
literal_fits Character (pos n) = nat_le n 127
literal_fits Character (negsuc n) = nat_le n 127
literal_fits Integer z = true

-- the row that a declaration names; one without a value has nulls
abbrev pub start_of : ℕ → Option ℕ
start_of a = cond (a == 65535) None (Some a)

-- ---- the rows whose fields can fail
abbrev pub literal : Option Kind → ℤ → Option Make
literal None n = None
literal (Some k) n = cond (literal_fits k n) (Some (make.Literal k n)) None

abbrev pub empty_of : Option Kind → Option Make
empty_of None = None
empty_of (Some k) = Some (make.Empty k)

abbrev pub prefixed : Option Prefix → ℕ → Option Make
prefixed None a = None
prefixed (Some o) a = Some (make.Prefix o a)

abbrev pub infixed : Option Infix → ℕ → ℕ → Option Make
infixed None a b = None
infixed (Some o) a b = Some (make.Infix o a b)

abbrev pub measured : Option Asked → ℕ → Option Make
measured None a = None
measured (Some m) a = Some (make.Measure m a)

abbrev pub cast_to : Option Kind → ℕ → Option Make
cast_to None a = None
cast_to (Some k) a = Some (make.Cast k a)

abbrev pub declared : Option Kind → Option Shape → Size → Size → Option ℕ → Option Instruction
declared None x r s v = None
declared (Some k) None r s v = None
declared (Some k) (Some x) r s v = cond (type_fits k x r s) (Some (Change (change.Declare (typing k x r s) v))) None

abbrev pub declared_by : Row → Option Instruction
declared_by x = declared (kind_of x.c) (shape_of x.b) (written x.r) (written x.s) (start_of x.a)

-- ---- by the code, stray fields aside
abbrev pub expression_of : Row → Option Make
expression_of x =
    cond (x.code == 1) (literal (kind_of x.a) x.n) (
    cond (x.code == 2) (empty_of (kind_of x.a)) (
    cond (x.code == 3) (Some (make.Variable x.a)) (
    cond (x.code == 4) (prefixed (prefix_of x.c) x.a) (
    cond (x.code == 5) (infixed (infix_of x.c) x.a x.b) (
    cond (x.code == 6) (Some (make.Interval x.a x.b)) (
    cond (x.code == 7) (Some (make.Stack x.a x.b)) (
    cond (x.code == 8) (Some (make.Pick x.a x.b)) (
    cond (x.code == 9) (Some (make.PickTwo x.a x.b x.c)) (
    cond (x.code == 10) (measured (measure_of x.c) x.a) (
    cond (x.code == 11) (cast_to (kind_of x.c) x.a) (
    cond (x.code == 12) (Some (make.Resize x.a (written x.r) (written x.s))) (
    cond (x.code == 13) (Some make.State) None))))))))))))

abbrev pub statement_of : Row → Option Instruction
statement_of x =
    cond (x.code == 20) (declared_by x) (
    cond (x.code == 21) (Some (Change (change.Assign x.a x.b))) (
    cond (x.code == 22) (Some (Change (change.Store x.a x.b x.c))) (
    cond (x.code == 23) (Some (Change (change.StoreTwo x.a x.b x.c x.d))) (
    cond (x.code == 24) (Some (Control (control.If x.a x.b))) (
    cond (x.code == 25) (Some (Control (control.Else x.b))) (
    cond (x.code == 26) (Some (Control (control.Loop x.b))) (
    cond (x.code == 27) (Some (Control (control.Each x.a x.b))) (
    cond (x.code == 28) (Some (Control (control.Test x.a))) (
    cond (x.code == 29) (Some (Control control.Break)) (
    cond (x.code == 30) (Some (Control control.Continue)) (
    cond (x.code == 31) (Some (Control (control.End x.b))) (
    cond (x.code == 32) (Some (Change (change.Print x.a))) (
    cond (x.code == 33) (Some (Change (change.Read x.a))) (
    cond (x.code == 34) (Some (Change (change.Return x.a))) None))))))))))))))

-- what the row says
abbrev pub form : Row → Option Instruction
form x = cond (plain (fields_of x.code) x) (cond (nat_le x.code 13) (option_map Expression (expression_of x)) (statement_of x)) None
