-- Which kinds, shapes and sizes each row takes, and the type of its value, as far as it is known.
-- Of several rules that a row breaks the first guard tells; kinds and shapes come before sizes.
use Rattle.std.specs.Prelude.{ℕ, Bool, true, false, cond, not, ◌&&◌, ◌||◌, Some, None, Ok, Err, Option, Result}
use Rattle.types.specs.declared.kinds.Kind.{Kind}
use Rattle.types.specs.declared.kinds.Kind.TheVariants.{Boolean, Integer}
use Rattle.types.specs.declared.kinds.Shape.TheVariants.{Scalar, Vector, Matrix, Interval}
use Rattle.types.specs.declared.typing.Typing.{Typing}
use Rattle.rules.specs.declared.refusal.Refusal.{Refusal}
use Rattle.rules.specs.declared.refusal.Refusal.TheVariants.{Unfit, Sizes}
use Rattle.instruction.specs.declared.instructions.Prefix.{Prefix}
use Rattle.instruction.specs.declared.instructions.Prefix.TheVariants.{Minus, Not}
use Rattle.instruction.specs.declared.instructions.Infix.{Infix}
use Rattle.instruction.specs.declared.instructions.Infix.TheVariants as family
use Rattle.instruction.specs.declared.instructions.Measure.{Measure as Asked}
use Rattle.instruction.specs.declared.instructions.Measure.TheVariants.{Length, Rows, Columns, Reverse, Single}
use Rattle.instruction.specs.declared.instructions.Expression.{Expression as Make}
use Rattle.instruction.specs.declared.instructions.Expression.TheVariants as make
use Rattle.instruction.specs.declared.instructions.Change.{Change as Changes}
use Rattle.instruction.specs.declared.instructions.Change.TheVariants as change
use Rattle.instruction.specs.declared.instructions.Control.{Control as Turn}
use Rattle.instruction.specs.declared.instructions.Control.TheVariants as control
use Rattle.instruction.specs.declared.instructions.Instruction.{Instruction}
use Rattle.instruction.specs.declared.instructions.Instruction.TheVariants.{Expression, Change, Control}
use Rattle.types.specs.Types.{Size, same_shape, exactly, is_known, agree, fits_in, or_else, plus, larger, room}
use Rattle.types.specs.Typings.{typing, scalar, vector, matrix, interval, is, of, flat, alone, index, pairs, span, matches, matches_spread, spread}

-- the note of a row, nothing for most statements, or the rule that it breaks
abbrev pub Judged : Type 0
Judged = Result (Option Typing) Refusal

abbrev pub unless : Bool → Refusal → Judged → Judged
unless true e rest = rest
unless false e rest = Err e

abbrev pub value : Typing → Judged
value t = Ok (Some t)

abbrev pub nothing : Judged
nothing = Ok None

-- a value whose known sizes the width holds
abbrev pub sized : ℕ → Typing → Judged
sized w t = unless (room w t.r t.s) Sizes (value t)

-- ---- expressions
abbrev pub prefix_rule : Prefix → Typing → Judged
prefix_rule Minus t = unless (of Integer t && flat t) Unfit (value t)
prefix_rule Not t = unless (of Boolean t && flat t) Unfit (value t)

abbrev pub elementwise : ℕ → Kind → Kind → Typing → Typing → Judged
elementwise w from to t u = unless (of from t && (of from u && pairs t u)) Unfit (unless (matches_spread t u) Sizes (sized w (spread to t u)))

abbrev pub equality_rule : Typing → Typing → Judged
equality_rule t u = unless (of t.kind u && (pairs t u || (is Interval t && is Interval u))) Unfit (unless (matches_spread t u) Sizes (value (scalar Boolean)))

abbrev pub joins : Typing → Bool
joins t = is Scalar t || is Vector t

abbrev pub join_rule : ℕ → Typing → Typing → Judged
join_rule w t u = unless (of t.kind u && (joins t && joins u)) Unfit (sized w (vector t.kind (plus t.s u.s)))

abbrev pub dot_rule : Typing → Typing → Judged
dot_rule t u = unless (agree t.s u.s) Sizes (value (scalar Integer))

abbrev pub matrix_rule : ℕ → Typing → Typing → Judged
matrix_rule w t u = unless (agree t.s u.r) Sizes (sized w (matrix Integer t.r u.s))

abbrev pub product_rule : ℕ → Typing → Typing → Judged
product_rule w t u =
    unless (of Integer t && (of Integer u && ((is Vector t && is Vector u) || (is Matrix t && is Matrix u)))) Unfit
    (cond (is Vector t) (dot_rule t u) (matrix_rule w t u))

abbrev pub by_rule : Typing → Typing → Judged
by_rule t u = unless ((is Vector t || is Interval t) && alone Integer u) Unfit (value (vector t.kind None))

abbrev pub infix_rule : ℕ → Infix → Typing → Typing → Judged
infix_rule w (family.Arithmetic o) t u = elementwise w Integer Integer t u
infix_rule w (family.Order o) t u = elementwise w Integer Boolean t u
infix_rule w (family.Logic o) t u = elementwise w Boolean Boolean t u
infix_rule w (family.Equality o) t u = equality_rule t u
infix_rule w family.Join t u = join_rule w t u
infix_rule w family.Product t u = product_rule w t u
infix_rule w family.By t u = by_rule t u

abbrev pub interval_rule : Typing → Typing → Judged
interval_rule t u = unless (alone Integer t && alone Integer u) Unfit (value interval)

abbrev pub stack_rule : ℕ → Typing → Typing → Judged
stack_rule w t u = unless (of t.kind u && ((is Vector t || is Matrix t) && is Vector u)) Unfit (sized w (matrix t.kind (plus t.r (Some 1)) (larger t.s u.s)))

abbrev pub pick_rule : Typing → Typing → Judged
pick_rule t u = unless (is Vector t && index u) Unfit (value (cond (is Scalar u) (scalar t.kind) (vector t.kind (span u))))

abbrev pub picked : Kind → Typing → Typing → Typing
picked k u v =
    cond (is Scalar u) (cond (is Scalar v) (scalar k) (vector k (span v)))
    (cond (is Scalar v) (vector k (span u)) (matrix k (span u) (span v)))

abbrev pub pick_two_rule : ℕ → Typing → Typing → Typing → Judged
pick_two_rule w t u v = unless (is Matrix t && (index u && index v)) Unfit (sized w (picked t.kind u v))

abbrev pub measure_rule : Asked → Typing → Judged
measure_rule Length t = unless (is Vector t) Unfit (value (scalar Integer))
measure_rule Rows t = unless (is Matrix t) Unfit (value (scalar Integer))
measure_rule Columns t = unless (is Matrix t) Unfit (value (scalar Integer))
measure_rule Reverse t = unless (is Vector t) Unfit (value t)
measure_rule Single t = unless (is Scalar t) Unfit (value (vector t.kind (Some 1)))

abbrev pub cast_rule : Kind → Typing → Judged
cast_rule k t = unless (flat t) Unfit (value (typing k t.shape t.r t.s))

abbrev pub resize_rule : ℕ → Size → Size → Typing → Judged
resize_rule w r s t =
    unless (is Vector t || is Matrix t) Unfit
    (unless (is_known r && (is_known s && (is Matrix t || exactly 1 r))) Sizes (sized w (typing t.kind t.shape r s)))

-- ---- variables
-- a variable noted t may be given a value noted u: of its kind and shape, a scalar to spread, or an interval for a vector
abbrev pub takes : Typing → Typing → Bool
takes t u = of t.kind u && (same_shape t.shape u.shape || ((is Scalar u && (is Vector t || is Matrix t)) || (is Interval u && is Vector t)))

-- a written size is not shorter than the value's, and to spread over it must stand there
abbrev pub begins : Typing → Typing → Bool
begins t u = cond (same_shape t.shape u.shape) (fits_in u.r t.r && fits_in u.s t.s) (cond (is Scalar u) (is_known t.r && is_known t.s) true)

-- open sizes take the value's
abbrev pub filled : Typing → Typing → Typing
filled t u = cond (same_shape t.shape u.shape) (typing t.kind t.shape (or_else t.r u.r) (or_else t.s u.s)) t

abbrev pub nulls_rule : ℕ → Typing → Judged
nulls_rule w t = unless (is_known t.r && is_known t.s) Sizes (sized w t)

abbrev pub declare_rule : ℕ → Typing → Typing → Judged
declare_rule w t u = unless (takes t u) Unfit (unless (begins t u) Sizes (sized w (filled t u)))

abbrev pub assign_rule : Typing → Typing → Judged
assign_rule t u = unless (takes t u) Unfit (unless (not (same_shape t.shape u.shape) || matches t u) Sizes nothing)

-- at one place a scalar; at several a scalar, or a vector as long as the index
abbrev pub store_rule : Typing → Typing → Typing → Judged
store_rule t u v =
    unless (is Vector t && (index u && (of t.kind v && (is Scalar v || (is Vector v && not (is Scalar u)))))) Unfit
    (unless (is Scalar v || agree (span u) v.s) Sizes nothing)

abbrev pub store_two_rule : Typing → Typing → Typing → Typing → Judged
store_two_rule t u v x = unless (is Matrix t && (alone Integer u && (alone Integer v && alone t.kind x))) Unfit nothing

abbrev pub return_rule : Typing → Typing → Judged
return_rule head t = unless (of head.kind t && same_shape head.shape t.shape) Unfit (unless (matches head t) Sizes nothing)

abbrev pub each_rule : Typing → Judged
each_rule t = unless (is Vector t || is Interval t) Unfit (value (scalar t.kind))

abbrev pub condition_rule : Typing → Judged
condition_rule t = unless (alone Boolean t) Unfit nothing

-- ---- every row, with the width, the type of the result, and the typings of earlier rows
module _ (w : ℕ) (result : Typing) (at : ℕ → Typing) where
  abbrev pub make_rule : Make → Judged
  make_rule (make.Literal k n) = value (scalar k)
  make_rule (make.Empty k) = value (vector k (Some 0))
  make_rule (make.Variable v) = value (at v)
  make_rule (make.Prefix o a) = prefix_rule o (at a)
  make_rule (make.Infix o a b) = infix_rule w o (at a) (at b)
  make_rule (make.Interval a b) = interval_rule (at a) (at b)
  make_rule (make.Stack a b) = stack_rule w (at a) (at b)
  make_rule (make.Pick a b) = pick_rule (at a) (at b)
  make_rule (make.PickTwo a b c) = pick_two_rule w (at a) (at b) (at c)
  make_rule (make.Measure m a) = measure_rule m (at a)
  make_rule (make.Cast k a) = cast_rule k (at a)
  make_rule (make.Resize a r s) = resize_rule w r s (at a)
  make_rule make.State = value (scalar Integer)

  abbrev pub start_rule : Typing → Option ℕ → Judged
  start_rule t None = nulls_rule w t
  start_rule t (Some a) = declare_rule w t (at a)

  abbrev pub change_rule : Changes → Judged
  change_rule (change.Declare t v) = start_rule t v
  change_rule (change.Assign v a) = assign_rule (at v) (at a)
  change_rule (change.Store v b c) = store_rule (at v) (at b) (at c)
  change_rule (change.StoreTwo v b c d) = store_two_rule (at v) (at b) (at c) (at d)
  change_rule (change.Print a) = unless (flat (at a)) Unfit nothing
  change_rule (change.Read v) = unless (is Scalar (at v)) Unfit nothing
  change_rule (change.Return a) = return_rule result (at a)

  abbrev pub turn_rule : Turn → Judged
  turn_rule (control.If a b) = condition_rule (at a)
  turn_rule (control.Else b) = nothing
  turn_rule (control.Loop b) = nothing
  turn_rule (control.Each a b) = each_rule (at a)
  turn_rule (control.Test a) = condition_rule (at a)
  turn_rule control.Break = nothing
  turn_rule control.Continue = nothing
  turn_rule (control.End b) = nothing

  abbrev pub typed : Instruction → Judged
  typed (Expression e) = make_rule e
  typed (Change s) = change_rule s
  typed (Control t) = turn_rule t
