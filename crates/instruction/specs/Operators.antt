-- The operators by their numbers.
use Rattle.std.specs.Prelude.{◌≡◌, ℕ, cond, Some, None, Option, Result, IfErr, ◌==◌}
use Rattle.std.specs.Result.{result_ok}
use Rattle.types.specs.declared.unknown.UnknownNumber.{UnknownNumber}
use Rattle.instruction.specs.declared.instructions.Prefix.{Prefix}
use Rattle.instruction.specs.declared.instructions.Prefix.TheVariants.{Minus, Not}
use Rattle.arithmetic.specs.declared.integers.Arithmetic.TheVariants.{Add, Subtract, Multiply, Divide, Remainder, Power}
use Rattle.arithmetic.specs.declared.truths.Order.TheVariants.{Less, Greater, AtMost, AtLeast}
use Rattle.arithmetic.specs.declared.truths.Logic.TheVariants.{And, Or, Xor}
use Rattle.instruction.specs.declared.instructions.Equality.TheVariants.{Equal, Unequal}
use Rattle.instruction.specs.declared.instructions.Infix.{Infix}
use Rattle.instruction.specs.declared.instructions.Infix.TheVariants.{Arithmetic, Order, Logic, Equality, Join, Product, By}
use Rattle.instruction.specs.declared.instructions.Measure.{Measure as Asked}
use Rattle.instruction.specs.declared.instructions.Measure.TheVariants.{Length, Rows, Columns, Reverse, Single}

abbrev pub prefix_of : ℕ → Option Prefix
prefix_of n = cond (n == 1) (Some Minus) (cond (n == 2) (Some Not) None)

abbrev pub infix_of : ℕ → Option Infix
infix_of n =
    cond (n == 1) (Some (Arithmetic Add)) (
    cond (n == 2) (Some (Arithmetic Subtract)) (
    cond (n == 3) (Some (Arithmetic Multiply)) (
    cond (n == 4) (Some (Arithmetic Divide)) (
    cond (n == 5) (Some (Arithmetic Remainder)) (
    cond (n == 6) (Some (Arithmetic Power)) (
    cond (n == 7) (Some (Order Less)) (
    cond (n == 8) (Some (Order Greater)) (
    cond (n == 9) (Some (Order AtMost)) (
    cond (n == 10) (Some (Order AtLeast)) (
    cond (n == 11) (Some (Logic And)) (
    cond (n == 12) (Some (Logic Or)) (
    cond (n == 13) (Some (Logic Xor)) (
    cond (n == 14) (Some (Equality Equal)) (
    cond (n == 15) (Some (Equality Unequal)) (
    cond (n == 16) (Some Join) (
    cond (n == 17) (Some Product) (
    cond (n == 18) (Some By) None)))))))))))))))))

abbrev pub measure_of : ℕ → Option Asked
measure_of n = cond (n == 1) (Some Length) (cond (n == 2) (Some Rows) (cond (n == 3) (Some Columns) (cond (n == 4) (Some Reverse) (cond (n == 5) (Some Single) None))))

-- what reading a number answers: the operator that has it, or the number itself where none has
pub record Reads {T : Type 0} (of : ℕ → Option T) (n : ℕ) (r : Result T UnknownNumber) : Type 0 where
  pub value : result_ok r ≡ of n
  pub told : IfErr r (λ e. e.0 ≡ n)
