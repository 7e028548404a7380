-- Worked examples of expression rows, at width 8.
use Rattle.std.specs.Prelude.{◌≡◌, ℕ, List, [], ◌∷◌, length, ℤ, pos, negsuc}
use Rattle.types.specs.declared.kinds.Kind.TheVariants.{Integer}
use Rattle.types.specs.declared.kinds.Shape.TheVariants.{Matrix, Interval}
use Rattle.arithmetic.specs.declared.integers.Arithmetic.TheVariants.{Add, Divide, Remainder, Power}
use Rattle.arithmetic.specs.declared.faults.ArithmeticFault.TheVariants.{Overflow}
use Rattle.fault.specs.declared.causes.Cause.TheVariants.{Arithmetic}
use Rattle.fault.specs.Faults.{cause_number}
use Rattle.instruction.specs.declared.instructions.Infix.TheVariants as family
use Rattle.meaning.specs.Values.{Value, value_of, layout_of, scalar_of, vector_of}
use Rattle.meaning.specs.Plans.{gives, faults, outcome}
use Rattle.meaning.specs.Expressions.{infixed, pick, stack}

abbrev pub integer : ℤ → Value
integer z = value_of (scalar_of Integer) (z ∷ [])

abbrev pub vector : List ℤ → Value
vector xs = value_of (vector_of Integer (length xs)) xs

abbrev pub range : ℤ → ℤ → Value
range a b = value_of (layout_of Integer Interval 1 2) (a ∷ b ∷ [])

abbrev pub matrix : ℕ → ℕ → List ℤ → Value
matrix r s xs = value_of (layout_of Integer Matrix r s) xs

pub record Examples : Type 0 where
  -- [1,2,3,4] + 2 is [3,4,5,6]
  pub sum : outcome 8 (infixed (family.Arithmetic Add) (vector (pos 1 ∷ pos 2 ∷ pos 3 ∷ pos 4 ∷ [])) (integer (pos 2))) ≡ gives (vector (pos 3 ∷ pos 4 ∷ pos 5 ∷ pos 6 ∷ []))
  -- 3..6 by 2 is [3,5]
  pub steps : outcome 8 (infixed family.By (range (pos 3) (pos 6)) (integer (pos 2))) ≡ gives (vector (pos 3 ∷ pos 5 ∷ []))
  -- [1,2,3] ** [4,5,6] is 32
  pub dot : outcome 8 (infixed family.Product (vector (pos 1 ∷ pos 2 ∷ pos 3 ∷ [])) (vector (pos 4 ∷ pos 5 ∷ pos 6 ∷ []))) ≡ gives (integer (pos 32))
  -- [4,5,6] at [3,1,2] is [6,4,5]
  pub picks : outcome 8 (pick (vector (pos 4 ∷ pos 5 ∷ pos 6 ∷ [])) (vector (pos 3 ∷ pos 1 ∷ pos 2 ∷ []))) ≡ gives (vector (pos 6 ∷ pos 4 ∷ pos 5 ∷ []))
  -- stacking [1,2,3], [1,2] gives [[1,2,3],[1,2,0]]
  pub stacks : outcome 8 (stack (vector (pos 1 ∷ pos 2 ∷ pos 3 ∷ [])) (vector (pos 1 ∷ pos 2 ∷ []))) ≡ gives (matrix 2 3 (pos 1 ∷ pos 2 ∷ pos 3 ∷ pos 1 ∷ pos 2 ∷ pos 0 ∷ []))
  -- -7 % 3 is -1
  pub remainder : outcome 8 (infixed (family.Arithmetic Remainder) (integer (negsuc 6)) (integer (pos 3))) ≡ gives (integer (negsuc 0))
  -- -7 / 2 is -3
  pub quotient : outcome 8 (infixed (family.Arithmetic Divide) (integer (negsuc 6)) (integer (pos 2))) ≡ gives (integer (negsuc 2))
  -- 2 ^ 30 is 1073741824
  pub power : outcome 8 (infixed (family.Arithmetic Power) (integer (pos 2)) (integer (pos 30))) ≡ gives (integer (pos 1073741824))
  -- -2147483648 / -1 is fault 20
  pub overflow : outcome 8 (infixed (family.Arithmetic Divide) (integer (negsuc 2147483647)) (integer (negsuc 0))) ≡ faults (Arithmetic Overflow) 1
  pub number : cause_number (Arithmetic Overflow) ≡ 20
