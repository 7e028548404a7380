-- What each operator gives on the integers, or why it gives nothing.
use Rattle.std.specs.Prelude.{ℕ, zero, suc, ◌^◌, cond, ℤ, pos, negsuc, ◌+ℤ◌, ◌-ℤ◌, ◌*ℤ◌, neg_ℤ, Ok, Err, Result, int_div, int_rem, nat_lt}
use Rattle.std.specs.Int.Signed.{mag}
use Rattle.arithmetic.specs.declared.integers.Arithmetic.{Arithmetic}
use Rattle.arithmetic.specs.declared.integers.Arithmetic.TheVariants.{Add, Subtract, Multiply, Divide, Remainder, Power}
use Rattle.arithmetic.specs.declared.faults.ArithmeticFault.{ArithmeticFault}
use Rattle.arithmetic.specs.declared.faults.ArithmeticFault.TheVariants.{Overflow, DivisorZero, NegativeExponent}

-- z, where it lies from -2^31 to 2^31 - 1 (`mag` is n both for n and for -(n + 1))
abbrev pub bounded : ℤ → Result ℤ ArithmeticFault
bounded z = cond (nat_lt (mag z) (2 ^ 31)) (Ok z) (Err Overflow)

abbrev pub added : ℤ → ℤ → Result ℤ ArithmeticFault
added x y = bounded (x +ℤ y)

abbrev pub subtracted : ℤ → ℤ → Result ℤ ArithmeticFault
subtracted x y = bounded (x -ℤ y)

abbrev pub multiplied : ℤ → ℤ → Result ℤ ArithmeticFault
multiplied x y = bounded (x *ℤ y)

-- without its fraction
abbrev pub divided : ℤ → ℤ → Result ℤ ArithmeticFault
divided x (pos zero) = Err DivisorZero
divided x (pos (suc n)) = bounded (int_div x (pos (suc n)))
divided x (negsuc n) = bounded (int_div x (negsuc n))

-- with the dividend's sign
abbrev pub remains : ℤ → ℤ → Result ℤ ArithmeticFault
remains x (pos zero) = Err DivisorZero
remains x (pos (suc n)) = Ok (int_rem x (pos (suc n)))
remains x (negsuc n) = Ok (int_rem x (negsuc n))

-- the product of n factors x, which is 1 where n is 0
abbrev pub power : ℤ → ℕ → ℤ
power x zero = pos 1
power x (suc n) = x *ℤ power x n

abbrev pub raised : ℤ → ℤ → Result ℤ ArithmeticFault
raised x (pos n) = bounded (power x n)
raised x (negsuc n) = Err NegativeExponent

abbrev pub exact : Arithmetic → ℤ → ℤ → Result ℤ ArithmeticFault
exact Add x y = added x y
exact Subtract x y = subtracted x y
exact Multiply x y = multiplied x y
exact Divide x y = divided x y
exact Remainder x y = remains x y
exact Power x y = raised x y

-- the prefix minus
abbrev pub negated : ℤ → Result ℤ ArithmeticFault
negated x = bounded (neg_ℤ x)
