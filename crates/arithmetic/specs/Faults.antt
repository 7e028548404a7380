-- The faults of integers: their numbers, their texts, their places.
use Rattle.std.specs.Prelude.{ℕ, List, codes}
use Rattle.arithmetic.specs.declared.faults.ArithmeticFault.{ArithmeticFault}
use Rattle.arithmetic.specs.declared.faults.ArithmeticFault.TheVariants.{Overflow, DivisorZero, NegativeExponent}
use Rattle.arithmetic.specs.declared.faults.ElementFault.{ElementFault}
use Rattle.arithmetic.specs.declared.faults.Located.{Located}

abbrev pub number_of : ArithmeticFault → ℕ
number_of Overflow = 20
number_of DivisorZero = 21
number_of NegativeExponent = 22

abbrev pub text_of : ArithmeticFault → List ℕ
text_of Overflow = codes "a result outside 32 bits"
text_of DivisorZero = codes "a division by 0"
text_of NegativeExponent = codes "a negative exponent"

abbrev pub at_element : ℕ → ArithmeticFault → ElementFault
at_element k f = record { element = k; fault = f }

abbrev pub at_row : ℕ → ℕ → ElementFault → Located
at_row row line e = record { row = row; line = line; element = e.element; fault = e.fault }
