-- Integers that fit 32 bits, and values of two operands that do.
use Rattle.std.specs.Prelude.{ℕ, ◌^◌, ◌<◌, List, length, ℤ, pos, slice_index_or}
use Rattle.std.specs.Int.Signed.{mag}
use Rattle.element.specs.declared.operands.Operand.{Operand}
use Rattle.element.specs.Operands.{place_of}

-- z lies from -2^31 to 2^31 - 1 (`mag` is n both for n and for -(n + 1))
abbrev pub Within : ℤ → Type 0
Within z = mag z < 2 ^ 31

-- what f gives of the values of a and b for element k, from 0
abbrev pub value_at : (ℤ → ℤ → ℤ) → List ℤ → Operand → Operand → ℕ → ℤ
value_at f table a b k = f (slice_index_or table (place_of a k) (pos 0)) (slice_index_or table (place_of b k) (pos 0))

-- for each of n elements, a and b lie in the table and what f gives of them fits
abbrev pub Reads : (ℤ → ℤ → ℤ) → List ℤ → ℕ → Operand → Operand → Type 0
Reads f table n a b = (k : ℕ) → k < n → (place_of a k < length table) × (place_of b k < length table) × Within (value_at f table a b k)
