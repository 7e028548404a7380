-- How one element of each kind prints.
use Rattle.std.specs.Prelude.{ℕ, ◌-◌, ◌^◌, Bool, cond, List, [], ◌∷◌, ℤ, pos, negsuc, nat_lt}
use Rattle.std.specs.Int.Signed.{mag}
use Rattle.std.specs.Fmt.{signed_decimal}

-- T or F
abbrev pub boolean_text : Bool → List ℕ
boolean_text b = cond b 84 70 ∷ []

-- a character is a signed byte, and prints as that byte: -1 is 255
abbrev pub byte_of : ℤ → ℕ
byte_of (pos n) = n
byte_of (negsuc n) = 255 - n

abbrev pub character_text : ℤ → List ℕ
character_text z = byte_of z ∷ []

-- the decimal of an integer from -2^31 to 2^31 - 1; other integers stand in no cell, and have no text (`mag` is n both for n and for -(n + 1))
abbrev pub integer_text : ℤ → List ℕ
integer_text z = cond (nat_lt (mag z) (2 ^ 31)) (signed_decimal z) []
