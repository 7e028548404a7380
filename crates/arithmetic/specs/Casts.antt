-- What a boolean, a character and an integer are as another kind.
use Rattle.std.specs.Prelude.{zero, suc, Bool, true, false, cond, ℤ, pos, negsuc, ◌-ℤ◌, int_lt}
use Rattle.std.specs.Int.{int_rem_euclid}

-- 0 is false, and every other number true
abbrev pub nonzero : ℤ → Bool
nonzero (pos zero) = false
nonzero (pos (suc n)) = true
nonzero (negsuc n) = true

abbrev pub one_or_zero : Bool → ℤ
one_or_zero b = cond b (pos 1) (pos 0)

-- the number from -128 to 127 that n, from 0 to 255, has the bits of
abbrev pub signed : ℤ → ℤ
signed n = cond (int_lt n (pos 128)) n (n -ℤ pos 256)

-- the low eight bits, signed: the number from -128 to 127 that differs from z by a multiple of 256
abbrev pub low_byte : ℤ → ℤ
low_byte z = signed (int_rem_euclid z (pos 256))
