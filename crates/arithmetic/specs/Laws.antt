-- Laws of quotients, remainders and low bytes.
use Rattle.std.specs.Prelude.{◌≡◌, ◌<◌, ℤ, pos, negsuc, ◌+ℤ◌, ◌*ℤ◌, ◌≤ℤ◌, ◌≢◌, int_div, int_rem, unsigned_abs}
use Rattle.arithmetic.specs.Casts.{low_byte}

-- r is 0 or has the sign of x
abbrev pub SignedAs : ℤ → ℤ → Type 0
SignedAs (pos a) r = pos 0 ≤ℤ r
SignedAs (negsuc a) r = r ≤ℤ pos 0

-- x is q times y and r, where r is nearer to 0 than y and is signed as x
pub record Divided (x y q r : ℤ) : Type 0 where
  pub whole : x ≡ q *ℤ y +ℤ r
  pub near : unsigned_abs r < unsigned_abs y
  pub sign : SignedAs x r

-- the quotient and the remainder that `divided` and `remains` give
abbrev pub Division : Type 0
Division = (x y : ℤ) → (y ≢ pos 0) → Divided x y (int_div x y) (int_rem x y)

-- r is the one of 256 numbers in a row, from -128 to 127, that differs from z by a multiple of 256
pub record Low (z r : ℤ) : Type 0 where
  pub least : negsuc 127 ≤ℤ r
  pub most : r ≤ℤ pos 127
  pub same : (k : ℤ) × (z ≡ k *ℤ pos 256 +ℤ r)

-- the character that an integer is cast to
abbrev pub LowBytes : Type 0
LowBytes = (z : ℤ) → Low z (low_byte z)
