-- The character that is read: the first byte that waits as a signed number, or −1 at the end.
use Rattle.std.specs.Prelude.{ℕ, ◌-◌, cond, List, [], ◌∷◌, ℤ, pos, negsuc, nat_lt}

-- a byte from 128 on is itself less 256
abbrev pub signed_byte : ℕ → ℤ
signed_byte b = cond (nat_lt b 128) (pos b) (negsuc (255 - b))

abbrev pub character : List ℕ → ℤ
character [] = negsuc 0
character (b ∷ bs) = signed_byte b
