-- The integer that a word writes: a sign or none, then one digit or more, of a number that 32 bits hold.
use Rattle.std.specs.Prelude.{ℕ, ◌+◌, ◌-◌, ◌*◌, cond, List, [], ◌∷◌, ℤ, pos, neg_ℤ, Some, None, Option, ◌==◌, nat_lt}
use Rattle.std.specs.Str.{all_ascii_digits}
use Rattle.source.specs.declared.numeral.Sign.{Sign}
use Rattle.source.specs.declared.numeral.Sign.TheVariants.{Plus, Minus}

-- the number that digits write, after those of n
abbrev pub onward : ℕ → List ℕ → ℕ
onward n [] = n
onward n (c ∷ cs) = onward (n * 10 + (c - 48)) cs

-- from −2147483648 to 2147483647
abbrev pub ranged : Sign → ℕ → Option ℤ
ranged Plus n = cond (nat_lt n 2147483648) (Some (pos n)) None
ranged Minus n = cond (nat_lt n 2147483649) (Some (neg_ℤ (pos n))) None

-- what follows the sign
abbrev pub numeral : Sign → List ℕ → Option ℤ
numeral s [] = None
numeral s (c ∷ cs) = cond (all_ascii_digits (c ∷ cs)) (ranged s (onward 0 (c ∷ cs))) None

-- 43 is `+` and 45 is `-`
abbrev pub integer : List ℕ → Option ℤ
integer [] = None
integer (c ∷ cs) = cond (c == 43) (numeral Plus cs) (cond (c == 45) (numeral Minus cs) (numeral Plus (c ∷ cs)))
