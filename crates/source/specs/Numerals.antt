-- How a word comes to an integer byte by byte.
use Rattle.std.specs.Prelude.{ℕ, ◌+◌, ◌-◌, ◌*◌, min, cond, ℤ, ◌==◌, Result, Err}
use Rattle.std.specs.Char.{is_ascii_digit}
use Rattle.source.specs.declared.numeral.Numeral.{Numeral}
use Rattle.source.specs.declared.numeral.Numeral.TheVariants.{Empty, Signed, Digits, Broken}
use Rattle.source.specs.declared.numeral.Sign.{Sign}
use Rattle.source.specs.declared.numeral.Sign.TheVariants.{Plus, Minus}
use Rattle.source.specs.declared.state.Misread.{Misread}
use Rattle.source.specs.declared.state.Misread.TheVariants.{BadWord, Ended}
use Rattle.source.specs.Integers.{ranged}
use Rattle.source.specs.Reads.{judged}

-- a magnitude stops at 4294967295, which no integer has
abbrev pub figure : Sign → ℕ → ℕ → Numeral
figure s n b = cond (is_ascii_digit b) (Digits s (min (n * 10 + (b - 48)) 4294967295)) Broken

abbrev pub step : Numeral → ℕ → Numeral
step Empty b = cond (b == 43) (Signed Plus) (cond (b == 45) (Signed Minus) (figure Plus 0 b))
step (Signed s) b = figure s 0 b
step (Digits s n) b = figure s n b
step Broken b = Broken

abbrev pub finished : Numeral → Result ℤ Misread
finished Empty = Err Ended
finished (Signed s) = Err BadWord
finished (Digits s n) = judged (ranged s n)
finished Broken = Err BadWord
