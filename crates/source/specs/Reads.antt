-- What a read tells of the bytes that wait: a value, or why there is none.
use Rattle.std.specs.Prelude.{ℕ, Bool, List, [], ◌∷◌, ℤ, Some, None, Option, Result, Ok, Err}
use Rattle.source.specs.declared.state.Misread.{Misread}
use Rattle.source.specs.declared.state.Misread.TheVariants.{BadWord, Ended}
use Rattle.source.specs.Booleans.{boolean}
use Rattle.source.specs.Characters.{character}
use Rattle.source.specs.Integers.{integer}
use Rattle.source.specs.Words.{word}

-- of a word, by the value that it writes, if it writes one
abbrev pub judged : {T : Type 0} → Option T → Result T Misread
judged None = Err BadWord
judged (Some v) = Ok v

-- of a word that may be missing
abbrev pub told : {T : Type 0} → List ℕ → Option T → Result T Misread
told [] v = Err Ended
told (c ∷ cs) v = judged v

abbrev pub integer_told : List ℕ → Result ℤ Misread
integer_told w = told w (integer w)

abbrev pub boolean_told : List ℕ → Result Bool Misread
boolean_told w = told w (boolean w)

-- of all that waits: by its first word, or by its first byte
abbrev pub integer_read : List ℕ → Result ℤ Misread
integer_read bs = integer_told (word bs)

abbrev pub boolean_read : List ℕ → Result Bool Misread
boolean_read bs = boolean_told (word bs)

abbrev pub character_read : List ℕ → Result ℤ Misread
character_read bs = Ok (character bs)
