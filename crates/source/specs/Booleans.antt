-- The boolean that a word writes: `T` and `F`, alone.
use Rattle.std.specs.Prelude.{ℕ, Bool, true, false, cond, List, [], ◌∷◌, Some, None, Option, ◌==◌}

-- of one byte
abbrev pub letter : ℕ → Option Bool
letter b = cond (b == 84) (Some true) (cond (b == 70) (Some false) None)

abbrev pub boolean : List ℕ → Option Bool
boolean [] = None
boolean (b ∷ []) = letter b
boolean (b ∷ c ∷ cs) = None
