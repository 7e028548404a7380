-- The first of the bytes that wait, and those behind it.
use Rattle.std.specs.Prelude.{ℕ, List, [], ◌∷◌, Some, None, Option}

abbrev pub first : List ℕ → Option ℕ
first [] = None
first (b ∷ bs) = Some b

abbrev pub behind : List ℕ → List ℕ
behind [] = []
behind (b ∷ bs) = bs
