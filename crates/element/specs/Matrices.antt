-- Matrices cut, padded and stacked, as lists of their rows.
use Rattle.std.specs.Prelude.{ℕ, List, [], ◌∷◌, ◌++◌, map, slice_index_or}
use Rattle.element.specs.Cells.{tabulate, padded, joined}

-- r rows of s elements: each row of the matrix, or an empty one past its last, is cut to s or padded with nulls to s
abbrev pub resized_rows : {X : Type 0} → X → ℕ → ℕ → List (List X) → List (List X)
resized_rows null r s rows = tabulate r (λ k. padded null s (slice_index_or rows k []))

abbrev pub resized : {X : Type 0} → X → ℕ → ℕ → List (List X) → List X
resized null r s rows = joined (resized_rows null r s rows)

-- the rows, and the row ys under them, each with s elements
abbrev pub stacked : {X : Type 0} → X → ℕ → List (List X) → List X → List X
stacked null s rows ys = joined (map (padded null s) (rows ++ ys ∷ []))
