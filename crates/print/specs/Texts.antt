-- The texts of scalars, vectors and matrices, and what a print leaves.
use Rattle.std.specs.Prelude.{◌≡◌, ℕ, zero, suc, ◌+◌, ◌<◌, ◌≤◌, List, [], ◌∷◌, ◌++◌, map, length, Some, None, Option}
use Rattle.element.specs.Cells.{put, joined, rows_of}

-- texts with a space between each two
abbrev pub spaced : List (List ℕ) → List ℕ
spaced [] = []
spaced (t ∷ ts) = t ++ joined (map (λ u. 32 ∷ u) ts)

-- `[1 2]`, `[]`
abbrev pub bracketed : List (List ℕ) → List ℕ
bracketed ts = 91 ∷ (spaced ts ++ 93 ∷ [])

-- what stands before the k-th of them: a space, but for the first
abbrev pub gap : ℕ → List ℕ
gap zero = []
gap (suc k) = 32 ∷ []

abbrev pub vector_text : {X : Type 0} → (X → List ℕ) → List X → List ℕ
vector_text text xs = bracketed (map text xs)

-- `[[1 2] [3 4]]`; with no rows `[]`, with two rows and no columns `[[] []]`
abbrev pub matrix_text : {X : Type 0} → (X → List ℕ) → ℕ → ℕ → List X → List ℕ
matrix_text text r s xs = bracketed (map (vector_text text) (rows_of r s xs))

-- after: the text is written from `at` on, and its end is told, or it does not fit, and nothing is written
abbrev pub Printed : List ℕ → List ℕ → ℕ → Option ℕ → List ℕ → Type 0
Printed text output at (Some end) output' = (at + length text ≤ length output) × (end ≡ at + length text) × (output' ≡ put output at text)
Printed text output at None output' = (length output < at + length text) × (output' ≡ output)
