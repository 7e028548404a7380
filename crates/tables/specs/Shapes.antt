-- The text of a value by its shape, whatever its elements are.
use Rattle.std.specs.Prelude.{ℕ, List, [], slice_index_or}
use Rattle.types.specs.declared.kinds.Shape.{Shape}
use Rattle.types.specs.declared.kinds.Shape.TheVariants.{Scalar, Vector, Matrix, Interval}
use Rattle.print.specs.Texts.{vector_text, matrix_text}

abbrev pub shaped_text : {X : Type 0} → Shape → (X → List ℕ) → X → ℕ → ℕ → List X → List ℕ
shaped_text Scalar text null r s xs = text (slice_index_or xs 0 null)
shaped_text Vector text null r s xs = vector_text text xs
shaped_text Matrix text null r s xs = matrix_text text r s xs
shaped_text Interval text null r s xs = []
