-- What print writes of a value.
use Rattle.std.specs.Prelude.{ℕ, List, [], slice_index_or}
use Rattle.types.specs.declared.kinds.Kind.{Kind}
use Rattle.types.specs.declared.kinds.Kind.TheVariants.{Boolean, Character, Integer}
use Rattle.types.specs.declared.kinds.Shape.{Shape}
use Rattle.types.specs.declared.kinds.Shape.TheVariants.{Scalar, Vector, Matrix, Interval}
use Rattle.element.specs.Elements.{boolean_text, character_text, integer_text}
use Rattle.print.specs.Texts.{vector_text, matrix_text}
use Rattle.meaning.specs.Values.{Cell, null_of, Value}

abbrev pub cell_text : (k : Kind) → Cell k → List ℕ
cell_text Boolean x = boolean_text x
cell_text Character x = character_text x
cell_text Integer x = integer_text x

abbrev pub shape_text : Shape → (k : Kind) → ℕ → ℕ → List (Cell k) → List ℕ
shape_text Scalar k r s xs = cell_text k (slice_index_or xs 0 (null_of k))
shape_text Vector k r s xs = vector_text (cell_text k) xs
shape_text Matrix k r s xs = matrix_text (cell_text k) r s xs
shape_text Interval k r s xs = []

abbrev pub text : Value → List ℕ
text v = shape_text v.layout.shape v.layout.kind v.layout.r v.layout.s v.elements
