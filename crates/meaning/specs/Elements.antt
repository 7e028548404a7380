-- What is done to elements of a kind: equality, casts, and a scalar that stands for many.
use Rattle.std.specs.Prelude.{ℕ, Bool, true, false, cond, not, ◌&&◌, List, [], ◌∷◌, replicate, ℤ, int_le, slice_index_or}
use Rattle.types.specs.declared.kinds.Kind.{Kind}
use Rattle.types.specs.declared.kinds.Kind.TheVariants.{Boolean, Character, Integer}
use Rattle.types.specs.declared.kinds.Shape.TheVariants.{Scalar}
use Rattle.types.specs.Typings.{is}
use Rattle.arithmetic.specs.Casts.{nonzero, one_or_zero, low_byte}
use Rattle.meaning.specs.Values.{Cell, null_of, Value, exactly, elements_of}

abbrev pub same_integer : ℤ → ℤ → Bool
same_integer x y = int_le x y && int_le y x

abbrev pub same_cell : (k : Kind) → Cell k → Cell k → Bool
same_cell Boolean x y = cond x y (not y)
same_cell Character x y = same_integer x y
same_cell Integer x y = same_integer x y

-- whether all elements are equal
abbrev pub same_cells : (k : Kind) → List (Cell k) → List (Cell k) → Bool
same_cells k [] [] = true
same_cells k [] (y ∷ ys) = false
same_cells k (x ∷ xs) [] = false
same_cells k (x ∷ xs) (y ∷ ys) = same_cell k x y && same_cells k xs ys

-- an element of kind k as one of kind l
abbrev pub cast : (k l : Kind) → Cell k → Cell l
cast Boolean Boolean x = x
cast Boolean Character x = one_or_zero x
cast Boolean Integer x = one_or_zero x
cast Character Boolean x = nonzero x
cast Character Character x = x
cast Character Integer x = x
cast Integer Boolean x = nonzero x
cast Integer Character x = low_byte x
cast Integer Integer x = x

-- n elements of an operand of kind k: its own, or n times the one of a scalar
abbrev pub along : (k : Kind) → ℕ → Value → List (Cell k)
along k n v = cond (is Scalar (exactly v)) (replicate n (slice_index_or (elements_of k v) 0 (null_of k))) (elements_of k v)
