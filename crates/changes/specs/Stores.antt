-- Stores by the layouts of their operands: their tests, the elements that they take, and what an index outside tells.
use Rattle.std.specs.Prelude.{ℕ, Bool, not, ◌&&◌, ◌||◌, List, ℤ, Some, Result, ◌==◌}
use Rattle.types.specs.declared.kinds.Kind.TheVariants.{Integer}
use Rattle.types.specs.declared.kinds.Shape.TheVariants.{Scalar, Vector, Matrix}
use Rattle.types.specs.Typings.{is, of, alone, index}
use Rattle.fault.specs.declared.faults.Fault.{Fault}
use Rattle.picks.specs.Indices.{index_count}
use Rattle.meaning.specs.declared.layouts.Layout.{Layout}
use Rattle.meaning.specs.declared.places.Place.{Place}
use Rattle.meaning.specs.Values.{known}
use Rattle.meaning.specs.Works.{guards}
use Rattle.expressions.specs.Lists.{list_at, orderly}

-- z may be stored at the index y of the vector x
abbrev pub stores : Layout → Layout → Layout → Bool
stores x y z = is Vector (known x) && (index (known y) && (of x.kind (known z) && (is Scalar (known z) || (is Vector (known z) && not (is Scalar (known y))))))

-- the tests, where the index lies at row b
abbrev pub store_guard : Place → List ℤ → ℕ → Layout → Layout → Layout → Result Layout Fault
store_guard p ints b x y z =
    guards p (stores x y z) (orderly (list_at p.width ints b y)) (Some (index_count (list_at p.width ints b y))) x (is Scalar (known z) || index_count (list_at p.width ints b y) == z.s)

-- w may be stored at row y and column z of the matrix x
abbrev pub stores_two : Layout → Layout → Layout → Layout → Bool
stores_two x y z w = is Matrix (known x) && (alone Integer (known y) && (alone Integer (known z) && alone x.kind (known w)))
