-- Assignments by the layouts of the variable and of its value: their tests, and what the variable is given.
use Rattle.std.specs.Prelude.{◌≡◌, ℕ, Bool, true, cond, not, ◌&&◌, ◌||◌, List, replicate, ℤ, Some, None, Result, ◌==◌, slice_index_or}
use Rattle.types.specs.declared.kinds.Kind.{Kind}
use Rattle.types.specs.declared.kinds.Shape.TheVariants.{Scalar}
use Rattle.types.specs.Types.{same_shape}
use Rattle.types.specs.Typings.{is, matches}
use Rattle.fault.specs.declared.faults.Fault.{Fault}
use Rattle.picks.specs.Indices.{index_count}
use Rattle.rules.specs.Rules.{takes}
use Rattle.meaning.specs.declared.layouts.Layout.{Layout}
use Rattle.meaning.specs.declared.places.Place.{Place}
use Rattle.meaning.specs.Values.{Cell, null_of, area, known, lawful, Value, elements_of}
use Rattle.meaning.specs.Expressions.{listing}
use Rattle.meaning.specs.Works.{guards}
use Rattle.expressions.specs.Lists.{list_at, orderly}

-- the two have one shape
abbrev pub alike : Layout → Layout → Bool
alike x y = same_shape x.shape y.shape

-- the sizes of the variable x and of its value y are equal; a scalar is spread
abbrev pub sizes_agree : ℕ → List ℤ → ℕ → Layout → Layout → Bool
sizes_agree W ints a x y = cond (alike x y) (matches (known x) (known y)) (is Scalar (known y) || index_count (list_at W ints a y) == x.s)

-- the tests, where the value lies at row a
abbrev pub assign_guard : Place → List ℤ → ℕ → Layout → Layout → Result Layout Fault
assign_guard p ints a x y =
    guards p (takes (known x) (known y)) (alike x y || orderly (list_at p.width ints a y)) (cond (alike x y) None (Some (index_count (list_at p.width ints a y)))) x (sizes_agree p.width ints a x y)

-- y is a value that the variable x takes
pub record Given (W : ℕ) (ints : List ℤ) (a : ℕ) (x y : Layout) : Type 0 where
  pub variable : lawful W x ≡ true
  pub value : lawful W y ≡ true
  pub taken : takes (known x) (known y) ≡ true
  pub agree : sizes_agree W ints a x y ≡ true

-- the elements of a value for the variable x: its own, a scalar for every cell, or those of an interval
abbrev pub giving : (k : Kind) → Layout → Value → List (Cell k)
giving k x v = cond (not (alike x v.layout) && is Scalar (known v.layout)) (replicate (area x) (slice_index_or (elements_of k v) 0 (null_of k))) (cond (alike x v.layout) (elements_of k v) (listing k v))
