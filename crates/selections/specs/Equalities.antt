-- Two values that are compared as wholes: the tests, and whether their cells hold the same elements.
use Rattle.std.specs.Prelude.{ℕ, Bool, true, cond, ◌&&◌, ◌||◌, replicate, None, Result, slice_index_or}
use Rattle.types.specs.declared.kinds.Kind.TheVariants.{Boolean}
use Rattle.types.specs.declared.kinds.Shape.TheVariants.{Scalar, Interval}
use Rattle.types.specs.Typings.{is, of, pairs, matches_spread}
use Rattle.fault.specs.declared.faults.Fault.{Fault}
use Rattle.element.specs.Cells.{cells}
use Rattle.meaning.specs.declared.layouts.Layout.{Layout}
use Rattle.meaning.specs.declared.places.Place.{Place}
use Rattle.meaning.specs.Values.{null_of, scalar_of, area, known}
use Rattle.meaning.specs.Elements.{same_cells}
use Rattle.meaning.specs.States.{Tables, table_of}
use Rattle.meaning.specs.Works.{guards}

abbrev pub equates : Layout → Layout → Bool
equates x y = of x.kind (known y) && (pairs (known x) (known y) || (is Interval (known x) && is Interval (known y)))

abbrev pub equate_guard : Place → Layout → Layout → Result Layout Fault
equate_guard p x y = guards p (equates x y) true None (scalar_of Boolean) (matches_spread (known x) (known y))

-- the values of layouts x and y, whose cells begin at a and at b: the one element of a scalar stands for all
abbrev pub same_at : Tables → Layout → Layout → ℕ → ℕ → Bool
same_at t x y a b =
    let k = x.kind in
    let T = table_of k t in
    cond (is Scalar (known y)) (same_cells k (cells T a (area x)) (replicate (area x) (slice_index_or T b (null_of k)))) (
    cond (is Scalar (known x)) (same_cells k (cells T b (area y)) (replicate (area y) (slice_index_or T a (null_of k))))
    (same_cells k (cells T a (area x)) (cells T b (area x))))
