-- Every so many elements of a list: the tests, how many they are, and the tables with them written.
use Rattle.std.specs.Prelude.{ℕ, true, cond, ◌&&◌, ◌||◌, pos, None, Result, nat_le}
use Rattle.types.specs.declared.kinds.Kind.{Kind}
use Rattle.types.specs.declared.kinds.Kind.TheVariants.{Integer}
use Rattle.types.specs.declared.kinds.Shape.TheVariants.{Vector, Interval}
use Rattle.types.specs.Typings.{is, alone}
use Rattle.fault.specs.declared.faults.Fault.{Fault}
use Rattle.element.specs.Cells.{cells, put}
use Rattle.element.specs.Steps.{step_count, stepped}
use Rattle.picks.specs.declared.indices.Index.{Index}
use Rattle.picks.specs.declared.indices.Index.TheVariants as list
use Rattle.picks.specs.Indices.{between, index_count}
use Rattle.meaning.specs.declared.layouts.Layout.{Layout}
use Rattle.meaning.specs.declared.places.Place.{Place}
use Rattle.meaning.specs.Values.{null_of, vector_of, known}
use Rattle.meaning.specs.States.{Tables, tables}
use Rattle.meaning.specs.Works.{guards, changed}
use Rattle.expressions.specs.Lists.{orderly}

-- how many of n elements a step meets, and none where it is under 1
abbrev pub strides : ℕ → ℕ → ℕ
strides n b = cond (nat_le 1 b) (step_count n b) 0

abbrev pub step_guard : Place → Layout → Layout → Index → ℕ → Result Layout Fault
step_guard p x y l b = guards p ((is Vector (known x) || is Interval (known x)) && alone Integer (known y)) (orderly l && nat_le 1 b) None (vector_of x.kind (strides (index_count l) b)) true

-- cells are of kind k, and those of an interval are integers
abbrev pub stepped_in : Kind → Tables → ℕ → Index → ℕ → Tables
stepped_in k t to (list.Cells at n) b = changed k t to (λ k T. stepped (null_of k) b (cells T at n))
stepped_in k t to (list.Interval low high) b = tables t.booleans t.characters (put t.integers to (stepped (pos 0) b (between low high)))
