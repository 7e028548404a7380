-- Values as lists of integers: the indices, the steps and the elements that a vector, a scalar or an interval stands for.
use Rattle.std.specs.Prelude.{ℕ, ◌+◌, ◌*◌, Bool, true, cond, List, ℤ, pos, int_le, slice_index_or}
use Rattle.types.specs.declared.kinds.Shape.TheVariants.{Interval}
use Rattle.types.specs.Typings.{is}
use Rattle.picks.specs.declared.indices.Index.{Index}
use Rattle.picks.specs.declared.indices.Index.TheVariants as list
use Rattle.meaning.specs.declared.layouts.Layout.{Layout}
use Rattle.meaning.specs.Values.{known}

-- the list that the value of this layout at row a stands for: its cells, or the integers from one bound to the other
abbrev pub list_at : ℕ → List ℤ → ℕ → Layout → Index
list_at W ints a x = cond (is Interval (known x)) (list.Interval (slice_index_or ints (a * W) (pos 0)) (slice_index_or ints (a * W + 1) (pos 0))) (list.Cells (a * W) x.s)

-- its upper bound is not under its lower one
abbrev pub orderly : Index → Bool
orderly (list.Cells at n) = true
orderly (list.Interval low high) = int_le low high
