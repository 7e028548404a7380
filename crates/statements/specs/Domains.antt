-- The elements that an each takes from its domain, one by one.
use Rattle.std.specs.Prelude.{ℕ, ◌+◌, ◌<◌, Bool, ◌||◌, [], ◌∷◌, pos, ◌+ℤ◌}
use Rattle.types.specs.declared.kinds.Kind.{Kind}
use Rattle.types.specs.declared.kinds.Kind.TheVariants.{Integer}
use Rattle.types.specs.declared.kinds.Shape.TheVariants.{Vector, Interval}
use Rattle.types.specs.Typings.{is}
use Rattle.element.specs.Cells.{cells, put}
use Rattle.picks.specs.declared.indices.Index.{Index}
use Rattle.picks.specs.declared.indices.Index.TheVariants as list
use Rattle.picks.specs.Indices.{spanned}
use Rattle.meaning.specs.declared.layouts.Layout.{Layout}
use Rattle.meaning.specs.Values.{known}
use Rattle.meaning.specs.States.{Tables, with_table}
use Rattle.meaning.specs.Works.{changed}

-- an each ranges over a vector or an interval
abbrev pub ranged : Layout → Bool
ranged x = is Vector (known x) || is Interval (known x)

-- there is an element n, and its cell lies before `to`
abbrev pub ElementBelow : Index → ℕ → ℕ → Type 0
ElementBelow (list.Cells at count) n to = at + n < to
ElementBelow (list.Interval low high) n to = n < spanned low high

-- the tables with element n in the cell `to`
abbrev pub with_element : Kind → Index → ℕ → ℕ → Tables → Tables
with_element k (list.Cells at count) n to t = changed k t to (λ k T. cells T (at + n) 1)
with_element k (list.Interval low high) n to t = with_table Integer t (put t.integers to ((low +ℤ pos n) ∷ []))
