-- Elements stored at indices, left to right, so that later ones win.
use Rattle.std.specs.Prelude.{ℕ, List, [], ◌∷◌, ℤ, Result, slice_set}
use Rattle.element.specs.Cells.{put, cells}
use Rattle.picks.specs.declared.indices.Outside.{Outside}
use Rattle.picks.specs.Indices.{place_of, first_outside}
use Rattle.picks.specs.Picks.{Guarded}

-- xs with each of ys in turn at the place that its index names
abbrev pub stored : {X : Type 0} → List X → List ℤ → List X → List X
stored xs [] ys = xs
stored xs (j ∷ js) [] = xs
stored xs (j ∷ js) (y ∷ ys) = stored (slice_set xs (place_of j) y) js ys

-- what a store leaves: the n cells from `to` on have the values at the places that the indices js name
abbrev pub StoreLeaves : {X : Type 0} → List X → ℕ → ℕ → List ℤ → List X → Result (Unit {0}) Outside → List X → Type 0
StoreLeaves table to n js ys r table' = Guarded (first_outside 1 n js) table (put table to (stored (cells table to n) js ys)) r table'
