-- Elements picked by indices.
use Rattle.std.specs.Prelude.{◌≡◌, ℕ, ◌*◌, List, map, ℤ, Some, None, Ok, Err, Option, Result, slice_index_or}
use Rattle.picks.specs.declared.indices.Outside.{Outside}
use Rattle.element.specs.Cells.{put, cells, joined}
use Rattle.picks.specs.Indices.{place_of, first_outside, first_outside2}

-- the elements of xs that the indices name
abbrev pub picked : {X : Type 0} → X → List X → List ℤ → List X
picked null xs js = map (λ j. slice_index_or xs (place_of j) null) js

-- of a matrix with s columns: the elements where the rows and columns cross, row by row
abbrev pub crossed : {X : Type 0} → X → ℕ → List X → List ℤ → List ℤ → List X
crossed null s xs is js = joined (map (λ i. picked null (cells xs (place_of i * s) s) js) is)

-- what is answered: nothing, or the place of an index that is outside
abbrev pub told : Option ℕ → Result (Unit {0}) Outside
told None = Ok tt
told (Some k) = Err (record { place = k })

-- after: the table is `new`, or an index is outside, whose place is told, and the table is as it was
abbrev pub Guarded : {X : Type 0} → Option ℕ → List X → List X → Result (Unit {0}) Outside → List X → Type 0
Guarded None table new r table' = (r ≡ Ok tt) × (table' ≡ new)
Guarded (Some k) table new r table' = (r ≡ Err (record { place = k })) × (table' ≡ table)

-- what a pick leaves: of the n cells from `from` on, the elements that the indices js name are written from `to` on
abbrev pub PickLeaves : {X : Type 0} → X → List X → ℕ → ℕ → List ℤ → ℕ → Result (Unit {0}) Outside → List X → Type 0
PickLeaves null table from n js to r table' = Guarded (first_outside 1 n js) table (put table to (picked null (cells table from n) js)) r table'

-- the same of an r × s matrix from `from` on, by the indices is of rows and js of columns
abbrev pub CrossLeaves : {X : Type 0} → X → List X → ℕ → ℕ → ℕ → List ℤ → List ℤ → ℕ → Result (Unit {0}) Outside → List X → Type 0
CrossLeaves null table from r s is js to o table' = Guarded (first_outside2 r s is js) table (put table to (crossed null s (cells table from (r * s)) is js)) o table'
