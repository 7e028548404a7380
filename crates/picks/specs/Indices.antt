-- Lists of indices, which count from 1, and the first of them that names no element.
use Rattle.std.specs.Prelude.{◌≡◌, ℕ, zero, suc, ◌+◌, ◌-◌, ◌<◌, ◌≤◌, Bool, true, false, cond, List, [], ◌∷◌, length, ℤ, pos, negsuc, ◌+ℤ◌, ◌-ℤ◌, Some, None, Option, nat_lt, slice_index_or}
use Rattle.picks.specs.declared.indices.Index.{Index}
use Rattle.picks.specs.declared.indices.Index.TheVariants.{Cells, Interval}
use Rattle.element.specs.Cells.{cells, tabulate}

-- a number that is not negative, and 0 for one that is
abbrev pub amount : ℤ → ℕ
amount (pos n) = n
amount (negsuc n) = 0

-- how many integers there are from a to b
abbrev pub spanned : ℤ → ℤ → ℕ
spanned a b = amount ((b -ℤ a) +ℤ pos 1)

-- the integers from a to b
abbrev pub between : ℤ → ℤ → List ℤ
between a b = tabulate (spanned a b) (λ k. a +ℤ pos k)

-- how many indices there are
abbrev pub index_count : Index → ℕ
index_count (Cells at n) = n
index_count (Interval low high) = spanned low high

-- the indices, where `table` has the integers
abbrev pub indices_of : Index → List ℤ → List ℤ
indices_of (Cells at n) table = cells table at n
indices_of (Interval low high) table = between low high

-- the cells of the indices lie below `end`
abbrev pub IndexBelow : Index → ℕ → Type 0
IndexBelow (Cells at n) end = at + n ≤ end
IndexBelow (Interval low high) end = Unit {0}

-- the cells of the indices lie from `start` on
abbrev pub IndexAbove : Index → ℕ → Type 0
IndexAbove (Cells at n) start = start ≤ at
IndexAbove (Interval low high) start = Unit {0}

-- the place from 0 that an index names
abbrev pub place_of : ℤ → ℕ
place_of (pos n) = n - 1
place_of (negsuc n) = 0

-- an index names one of n elements
abbrev pub inside : ℕ → ℤ → Bool
inside n (pos zero) = false
inside n (pos (suc j)) = nat_lt j n
inside n (negsuc j) = false

-- the place from 0 that an index names, where it names one of n elements
abbrev pub place_among : ℕ → ℤ → Option ℕ
place_among n j = cond (inside n j) (Some (place_of j)) None

-- the place in the list, counted from k, of the first index that names none of n elements
abbrev pub first_outside : ℕ → ℕ → List ℤ → Option ℕ
first_outside k n [] = None
first_outside k n (j ∷ js) = cond (inside n j) (first_outside (k + 1) n js) (Some k)

abbrev pub or_else : Option ℕ → Option ℕ → Option ℕ
or_else None y = y
or_else (Some k) y = Some k

-- the same for the indices of rows and of columns of an r × s matrix: rows first, and columns are counted on
abbrev pub first_outside2 : ℕ → ℕ → List ℤ → List ℤ → Option ℕ
first_outside2 r s is js = or_else (first_outside 1 r is) (first_outside (length is + 1) s js)

-- each index names one of n elements
abbrev pub AllInside : ℕ → List ℤ → Type 0
AllInside n js = (k : ℕ) → k < length js → inside n (slice_index_or js k (pos 0)) ≡ true
