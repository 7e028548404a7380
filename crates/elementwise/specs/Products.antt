-- Products of vectors and of matrices.
use Rattle.std.specs.Prelude.{ℕ, ◌+◌, ◌*◌, List, [], ◌∷◌, ℤ, pos, Ok, Err, Result, slice_index_or}
use Rattle.arithmetic.specs.declared.faults.ArithmeticFault.{ArithmeticFault}
use Rattle.arithmetic.specs.Exact.{added, multiplied}
use Rattle.element.specs.Cells.{cells, tabulate, joined}

-- what f makes of the value, or else the fault
abbrev pub onward : {X Y E : Type 0} → Result X E → (X → Result Y E) → Result Y E
onward (Ok x) f = f x
onward (Err e) f = Err e

-- t and the product of x and y added to it: where one of them is outside 32 bits, a fault
abbrev pub with_product : ℤ → ℤ → ℤ → Result ℤ ArithmeticFault
with_product t x y = onward (multiplied x y) (added t)

-- t, and the products of xs and ys added to it one after another, up to the first fault
abbrev pub summed : ℤ → List ℤ → List ℤ → Result ℤ ArithmeticFault
summed t [] ys = Ok t
summed t (x ∷ xs) [] = Ok t
summed t (x ∷ xs) (y ∷ ys) = onward (with_product t x y) (λ u. summed u xs ys)

-- the dot product
abbrev pub dot : List ℤ → List ℤ → Result ℤ ArithmeticFault
dot xs ys = summed (pos 0) xs ys

-- n elements from `at` on, each `stride` behind the one before
abbrev pub strided : List ℤ → ℕ → ℕ → ℕ → List ℤ
strided table at stride n = tabulate n (λ k. slice_index_or table (at + k * stride) (pos 0))

-- row i of a matrix with m columns, which is stored row by row
abbrev pub row_at : List ℤ → ℕ → ℕ → List ℤ
row_at xs m i = cells xs (i * m) m

-- column j of a matrix with m rows and s columns
abbrev pub column_at : List ℤ → ℕ → ℕ → ℕ → List ℤ
column_at ys m s j = strided ys j s m

-- the product of a matrix with r rows and m columns by one with m rows and s columns: each element, row by row
abbrev pub products : ℕ → ℕ → ℕ → List ℤ → List ℤ → List (Result ℤ ArithmeticFault)
products r m s xs ys = joined (tabulate r (λ i. tabulate s (λ j. dot (row_at xs m i) (column_at ys m s j))))
