-- Runs of cells of a table, a table with a run written anew, and the lists that are written.
use Rattle.std.specs.Prelude.{ℕ, ◌-◌, ◌*◌, List, [], ◌∷◌, ◌++◌, map, length, take, drop, replicate}
use Rattle.std.proofs.Math.Seq.{paste}
use Rattle.std.specs.List.{range_with_len}

-- the n cells from `at` on
abbrev pub cells : {X : Type 0} → List X → ℕ → ℕ → List X
cells table at n = take n (drop at table)

-- the table with the cells from `at` on replaced by those of `new`: take at table ++ new ++ drop (at + length new) table
abbrev pub put : {X : Type 0} → List X → ℕ → List X → List X
put table at new = paste table at new (length new)

-- the n elements f 0, f 1 and so on
abbrev pub tabulate : {X : Type 0} → ℕ → (ℕ → X) → List X
tabulate n f = map f (range_with_len 0 n)

-- xs cut to n, or padded with nulls to n
abbrev pub padded : {X : Type 0} → X → ℕ → List X → List X
padded null n xs = take n xs ++ replicate (n - length xs) null

-- lists one after another
abbrev pub joined : {X : Type 0} → List (List X) → List X
joined [] = []
joined (xs ∷ xss) = xs ++ joined xss

-- the r rows of s elements of a matrix that is stored row by row
abbrev pub rows_of : {X : Type 0} → ℕ → ℕ → List X → List (List X)
rows_of r s xs = tabulate r (λ k. cells xs (k * s) s)
