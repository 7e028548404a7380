-- Every b-th element of a vector, from the first on.
use Rattle.std.specs.Prelude.{ℕ, ◌+◌, ◌-◌, ◌*◌, ◌/◌, List, length, slice_index_or}
use Rattle.element.specs.Cells.{tabulate}

-- how many of n elements that is: one of each b, and one of what is left
abbrev pub step_count : ℕ → ℕ → ℕ
step_count n b = (n + (b - 1)) / b

-- those elements: the first, the one b behind it, and so on
abbrev pub stepped : {X : Type 0} → X → ℕ → List X → List X
stepped null b xs = tabulate (step_count (length xs) b) (λ k. slice_index_or xs (k * b) null)
