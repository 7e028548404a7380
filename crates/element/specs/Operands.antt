-- The cells of an operand, and its elements.
use Rattle.std.specs.Prelude.{ℕ, ◌+◌, List, replicate, slice_index_or}
use Rattle.element.specs.Cells.{cells}
use Rattle.element.specs.declared.operands.Operand.{Operand}
use Rattle.element.specs.declared.operands.Operand.TheVariants.{Run, Scalar}

-- the first cell
abbrev pub start_of : Operand → ℕ
start_of (Run at) = at
start_of (Scalar at) = at

-- where the element k lies, from 0
abbrev pub place_of : Operand → ℕ → ℕ
place_of (Run at) k = at + k
place_of (Scalar at) k = at

-- where n elements end
abbrev pub end_of : Operand → ℕ → ℕ
end_of (Run at) n = at + n
end_of (Scalar at) n = at + 1

-- the n elements
abbrev pub along : {X : Type 0} → X → List X → Operand → ℕ → List X
along null table (Run at) n = cells table at n
along null table (Scalar at) n = replicate n (slice_index_or table at null)
