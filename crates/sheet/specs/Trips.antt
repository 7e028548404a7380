-- What there and back answers: a file saved again, and a sheet loaded again.
use Rattle.std.specs.Prelude.{◌≡◌, ℕ, ◌<◌, ◌⊎◌, List, ◌++◌, length, drop}
use Rattle.sheet.specs.Answers.{Unloaded, Unsaved}
use Rattle.sheet.specs.Rooms.{rows_of}
use Rattle.sheet.specs.declared.draft.Draft.{Draft}
use Rattle.sheet.specs.declared.refusal.Refusal.{Refusal}
use Rattle.sheet.specs.declared.refusal.Refusal.TheVariants.{NoRoom}

-- n bytes are written, and they are the file's
pub record Resaved (file old new : List ℕ) (n : ℕ) : Type 0 where
  pub len : n ≡ length file
  pub bytes : new ≡ file ++ drop n old

-- a file is not loaded into a room for n rows, or it is longer than the m bytes of the buffer
abbrev pub Unresaved : List ℕ → ℕ → ℕ → Refusal → Type 0
Unresaved file n m x = Unloaded file n x ⊎ ((x ≡ NoRoom) × (m < length file))

-- a sheet is not saved to the m bytes of the buffer, or it has more rows than the room, which is for n
abbrev pub Unreloaded : List ℕ → Draft → ℕ → ℕ → Refusal → Type 0
Unreloaded note d m n x = Unsaved note d m x ⊎ ((x ≡ NoRoom) × (n < length (rows_of d)))
