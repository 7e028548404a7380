-- What load, make and save answer, and when each of them refuses.
use Rattle.std.specs.Prelude.{◌≡◌, ℕ, ◌<◌, ◌≤◌, List, ◌++◌, length, drop}
use Rattle.sheet.specs.Files.{encode, last_of, tail_of, Laid, Marked, Typed, TypedBy}
use Rattle.sheet.specs.Heads.{numbers_of}
use Rattle.sheet.specs.Rooms.{rows_of, space, space_of}
use Rattle.sheet.specs.Trailers.{trailer_bytes}
use Rattle.sheet.specs.declared.draft.Draft.{Draft}
use Rattle.sheet.specs.declared.head.Head.{Head}
use Rattle.sheet.specs.declared.head.HeadNumbers.{HeadNumbers}
use Rattle.sheet.specs.declared.refusal.Refusal.{Refusal}
use Rattle.sheet.specs.declared.refusal.Refusal.TheVariants.{NotASheet, BadLayout, BadHead, NoRoom}
use Rattle.sheet.specs.declared.refusal.Returned.{Returned}
use Rattle.sheet.specs.declared.room.Room.{Room}
use Rattle.sheet.specs.declared.row.Row.{Row}
use Rattle.sheet.specs.declared.trailer.Trailer.{Trailer}

-- a call gives back the very room that it was brought, and this holds of its refusal
pub record GivenBack (m : Room) (e : Returned) (Why : Refusal → Type 0) : Type 0 where
  pub room : e.room ≡ m
  pub why : Why e.refusal

-- the file is that of this note and this draft, which stands in the room that was brought
pub record Loaded (file : List ℕ) (m : Room) (note : List ℕ) (d : Draft) : Type 0 where
  pub bytes : file ≡ encode note d
  pub short : length note ≤ 4096
  pub space : space_of d ≡ space m

-- the trailer at the end of a file and the head that it writes, where the file may be loaded into a room for n rows
pub record Found (file : List ℕ) (n : ℕ) (t : Trailer) (h : Head) : Type 0 where
  pub marked : Marked file
  pub laid : Laid (length file) t
  pub last : t ≡ last_of file
  pub bytes : trailer_bytes t ≡ tail_of file
  pub head : numbers_of h ≡ t.head
  pub room : t.count ≤ n

-- when a file is not loaded into a room for n rows: the cases exclude each other
abbrev pub Unloaded : List ℕ → ℕ → Refusal → Type 0
Unloaded file n NotASheet = Marked file → ⊥
Unloaded file n BadLayout = Marked file × (Laid (length file) (last_of file) → ⊥)
Unloaded file n BadHead = Marked file × Laid (length file) (last_of file) × (Typed (last_of file) → ⊥)
Unloaded file n NoRoom = Marked file × Laid (length file) (last_of file) × Typed (last_of file) × (n < (last_of file).count)

-- 1 to 512 rows
pub record Counted (rows : List Row) : Type 0 where
  pub some : 1 ≤ length rows
  pub few : length rows ≤ 512

-- the draft has this head and these rows, and stands in the room that was brought
pub record Made (n : HeadNumbers) (xs : List Row) (m : Room) (d : Draft) : Type 0 where
  pub head : numbers_of d.head ≡ n
  pub rows : rows_of d ≡ xs
  pub space : space_of d ≡ space m

-- when no draft is made in a room for m rows: the cases exclude each other
abbrev pub Unmade : HeadNumbers → List Row → ℕ → Refusal → Type 0
Unmade n rows m NotASheet = ⊥
Unmade n rows m BadLayout = Counted rows → ⊥
Unmade n rows m BadHead = Counted rows × (TypedBy n → ⊥)
Unmade n rows m NoRoom = Counted rows × TypedBy n × (m < length rows)

-- n bytes are written to the start of a buffer, and the others are as they were
pub record Saved (note : List ℕ) (d : Draft) (old new : List ℕ) (n : ℕ) : Type 0 where
  pub short : length note ≤ 4096
  pub len : n ≡ length (encode note d)
  pub bytes : new ≡ encode note d ++ drop n old

-- when a sheet is not written to a buffer of m bytes: the cases exclude each other
abbrev pub Unsaved : List ℕ → Draft → ℕ → Refusal → Type 0
Unsaved note d m NotASheet = ⊥
Unsaved note d m BadLayout = 4096 < length note
Unsaved note d m BadHead = ⊥
Unsaved note d m NoRoom = (length note ≤ 4096) × (m < length (encode note d))

-- nothing is written
pub record Kept (old new : List ℕ) (Why : Type 0) : Type 0 where
  pub bytes : new ≡ old
  pub why : Why
