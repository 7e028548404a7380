-- The bytes of a sheet, and what a file must be to hold one.
use Rattle.std.specs.Prelude.{◌≡◌, ℕ, ◌+◌, ◌-◌, ◌*◌, ◌≤◌, List, ◌++◌, length, drop}
use Rattle.std.specs.List.{flat_map}
use Rattle.sheet.specs.Heads.{numbers_of}
use Rattle.sheet.specs.Rooms.{rows_of}
use Rattle.sheet.specs.Rows.{row_bytes}
use Rattle.sheet.specs.Trailers.{trailer_bytes, trailer_of}
use Rattle.sheet.specs.declared.draft.Draft.{Draft}
use Rattle.sheet.specs.declared.head.Head.{Head}
use Rattle.sheet.specs.declared.head.HeadNumbers.{HeadNumbers}
use Rattle.sheet.specs.declared.row.Row.{Row}
use Rattle.sheet.specs.declared.trailer.Trailer.{Trailer}

abbrev pub trailer_for : List ℕ → HeadNumbers → List Row → Trailer
trailer_for note n rows = record { offset = length note; count = length rows; head = n; mark = 0x5047 }

-- a file: the note, the rows, the trailer
abbrev pub file_of : List ℕ → HeadNumbers → List Row → List ℕ
file_of note n rows = note ++ flat_map row_bytes rows ++ trailer_bytes (trailer_for note n rows)

-- the file of a note and a sheet
abbrev pub encode : List ℕ → Draft → List ℕ
encode note d = file_of note (numbers_of d.head) (rows_of d)

-- two drafts of one sheet
pub record Same (d e : Draft) : Type 0 where
  pub head : d.head ≡ e.head
  pub rows : rows_of d ≡ rows_of e

-- a file holds one note and one sheet
abbrev pub Unique : Type 0
Unique = (a b : List ℕ) (d e : Draft) → length a ≤ 4096 → length b ≤ 4096 → encode a d ≡ encode b e → (a ≡ b) × Same d e

-- the last twenty bytes
abbrev pub tail_of : List ℕ → List ℕ
tail_of file = drop (length file - 20) file

-- the trailer that they stand for
abbrev pub last_of : List ℕ → Trailer
last_of file = trailer_of (tail_of file)

-- the file ends in a trailer with the mark
pub record Marked (file : List ℕ) : Type 0 where
  pub long : 20 ≤ length file
  pub mark : (last_of file).mark ≡ 0x5047

-- a note, rows and the trailer make up n bytes
pub record Laid (n : ℕ) (t : Trailer) : Type 0 where
  pub short : t.offset ≤ 4096
  pub some : 1 ≤ t.count
  pub few : t.count ≤ 512
  pub whole : t.offset + 20 * t.count + 20 ≡ n

-- the numbers are those of a lawful head
abbrev pub TypedBy : HeadNumbers → Type 0
TypedBy n = (h : Head) × (numbers_of h ≡ n)

abbrev pub Typed : Trailer → Type 0
Typed t = TypedBy t.head
