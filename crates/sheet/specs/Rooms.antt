-- What a draft holds, and for how many rows a room has space.
use Rattle.std.specs.Prelude.{ℕ, List, vec_items, vec_capacity}
use Rattle.sheet.specs.declared.draft.Draft.{Draft}
use Rattle.sheet.specs.declared.room.Room.{Room}
use Rattle.sheet.specs.declared.row.Row.{Row}

abbrev pub rows_of : Draft → List Row
rows_of d = vec_items d.rows

abbrev pub space : Room → ℕ
space m = vec_capacity m.rows

-- the space of the room that a draft gives back
abbrev pub space_of : Draft → ℕ
space_of d = vec_capacity d.rows
