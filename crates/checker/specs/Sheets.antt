-- What check answers.
use Rattle.std.specs.Prelude.{◌≡◌, ℕ, ◌<◌, ◌≤◌, List, length, vec_items, vec_capacity}
use Rattle.rules.specs.declared.refusal.Refusal.TheVariants.{NoRoom}
use Rattle.sheet.specs.declared.draft.Draft.{Draft}
use Rattle.sheet.specs.Rooms.{rows_of}
use Rattle.checker.specs.declared.line.Line.{Line}
use Rattle.checker.specs.declared.room.Room.{Room}
use Rattle.checker.specs.declared.checked.CheckedSheet.{CheckedSheet}
use Rattle.checker.specs.declared.refused.Refused.{Refused}
use Rattle.checker.specs.Judge.{Accepted, Faulty}

-- for how many rows a room has space
abbrev pub space_in : Room → ℕ
space_in m = vec_capacity m.lines

-- the lines that a room holds
abbrev pub lines_in : Room → List Line
lines_in m = vec_items m.lines

-- the sheet of the draft, where there is space for a line a row and each row is lawful
pub record Accepts (d : Draft) (m : Room) (c : CheckedSheet) : Type 0 where
  pub spacious : length (rows_of d) ≤ space_in m
  pub same_draft : c.draft ≡ d
  pub same_space : vec_capacity c.lines ≡ space_in m
  pub accepted : Accepted d.head.width d.head.result (rows_of d) (vec_items c.lines)

-- too little space, and the room comes back as it was; or the first row that breaks a rule, the first rule
-- that it breaks, and the lines of the rows before it in the room
pub data Reason (d : Draft) (m : Room) (e : Refused) : Type 0 where
  short : space_in m < length (rows_of d) → e.refusal ≡ NoRoom → e.row ≡ 0 → e.room ≡ m → Reason d m e
  broken : length (rows_of d) ≤ space_in m → Faulty d.head.width d.head.result (rows_of d) (lines_in e.room) e.refusal e.row → Reason d m e

-- what was brought comes back, with the reason
pub record Refuses (d : Draft) (m : Room) (e : Refused) : Type 0 where
  pub same_draft : e.draft ≡ d
  pub same_space : space_in e.room ≡ space_in m
  pub reason : Reason d m e
