-- The bytes of a text that wait, and how many there may be.
use Rattle.std.specs.Prelude.{ℕ, ◌≤◌, List, length}
use Rattle.source.specs.declared.text.Text.{Text}

abbrev pub unread : Text → List ℕ
unread t = t.left.now

pub unread_short : (t : Text) → length (unread t) ≤ 16777216
unread_short t = t.short
