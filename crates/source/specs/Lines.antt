-- The line of a reading: its decimal text and a line feed. The text of a table is the lines of its readings.
use Rattle.std.specs.Prelude.{ℕ, List, [], ◌∷◌, ◌++◌, reverse, ℤ}
use Rattle.std.specs.List.{flat_map}
use Rattle.std.specs.Fmt.{signed_decimal}
use Rattle.source.specs.declared.line.Line.{Line}

abbrev pub line_of : ℤ → List ℕ
line_of z = signed_decimal z ++ (10 ∷ [])

abbrev pub lines_of : List ℤ → List ℕ
lines_of zs = flat_map line_of zs

-- the bytes that are left of a line in hand
abbrev pub left_of : Line → List ℕ
left_of l = reverse l.stack.items
