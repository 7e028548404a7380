-- The bytes that wait in a recorder.
use Rattle.std.specs.Prelude.{ℕ, List, ◌++◌}
use Rattle.source.specs.Lines.{lines_of, left_of}
use Rattle.source.specs.declared.recorder.Recorder.{Recorder}

-- the rest of the line in hand, then the lines of the readings after it
abbrev pub recorded : Recorder → List ℕ
recorded r = left_of r.line ++ lines_of r.readings.now
