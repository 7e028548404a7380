-- The bytes of a trailer, and the trailer that twenty bytes hold.
use Rattle.std.specs.Prelude.{ℕ, List, ◌++◌}
use Rattle.sheet.specs.Bytes.{le2, le4, two, four}
use Rattle.sheet.specs.declared.head.HeadNumbers.{HeadNumbers}
use Rattle.sheet.specs.declared.trailer.Trailer.{Trailer}

abbrev pub trailer_bytes : Trailer → List ℕ
trailer_bytes t = le4 t.offset ++ le2 t.count ++ le2 t.head.width ++ le2 t.head.kind ++ le2 t.head.shape ++ le2 t.head.r ++ le2 t.head.s ++ le2 t.head.form ++ le2 t.mark

abbrev pub head_at : List ℕ → HeadNumbers
head_at s = record { width = two s 6; kind = two s 8; shape = two s 10; r = two s 12; s = two s 14; form = two s 16 }

abbrev pub trailer_of : List ℕ → Trailer
trailer_of s = record { offset = four s 0; count = two s 4; head = head_at s; mark = two s 18 }
