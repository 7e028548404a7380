-- The bytes of a row.
use Rattle.std.specs.Prelude.{ℕ, List, ◌++◌}
use Rattle.std.specs.Int.{w32}
use Rattle.std.proofs.Common.{of_z}
use Rattle.sheet.specs.Bytes.{le2, le4}
use Rattle.sheet.specs.declared.row.Row.{Row}

abbrev pub row_bytes : Row → List ℕ
row_bytes x = le2 x.code ++ le2 x.line ++ le2 x.a ++ le2 x.b ++ le2 x.c ++ le2 x.d ++ le2 x.r ++ le2 x.s ++ le4 (of_z w32 x.n)
