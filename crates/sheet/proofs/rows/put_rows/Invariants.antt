use Rattle.std.proofs.Common.{◌≡◌, take}
use Rattle.std.specs.List.{flat_map}
use Rattle.sheet.specs.Bytes.{placed}
use Rattle.sheet.specs.Rows.{row_bytes}
use Rattle.sheet.proofs.rows.put_rows.Given as goal

abbrev pub invariant-loop-i : goal.invariant-loop-i
invariant-loop-i l = l.out ≡ placed l.initial.out l.start (flat_map row_bytes (take l.i l.rows))
