use Rattle.std.proofs.Common.{◌≡◌, map, take, vec_items, vec_len, vec_capacity}
use Rattle.sheet.specs.Rows.{row_bytes}
use Rattle.sheet.proofs.rows.read_rows.Given as goal

abbrev pub invariant-loop-part : goal.invariant-loop-part
invariant-loop-part l = record {
  parts : map row_bytes (vec_items l.rows) ≡ take l.part-index l.parts;
  len : vec_len l.rows ≡ l.part-index;
  capacity : vec_capacity l.rows ≡ vec_capacity l.initial.rows;
}
