use Rattle.std.proofs.Common.{◌≡◌, take, vec_items, vec_len, vec_capacity}
use Rattle.sheet.proofs.rows.copy_rows.Given as goal

abbrev pub invariant-loop-row : goal.invariant-loop-row
invariant-loop-row l = record {
  items : vec_items l.rows ≡ take l.row-index l.from;
  len : vec_len l.rows ≡ l.row-index;
  capacity : vec_capacity l.rows ≡ vec_capacity l.initial.rows;
}
