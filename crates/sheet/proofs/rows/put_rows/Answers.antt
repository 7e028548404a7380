use Rattle.std.proofs.Common.{arith}
use Rattle.sheet.proofs.Places.{put_more}
use Rattle.sheet.proofs.rows.put_rows.Goals as goal

pub loop-i-preserved : goal.loop-i-preserved
loop-i-preserved c = put_more c.args.out.now c.loop-i.out c.put.new.out c.args.start c.loop-i.i c.args.rows.now c.index-rows-i.result c.row_bytes.result (omega arith) c.index-rows-i.is (omega arith) c.loop-i.invariant c.row_bytes.ensures c.put.ensures
