use Rattle.std.proofs.Common.{w32, SFits, to_z, of_z, rules}
use Rattle.std.proofs.lemmas.Int.{to_z-of_z}
use Rattle.sheet.proofs.RowParts.{row_whole}
use Rattle.sheet.proofs.row_codec.read_row.Goals as goal

pub returns : goal.returns
returns c =
    let f : SFits w32 c.read_i32.result = search rules in
    row_whole c.read_u16.result c.read_u16-2.result c.read_u16-3.result c.read_u16-4.result c.read_u16-5.result c.read_u16-6.result c.read_u16-7.result c.read_u16-8.result (to_z w32 (of_z w32 c.read_i32.result)) c.read_i32.result c.args.part.now (search rules) c.read_u16.ensures.bytes c.read_u16-2.ensures.bytes c.read_u16-3.ensures.bytes c.read_u16-4.ensures.bytes c.read_u16-5.ensures.bytes c.read_u16-6.ensures.bytes c.read_u16-7.ensures.bytes c.read_u16-8.ensures.bytes (to_z-of_z w32 c.read_i32.result f) c.read_i32.ensures
