use Rattle.std.proofs.Common.{rules}
use Rattle.sheet.proofs.TrailerParts.{trailer_whole}
use Rattle.sheet.proofs.trailer.read_trailer.Goals as goal

pub returns-clause-bytes : goal.returns-clause-bytes
returns-clause-bytes c = trailer_whole _ c.args.tail.now (search rules) c.read_u32.ensures.bytes c.read_u16-7.ensures.bytes c.read_u16.ensures.bytes c.read_u16-2.ensures.bytes c.read_u16-3.ensures.bytes c.read_u16-4.ensures.bytes c.read_u16-5.ensures.bytes c.read_u16-6.ensures.bytes c.read_u16-8.ensures.bytes
