use Rattle.std.proofs.Common.{vec_items, ap, ◌∙◌, arith, length-take}
use Rattle.sheet.specs.Heads.{numbers_of}
use Rattle.sheet.proofs.Whole.{whole}
use Rattle.sheet.proofs.reading.parse.Goals as goal

pub returns-in-Ok : goal.returns-in-Ok
returns-in-Ok c =
    let file = c.args.file.now in
    let t = c.in-Ok.trailer in
    let found = c.in-Ok.ensures in
    let rows = vec_items c.read_rows-rows.result in
    let r = c.read_rows-rows.ensures in
    record {
      bytes = whole file t (numbers_of c.in-Ok.head) rows found.laid (ap (λ x. x.mark) found.last ∙ found.marked.mark) found.bytes found.head r.bytes;
      short = omega (arith, length-take t.offset file, found.laid.short);
      space = r.capacity;
    }
