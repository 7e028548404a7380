use Rattle.std.proofs.Common.{◌≡◌, length, vec_items, refl, ◌∙◌, arith, rules}
use Rattle.sheet.specs.Heads.{numbers_of}
use Rattle.sheet.specs.Trailers.{trailer_bytes}
use Rattle.sheet.proofs.Saved.{saved, saved_length}
use Rattle.sheet.proofs.draft.Draft.save.Goals as goal

pub returns-then-out-len : goal.returns-then-out-len
returns-then-out-len c =
    let note = c.args.note.now in
    let d = c.args.self.now in
    let rows = vec_items d.rows in
    let k : c.len-count.result ≡ length rows = search rules in
    record { bytes = refl; why = (omega arith, omega (arith, saved_length note (numbers_of d.head) rows c.len-count.result k)) }

pub returns : goal.returns
returns c =
    let note = c.args.note.now in
    let d = c.args.self.now in
    let rows = vec_items d.rows in
    let n = c.len-count.result in
    let k : n ≡ length rows = search rules in
    let t : c.trailer_bytes.result ≡ trailer_bytes (record { offset = length note; count = length rows; head = numbers_of d.head; mark = 0x5047 }) = c.trailer_bytes.ensures ∙ (λ i. trailer_bytes (record { offset = length note; count = k i; head = c.from.ensures i; mark = 0x5047 })) in
    record {
      short = omega arith;
      len = saved_length note (numbers_of d.head) rows n k;
      bytes = saved note (numbers_of d.head) rows n k c.args.out.now c.put.new.out c.put_rows.new.out c.put-2.new.out c.as_slice.result.now c.trailer_bytes.result c.put.ensures c.as_slice.ensures.value c.put_rows.ensures t c.put-2.ensures;
    }
