-- A trailer's bytes, field by field.
use Rattle.std.proofs.Common.{◌≡◌, ℕ, List, ◌++◌, length, sym, ◌∙◌}
use Rattle.sheet.specs.Bytes.{le2, le4, here2, here4}
use Rattle.sheet.specs.Trailers.{trailer_bytes}
use Rattle.sheet.specs.declared.trailer.Trailer.{Trailer}
use Rattle.sheet.proofs.Listing.{listing}

pub trailer_whole : (t : Trailer) (s : List ℕ) → length s ≡ 20 → le4 t.offset ≡ here4 s 0 → le2 t.count ≡ here2 s 4 → le2 t.head.width ≡ here2 s 6 → le2 t.head.kind ≡ here2 s 8 → le2 t.head.shape ≡ here2 s 10 → le2 t.head.r ≡ here2 s 12 → le2 t.head.s ≡ here2 s 14 → le2 t.head.form ≡ here2 s 16 → le2 t.mark ≡ here2 s 18 → trailer_bytes t ≡ s
trailer_whole t s long e0 e1 e2 e3 e4 e5 e6 e7 e8 =
    (λ i. e0 i ++ e1 i ++ e2 i ++ e3 i ++ e4 i ++ e5 i ++ e6 i ++ e7 i ++ e8 i) ∙ sym (listing 20 s long)
