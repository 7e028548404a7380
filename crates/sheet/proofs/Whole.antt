-- A file is its note, its rows and its trailer.
use Rattle.std.proofs.Common.{◌≡◌, ℕ, ◌+◌, ◌-◌, ◌*◌, List, ◌++◌, length, take, drop, sym, ap, ◌∙◌, append_assoc, arith, length-drop, length-take, take-append-drop}
use Rattle.std.specs.List.{flat_map}
use Rattle.std.proofs.lemmas.List.{drop-drop, length-take-le}
use Rattle.sheet.specs.Files.{Laid, file_of, tail_of, trailer_for}
use Rattle.sheet.specs.Rows.{row_bytes}
use Rattle.sheet.specs.Trailers.{trailer_bytes}
use Rattle.sheet.specs.declared.head.HeadNumbers.{HeadNumbers}
use Rattle.sheet.specs.declared.row.Row.{Row}
use Rattle.sheet.specs.declared.trailer.Trailer.{Trailer}
use Rattle.sheet.proofs.Places.{joined_length}

pub whole : (f : List ℕ) (t : Trailer) (n : HeadNumbers) (rows : List Row) → Laid (length f) t → t.mark ≡ 0x5047 → trailer_bytes t ≡ tail_of f → n ≡ t.head → flat_map row_bytes rows ≡ take (t.offset + 20 * t.count - t.offset) (drop t.offset f) → f ≡ file_of (take t.offset f) n rows
whole f t n rows laid mark tail head body =
    let a = t.offset in
    let m = 20 * t.count in
    let e : a + m - a ≡ m = omega arith in
    let end : a + m ≡ length f - 20 = omega (arith, laid.whole) in
    let note = take a f in
    let count : length rows ≡ t.count = omega (arith, laid.whole, joined_length rows, ap length body, length-take (a + m - a) (drop a f), length-drop a f) in
    let long : a ≡ length note = sym (length-take-le a f (omega (arith, laid.whole))) in
    let same : t ≡ trailer_for note n rows = λ i. record { offset = long i; count = sym count i; head = sym head i; mark = mark i } in
    let rest : drop a f ≡ flat_map row_bytes rows ++ trailer_bytes (trailer_for note n rows) =
    sym (take-append-drop m (drop a f)) ∙ (λ i. (sym (body ∙ ap (λ k. take k (drop a f)) e)) i ++ (drop-drop m a f ∙ ap (λ k. drop k f) end ∙ sym tail ∙ ap trailer_bytes same) i) in
    sym (take-append-drop a f) ∙ ap (λ l. note ++ l) rest ∙ sym (append_assoc note (flat_map row_bytes rows) _)
