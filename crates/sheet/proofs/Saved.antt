-- Three writes, one after another, make a file.
use Rattle.std.proofs.Common.{◌≡◌, ℕ, ◌+◌, ◌*◌, List, ◌++◌, length, drop, sym, ap, ◌∙◌, arith, length-append}
use Rattle.std.specs.List.{flat_map}
use Rattle.sheet.specs.Bytes.{placed}
use Rattle.sheet.specs.Files.{file_of, trailer_for}
use Rattle.sheet.specs.Rows.{row_bytes}
use Rattle.sheet.specs.Trailers.{trailer_bytes}
use Rattle.sheet.specs.declared.head.HeadNumbers.{HeadNumbers}
use Rattle.sheet.specs.declared.row.Row.{Row}
use Rattle.sheet.proofs.Places.{joined_length, placed_more}

module _ (note : List ℕ) (n : HeadNumbers) (rows : List Row) (k : ℕ) (count : k ≡ length rows) where
  pub saved_length : length note + 20 * k + 20 ≡ length (file_of note n rows)
  saved_length = sym (omega (arith, length-append (note ++ flat_map row_bytes rows) (trailer_bytes (trailer_for note n rows)), length-append note (flat_map row_bytes rows), joined_length rows))

  pub saved : (out o1 o2 o3 : List ℕ) (slice : List Row) (tail : List ℕ) → o1 ≡ placed out 0 note → slice ≡ rows → o2 ≡ placed o1 (length note) (flat_map row_bytes slice) → tail ≡ trailer_bytes (trailer_for note n rows) → o3 ≡ placed o2 (length note + 20 * k) tail → o3 ≡ file_of note n rows ++ drop (length note + 20 * k + 20) out
  saved out o1 o2 o3 slice tail e1 es e2 et e3 =
      let front = note ++ flat_map row_bytes rows in
      let two : o2 ≡ placed out 0 front = e2 ∙ (λ i. placed (e1 i) (length note) (flat_map row_bytes (es i))) ∙ placed_more out 0 (length note) note (flat_map row_bytes rows) (omega arith) (omega arith) in
      let long : length note + 20 * k ≡ 0 + length front = sym (omega (arith, length-append note (flat_map row_bytes rows), joined_length rows)) in
      let three : o3 ≡ placed out 0 (file_of note n rows) = e3 ∙ (λ i. placed (two i) (length note + 20 * k) (et i)) ∙ placed_more out 0 (length note + 20 * k) front (trailer_bytes (trailer_for note n rows)) long (omega arith) in
      let all : 0 + length (file_of note n rows) ≡ length note + 20 * k + 20 = sym (omega (arith, saved_length)) in
      three ∙ ap (λ m. file_of note n rows ++ drop m out) all
