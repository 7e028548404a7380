-- A row's bytes, field by field.
use Rattle.std.proofs.Common.{◌≡◌, ℕ, List, ◌++◌, length, ℤ, sym, ap, ◌∙◌, w32, of_z}
use Rattle.sheet.specs.Bytes.{le2, le4, here2, here4}
use Rattle.sheet.proofs.Listing.{listing}

pub row_whole : (code line a b c d r t : ℕ) (z n : ℤ) (s : List ℕ) → length s ≡ 20 → le2 code ≡ here2 s 0 → le2 line ≡ here2 s 2 → le2 a ≡ here2 s 4 → le2 b ≡ here2 s 6 → le2 c ≡ here2 s 8 → le2 d ≡ here2 s 10 → le2 r ≡ here2 s 12 → le2 t ≡ here2 s 14 → z ≡ n → le4 (of_z w32 n) ≡ here4 s 16 → le2 code ++ le2 line ++ le2 a ++ le2 b ++ le2 c ++ le2 d ++ le2 r ++ le2 t ++ le4 (of_z w32 z) ≡ s
row_whole code line a b c d r t z n s long e0 e1 e2 e3 e4 e5 e6 e7 same e8 =
    (λ i. e0 i ++ e1 i ++ e2 i ++ e3 i ++ e4 i ++ e5 i ++ e6 i ++ e7 i ++ (ap (λ x. le4 (of_z w32 x)) same ∙ e8) i) ∙ sym (listing 20 s long)
