-- One line padded with nulls to a matrix, and an interval written so.
use Rattle.std.proofs.Common.{◌≡◌, ℕ, zero, suc, ◌+◌, ◌-◌, ◌*◌, ◌≤◌, List, [], ◌∷◌, ◌++◌, map, length, get_or, take, drop, replicate, ℤ, pos, ◌+ℤ◌, sym, ap, ◌∙◌, append_assoc, le_refl, suc-mul, zero-mul, arith}
use Rattle.std.specs.List.{range_with_len}
use Rattle.std.proofs.lemmas.List.{take_all, get_or_past, replicate-append-replicate}
use Rattle.std.proofs.lemmas.List.FromFn.{length-map-range_with_len}
use Rattle.element.specs.Cells.{put, padded, joined, rows_of}
use Rattle.element.specs.Matrices.{resized}
use Rattle.element.proofs.Writes.{put_put}
use Rattle.picks.specs.Indices.{spanned, between}

module _ {X : Type 0} (null : X) (s : ℕ) where
  empty_row : padded null s [] ≡ replicate s null
  empty_row =
      let z : s - 0 ≡ s = omega arith in
      ap (λ (xs : List X). xs ++ replicate (s - 0) null) (take_all s [] (omega arith)) ∙ ap (λ (n : ℕ). replicate n null) z

  module _ (x : List X) where
    abbrev row : ℕ → List X
    row k = padded null s (get_or (x ∷ []) k [])

    -- the rows past the only one
    rows_under : (n j : ℕ) → 1 ≤ j → joined (map row (range_with_len j n)) ≡ replicate (n * s) null
    rows_under zero j h = ap (λ (m : ℕ). replicate m null) (sym (zero-mul s))
    rows_under (suc n) j h =
        let e : row j ≡ replicate s null = ap (padded null s) (get_or_past (x ∷ []) j [] (omega arith)) ∙ empty_row in
        let r : joined (map row (range_with_len (j + 1) n)) ≡ replicate (n * s) null = rows_under n (j + 1) (omega arith) in
        let m : s + n * s ≡ suc n * s = omega (arith, suc-mul n s) in
        (λ i. e i ++ r i) ∙ replicate-append-replicate s (n * s) null ∙ ap (λ (k : ℕ). replicate k null) m

    one_line : (r : ℕ) → 1 ≤ r → length x ≤ s → resized null r s (x ∷ []) ≡ x ++ replicate (r * s - length x) null
    one_line zero h l = absurd (omega arith)
    one_line (suc n) h l =
        let e : padded null s x ≡ x ++ replicate (s - length x) null = ap (λ (xs : List X). xs ++ replicate (s - length x) null) (take_all s x l) in
        let r : joined (map row (range_with_len 1 n)) ≡ replicate (n * s) null = rows_under n 1 (omega arith) in
        let m : s - length x + n * s ≡ suc n * s - length x = omega (arith, suc-mul n s) in
        (λ i. e i ++ r i) ∙ append_assoc x (replicate (s - length x) null) (replicate (n * s) null)
        ∙ ap (λ (ys : List X). x ++ ys) (replicate-append-replicate (s - length x) (n * s) null ∙ ap (λ (k : ℕ). replicate k null) m)

    rows_one : rows_of 1 (length x) x ≡ x ∷ []
    rows_one = ap (λ (y : List X). y ∷ []) (ap (λ (k : ℕ). take (length x) (drop k x)) (zero-mul (length x)) ∙ take_all (length x) x (le_refl _))

    -- a matrix of one line x of m elements, padded
    pub line_padded : (r m : ℕ) → length x ≡ m → 1 ≤ r → m ≤ s → resized null r s (rows_of 1 m x) ≡ x ++ replicate (r * s - m) null
    line_padded r m e h l =
        ap (λ (k : ℕ). resized null r s (rows_of 1 k x)) (sym e) ∙ ap (resized null r s) rows_one ∙ one_line r h (omega (arith, e)) ∙ ap (λ (k : ℕ). x ++ replicate (r * s - k) null) e

pub length_between : (low high : ℤ) → length (between low high) ≡ spanned low high
length_between low high = length-map-range_with_len (λ k. low +ℤ pos k) 0 (spanned low high)

-- an interval, and nulls behind it
pub padded_written : (T U V : List ℤ) (to n count : ℕ) (low high z : ℤ) → count ≡ spanned low high → U ≡ put T to (between low high) → V ≡ put U (to + count) (replicate (n - count) z) → to ≤ length T
    → V ≡ put T to (between low high ++ replicate (n - spanned low high) z)
padded_written T U V to n count low high z e u v h =
    v ∙ ap (λ (S : List ℤ). put S (to + count) (replicate (n - count) z)) u
    ∙ put_put T (between low high) (replicate (n - count) z) to count (length_between low high ∙ sym e) h
    ∙ ap (λ (m : ℕ). put T to (between low high ++ replicate (n - m) z)) e
