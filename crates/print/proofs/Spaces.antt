-- Texts with spaces between them, one by one: a vector's elements, or a matrix's rows, each with its text.
use Rattle.std.proofs.Common.{◌≡◌, ℕ, zero, suc, ◌+◌, ◌-◌, ◌*◌, ◌<◌, ◌≤◌, List, [], ◌∷◌, ◌++◌, map, length, get_or, take, set, sym, refl, ap, ◌∙◌, append_assoc, add_assoc, suc-mul, le_trans, arith}
use Rattle.std.specs.List.{sum_by}
use Rattle.std.proofs.lemmas.List.FromFn.{length-map-range_with_len}
use Rattle.std.proofs.lemmas.List.Sums.{sum_by-cons, sum_by_more, sum_by-take-le}
use Rattle.std.proofs.lemmas.List.{append-nil, length-append, length-map, length-take, take-map, get_or-map, get_or_default, take_all}
use Rattle.element.specs.Cells.{put, cells, joined, rows_of}
use Rattle.element.proofs.Lines.{joined_more, row_of}
use Rattle.element.proofs.Writes.{put_put, put_one, put_more, length_cells}
use Rattle.print.specs.Texts.{spaced, bracketed, gap, vector_text}

abbrev behind : List ℕ → List ℕ
behind u = 32 ∷ u

-- ---- lengths
length_behind : (ts : List (List ℕ)) → length (joined (map behind ts)) ≡ sum_by length ts + length ts
length_behind [] = refl
length_behind (t ∷ ts) = omega (arith, length-append t (joined (map behind ts)), length_behind ts, sum_by-cons length t ts)

-- the texts, and a space between each two
pub length_spaced : (ts : List (List ℕ)) → length (spaced ts) ≡ sum_by length ts + (length ts - 1)
length_spaced [] = refl
length_spaced (t ∷ ts) = omega (arith, length-append t (joined (map behind ts)), length_behind ts, sum_by-cons length t ts)

pub length_bracketed : (ts : List (List ℕ)) → length (bracketed ts) ≡ length (spaced ts) + 2
length_bracketed ts = omega (arith, length-append (spaced ts) (93 ∷ []))

-- the first texts are no longer than all
spaced_short : (ts : List (List ℕ)) (k : ℕ) → length (spaced (take k ts)) ≤ length (spaced ts)
spaced_short ts k = omega (arith, length_spaced ts, length_spaced (take k ts), sum_by-take-le length ts k, length-take k ts)

-- one more text, behind its gap
spaced_more : (ts : List (List ℕ)) (k : ℕ) → k < length ts → spaced (take (k + 1) ts) ≡ spaced (take k ts) ++ (gap k ++ get_or ts k [])
spaced_more [] k h = absurd (omega arith)
spaced_more (t ∷ ts) zero h = append-nil t
spaced_more (t ∷ ts) (suc k) h =
    let e : suc k + 1 ≡ suc (k + 1) = omega arith in
    let l : k < length (map behind ts) = simp length-map (omega arith) in
    ap (λ (i : ℕ). spaced (take i (t ∷ ts))) e
    ∙ ap (λ (us : List (List ℕ)). t ++ joined us) (sym (take-map behind (k + 1) ts))
    ∙ ap (λ (xs : List ℕ). t ++ xs) (joined_more (map behind ts) k l)
    ∙ ap (λ (us : List (List ℕ)). t ++ (joined us ++ get_or (map behind ts) k [])) (take-map behind k ts)
    ∙ ap (λ (xs : List ℕ). t ++ (joined (map behind (take k ts)) ++ xs)) (get_or-map behind ts k [] [] (omega arith))
    ∙ sym (append_assoc t (joined (map behind (take k ts))) (32 ∷ get_or ts k []))

length_spaced_more : (ts : List (List ℕ)) (k : ℕ) → k < length ts → length (spaced (take (k + 1) ts)) ≡ length (spaced (take k ts)) + (length (gap k) + length (get_or ts k []))
length_spaced_more ts k h = ap length (spaced_more ts k h) ∙ length-append (spaced (take k ts)) (gap k ++ get_or ts k []) ∙ ap (λ (n : ℕ). length (spaced (take k ts)) + n) (length-append (gap k) (get_or ts k []))

pub gap_first : (k : ℕ) → k ≡ 0 → gap k ≡ []
gap_first zero e = refl
gap_first (suc k) e = absurd (omega arith)

pub gap_later : (k : ℕ) → (k ≡ 0 → ⊥) → gap k ≡ 32 ∷ []
gap_later zero e = absurd (e refl)
gap_later (suc k) e = refl

module _ {X : Type 0} (text : X → List ℕ) where
  texts_sum : (xs : List X) → sum_by length (map text xs) ≡ sum_by (λ x. length (text x)) xs
  texts_sum [] = refl
  texts_sum (x ∷ xs) = sum_by-cons length (text x) (map text xs) ∙ ap (λ (n : ℕ). length (text x) + n) (texts_sum xs) ∙ sym (sum_by-cons (λ (x : X). length (text x)) x xs)

  pub length_vector : (xs : List X) → length (vector_text text xs) ≡ 2 + (length xs - 1) + sum_by (λ x. length (text x)) xs
  length_vector xs = omega (arith, length_bracketed (map text xs), length_spaced (map text xs), length-map xs text, texts_sum xs)

  -- where each text has at most m bytes
  pub texts_le : (m : ℕ) → ((x : X) → length (text x) ≤ m) → (xs : List X) → sum_by (λ x. length (text x)) xs ≤ length xs * m
  texts_le m brief [] = omega arith
  texts_le m brief (x ∷ xs) = omega (arith, sum_by-cons (λ (x : X). length (text x)) x xs, texts_le m brief xs, brief x, suc-mul (length xs) m)

  pub short_texts : (m : ℕ) → m ≤ 255 → ((x : X) → length (text x) ≤ m) → (T : List X) (at n : ℕ) → at + n ≤ length T → sum_by (λ x. length (text x)) (cells T at n) ≤ n * 255
  short_texts m narrow brief T at n h =
      let le = texts_le 255 (λ x. le_trans (brief x) narrow) (cells T at n) in
      rw (length_cells T at n h) at le

-- ---- the texts of xs, written one by one into O from `base` on: the first k of them lie in S, and end at `end`
pub record Begun {X : Type 0} (text : X → List ℕ) (xs : List X) (O : List ℕ) (base k : ℕ) (S : List ℕ) (end : ℕ) : Type 0 where
  pub written : S ≡ put O base (spaced (take k (map text xs)))
  pub ends : end ≡ base + length (spaced (take k (map text xs)))

module _ {X : Type 0} (text : X → List ℕ) (xs : List X) where
  text_at : (k : ℕ) (x : X) → k < length xs → x ≡ get_or xs k x → get_or (map text xs) k [] ≡ text x
  text_at k x h is = get_or-map text xs k x [] h ∙ ap text (sym is)

  -- a turn: the k-th text is written behind its gap
  pub begun_more : (O S U V : List ℕ) (base end start after k : ℕ) (x : X) → k < length xs → base ≤ length O
      → Begun text xs O base k S end → U ≡ put S end (gap k) → start ≡ end + length (gap k) → V ≡ put U start (text x) → after ≡ start + length (text x) → x ≡ get_or xs k x
      → Begun text xs O base (k + 1) V after
  begun_more O S U V base end start after k x h room b u f v a is =
      let ts = map text xs in
      let R = spaced (take k ts) in
      let l : k < length ts = simp length-map h in
      let t : get_or ts k [] ≡ text x = text_at k x h is in
      record {
        written =
            v ∙ ap (λ (ys : List ℕ). put ys start (text x)) (u ∙ ap (λ (ys : List ℕ). put ys end (gap k)) b.written ∙ ap (λ (i : ℕ). put (put O base R) i (gap k)) b.ends ∙ put_put O R (gap k) base (length R) refl room)
            ∙ ap (λ (i : ℕ). put (put O base (R ++ gap k)) i (text x)) (f ∙ ap (λ (i : ℕ). i + length (gap k)) b.ends ∙ add_assoc base (length R) (length (gap k)))
            ∙ put_put O (R ++ gap k) (text x) base (length R + length (gap k)) (length-append R (gap k)) room
            ∙ ap (put O base) (append_assoc R (gap k) (text x) ∙ ap (λ (ys : List ℕ). R ++ (gap k ++ ys)) (sym t) ∙ sym (spaced_more ts k l));
        ends = omega (arith, b.ends, length_spaced_more ts k l, ap length t);
      }

  -- the k-th text ends before the closing bracket
  pub begun_fits : (O S : List ℕ) (from end k room : ℕ) (x : X) → k < length xs → Begun text xs O (from + 1) k S end → x ≡ get_or xs k x → from + length (vector_text text xs) ≤ room → end + length (gap k) + length (text x) + 1 ≤ room
  begun_fits O S from end k room x h b is fits =
      let ts = map text xs in
      omega (arith, b.ends, length_spaced_more ts k (simp length-map h), spaced_short ts (k + 1), length_bracketed ts, ap length (text_at k x h is))

  -- and then the closing bracket
  begun_whole : (k : ℕ) → length xs ≤ k → take k (map text xs) ≡ map text xs
  begun_whole k h = take_all k (map text xs) (simp length-map h)

  pub begun_end : (O S : List ℕ) (from end k : ℕ) → length xs ≤ k → Begun text xs O (from + 1) k S end → end + 1 ≡ from + length (vector_text text xs)
  begun_end O S from end k h b = omega (arith, b.ends, length_bracketed (map text xs), ap (λ (us : List (List ℕ)). length (spaced us)) (begun_whole k h))

  pub begun_all : (O S : List ℕ) (from end k : ℕ) → length xs ≤ k → from + length (vector_text text xs) ≤ length O → Begun text xs (set O from 91) (from + 1) k S end → set S end 93 ≡ put O from (vector_text text xs)
  begun_all O S from end k h fits b =
      let ts = map text xs in
      let l = length_bracketed ts in
      let m : end + 1 ≡ from + length (vector_text text xs) = begun_end (set O from 91) S from end k h b in
      ap (λ (ys : List ℕ). set ys end 93)
      (b.written ∙ ap (λ (us : List (List ℕ)). put (set O from 91) (from + 1) (spaced us)) (begun_whole k h) ∙ ap (λ (ys : List ℕ). put ys (from + 1) (spaced ts)) (put_one O from 91 (omega arith)) ∙ put_put O (91 ∷ []) (spaced ts) from 1 refl (omega arith))
      ∙ put_more O (91 ∷ spaced ts) from end 93 (omega arith) (omega arith)

-- ---- the rows of a matrix
module _ {X : Type 0} (T : List X) (at r s : ℕ) where
  pub length_rows : length (rows_of r s (cells T at (r * s))) ≡ r
  length_rows = length-map-range_with_len (λ k. cells (cells T at (r * s)) (k * s) s) 0 r

  pub row_is : (k : ℕ) → k < r → cells T (at + k * s) s ≡ get_or (rows_of r s (cells T at (r * s))) k (cells T (at + k * s) s)
  row_is k h = sym (row_of T at r s k h) ∙ get_or_default (rows_of r s (cells T at (r * s))) k [] (cells T (at + k * s) s) (omega (arith, length_rows))

  pub rows_more : (text : X → List ℕ) (k : ℕ) → k < r → sum_by (λ x. length (vector_text text x)) (take (k + 1) (rows_of r s (cells T at (r * s)))) ≡ sum_by (λ x. length (vector_text text x)) (take k (rows_of r s (cells T at (r * s)))) + length (vector_text text (cells T (at + k * s) s))
  rows_more text k h =
      let rows = rows_of r s (cells T at (r * s)) in
      sum_by_more (λ (x : List X). length (vector_text text x)) rows k [] (omega (arith, length_rows))
      ∙ ap (λ (x : List X). sum_by (λ (y : List X). length (vector_text text y)) (take k rows) + length (vector_text text x)) (row_of T at r s k h)
