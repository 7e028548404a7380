-- Bytes that are placed one after another.
use Rattle.std.proofs.Common.{◌≡◌, ℕ, zero, suc, ◌+◌, ◌-◌, ◌*◌, ◌<◌, ◌≤◌, List, [], ◌∷◌, ◌++◌, length, get_or, take, drop, sym, refl, ap, ◌∙◌, append_assoc, add-zero, add_assoc, arith, length-append, length-drop, take-append-drop, map}
use borrow.Rule.Slice.PartMut.{put_mid}
use Rattle.std.specs.List.{flat_map}
use Rattle.std.specs.Simd.{first_chunks}
use Rattle.std.proofs.lemmas.List.{drop-drop, take_more, flat_map_more, take_at, drop_at, length-take-le}
use Rattle.sheet.specs.Bytes.{placed}
use Rattle.sheet.specs.Rows.{row_bytes}
use Rattle.sheet.specs.declared.row.Row.{Row}

-- what a write to `out[a..a + length bs]` leaves
pub put_placed : (out : List ℕ) (a : ℕ) (ys bs : List ℕ) → ys ≡ bs → put_mid a (a + length bs - a) out ys ≡ placed out a bs
put_placed out a ys bs e =
    let l : a + length bs - a ≡ length bs = omega arith in
    (λ i. take a out ++ (e i ++ drop (l i) (drop a out))) ∙ ap (λ z. take a out ++ (bs ++ z)) (drop-drop (length bs) a out)

pub placed_none : (out : List ℕ) (a : ℕ) → placed out a [] ≡ out
placed_none out a = ap (λ m. take a out ++ drop m out) (add-zero a) ∙ take-append-drop a out

pub placed_more : (out : List ℕ) (a n : ℕ) (xs ys : List ℕ) → n ≡ a + length xs → a ≤ length out → placed (placed out a xs) n ys ≡ placed out a (xs ++ ys)
placed_more out a n xs ys e h =
    let front : length (take a out ++ xs) ≡ n = length-append (take a out) xs ∙ omega (arith, length-take-le a out h) in
    let rest = drop (a + length xs) out in
    let split : placed out a xs ≡ (take a out ++ xs) ++ rest = sym (append_assoc (take a out) xs rest) in
    let low : take n (placed out a xs) ≡ take a out ++ xs = ap (take n) split ∙ take_at _ rest n front in
    let high : drop n (placed out a xs) ≡ rest = ap (drop n) split ∙ drop_at (take a out ++ xs) _ n front in
    let after : drop (n + length ys) (placed out a xs) ≡ drop (a + length (xs ++ ys)) out =
    sym (drop-drop (length ys) n (placed out a xs)) ∙ ap (drop (length ys)) high ∙ drop-drop (length ys) (a + length xs) out ∙ ap (λ m. drop m out) (add_assoc a (length xs) (length ys) ∙ ap (λ m. a + m) (sym (length-append xs ys))) in
    (λ i. low i ++ (ys ++ after i)) ∙ append_assoc (take a out) xs _ ∙ ap (λ z. take a out ++ z) (sym (append_assoc xs ys _))

pub joined_length : (xs : List Row) → length (flat_map row_bytes xs) ≡ 20 * length xs
joined_length [] = refl
joined_length (x ∷ xs) = omega (arith, joined_length xs)

-- one row more, of those that are joined
pub joined_step : (rows : List Row) (i : ℕ) (row : Row) → i < length rows → row ≡ get_or rows i row → flat_map row_bytes (take i rows) ++ row_bytes row ≡ flat_map row_bytes (take (i + 1) rows)
joined_step rows i row h e = flat_map_more row_bytes [] (take i rows) row ∙ ap (flat_map row_bytes) (ap (λ x. take i rows ++ x ∷ []) e ∙ sym (take_more rows i row h))

-- a turn of `put_rows`
pub put_more : (out was next : List ℕ) (start i : ℕ) (rows : List Row) (row : Row) (bytes : List ℕ) → i < length rows → row ≡ get_or rows i row → start ≤ length out → was ≡ placed out start (flat_map row_bytes (take i rows)) → bytes ≡ row_bytes row → next ≡ placed was (start + 20 * i) bytes → next ≡ placed out start (flat_map row_bytes (take (i + 1) rows))
put_more out was next start i rows row bytes h is l inv e n =
    n ∙ (λ j. placed (inv j) (start + 20 * i) (e j)) ∙ placed_more out start (start + 20 * i) (flat_map row_bytes (take i rows)) (row_bytes row) (omega (arith, joined_length (take i rows), length-take-le i rows (omega arith))) l ∙ ap (placed out start) (joined_step rows i row h is)

-- rows whose bytes are the runs of twenty of a body are the body's rows
pub joined_parts : (rows : List Row) (k : ℕ) (body : List ℕ) → length body ≡ 20 * k → map row_bytes rows ≡ first_chunks 20 k body → flat_map row_bytes rows ≡ body
joined_parts [] zero [] l e = refl
joined_parts [] zero (b ∷ bs) l e = absurd (omega arith)
joined_parts [] (suc k) body l e = absurd (cc)
joined_parts (x ∷ xs) zero body l e = absurd (cc)
joined_parts (x ∷ xs) (suc k) body l e =
    let first : row_bytes x ≡ take 20 body = cc in
    let rest : flat_map row_bytes xs ≡ drop 20 body = joined_parts xs k (drop 20 body) (omega (arith, length-drop 20 body)) (cc) in
    (λ i. first i ++ rest i) ∙ take-append-drop 20 body
