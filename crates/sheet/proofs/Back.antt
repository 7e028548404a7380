-- What was written reads back as it was.
use Rattle.std.proofs.Common.{◌≡◌, ℕ, ◌+◌, ◌-◌, ◌*◌, ◌/◌, ◌%◌, ◌^◌, ◌<◌, ◌≤◌, List, [], ◌∷◌, ◌++◌, length, take, drop, ℤ, sym, refl, ap, ◌∙◌, append_assoc, arith, length-append, w32, SFits, to_z, of_z}
use mathlib.Core.HLevel.{is_prop→PathP}
use native.Mathlib.Nat.{div-div-eq-div-mul}
use lib.Signed.{mag}
use denote.Struct.Props.{props}
use mir.Facts.{Fits-of_z}
use Rattle.std.specs.List.{flat_map}
use Rattle.std.proofs.lemmas.List.{drop_at, take_at}
use Rattle.std.proofs.lemmas.Int.{to_z-of_z}
use Rattle.sheet.specs.Bytes.{le2, le4, two, four}
use Rattle.sheet.specs.Files.{file_of, last_of, trailer_for}
use Rattle.sheet.specs.Rows.{row_bytes}
use Rattle.sheet.specs.Trailers.{trailer_bytes, trailer_of}
use Rattle.sheet.specs.declared.head.HeadNumbers.{HeadNumbers}
use Rattle.sheet.specs.declared.row.Row.{Row}
use Rattle.sheet.specs.declared.trailer.Trailer.{Trailer}
use Rattle.sheet.proofs.Places.{joined_length}

back2 : (n : ℕ) → n < 65536 → two (le2 n) 0 ≡ n
back2 n h = omega arith

digits4 : (n : ℕ) → n < 2 ^ 32 → n % 256 + n / 256 % 256 * 256 + n / 256 / 256 % 256 * 65536 + n / 256 / 256 / 256 % 256 * 16777216 ≡ n
digits4 n h = omega arith

back4 : (n : ℕ) → n < 2 ^ 32 → four (le4 n) 0 ≡ n
back4 n h =
    let e2 : n / 65536 ≡ n / 256 / 256 = sym (div-div-eq-div-mul n 256 256) in
    let e3 : n / 16777216 ≡ n / 256 / 256 / 256 = sym (div-div-eq-div-mul n 65536 256) ∙ ap (λ q. q / 256) e2 in
    (λ i. n % 256 + n / 256 % 256 * 256 + e2 i % 256 * 65536 + e3 i % 256 * 16777216) ∙ digits4 n h

back_signed : (z : ℤ) → mag z < 2 ^ 31 → to_z w32 (four (le4 (of_z w32 z)) 0) ≡ z
back_signed z h =
    let f : SFits w32 z = record { sfits = h } in
    ap (to_z w32) (back4 (of_z w32 z) (Fits-of_z f).fits) ∙ to_z-of_z w32 z f

-- rows with the same bytes are the same
row_same : (x y : Row) (p q : List ℕ) → row_bytes x ++ p ≡ row_bytes y ++ q → x ≡ y
row_same x y p q e =
    let code : x.code ≡ y.code = sym (back2 x.code x.code_fits) ∙ ap (λ z. two z 0) e ∙ back2 y.code y.code_fits in
    let line : x.line ≡ y.line = sym (back2 x.line x.line_fits) ∙ ap (λ z. two z 2) e ∙ back2 y.line y.line_fits in
    let a : x.a ≡ y.a = sym (back2 x.a x.a_fits) ∙ ap (λ z. two z 4) e ∙ back2 y.a y.a_fits in
    let b : x.b ≡ y.b = sym (back2 x.b x.b_fits) ∙ ap (λ z. two z 6) e ∙ back2 y.b y.b_fits in
    let c : x.c ≡ y.c = sym (back2 x.c x.c_fits) ∙ ap (λ z. two z 8) e ∙ back2 y.c y.c_fits in
    let d : x.d ≡ y.d = sym (back2 x.d x.d_fits) ∙ ap (λ z. two z 10) e ∙ back2 y.d y.d_fits in
    let r : x.r ≡ y.r = sym (back2 x.r x.r_fits) ∙ ap (λ z. two z 12) e ∙ back2 y.r y.r_fits in
    let s : x.s ≡ y.s = sym (back2 x.s x.s_fits) ∙ ap (λ z. two z 14) e ∙ back2 y.s y.s_fits in
    let n : x.n ≡ y.n = sym (back_signed x.n x.n_fits) ∙ ap (λ z. to_z w32 (four z 16)) e ∙ back_signed y.n y.n_fits in
    λ i. record {
      code = code i;
      line = line i;
      a = a i;
      b = b i;
      c = c i;
      d = d i;
      r = r i;
      s = s i;
      n = n i;
      code_fits = is_prop→PathP (λ j. code j < 65536) (λ j. hlevel props) x.code_fits y.code_fits i;
      line_fits = is_prop→PathP (λ j. line j < 65536) (λ j. hlevel props) x.line_fits y.line_fits i;
      a_fits = is_prop→PathP (λ j. a j < 65536) (λ j. hlevel props) x.a_fits y.a_fits i;
      b_fits = is_prop→PathP (λ j. b j < 65536) (λ j. hlevel props) x.b_fits y.b_fits i;
      c_fits = is_prop→PathP (λ j. c j < 65536) (λ j. hlevel props) x.c_fits y.c_fits i;
      d_fits = is_prop→PathP (λ j. d j < 65536) (λ j. hlevel props) x.d_fits y.d_fits i;
      r_fits = is_prop→PathP (λ j. r j < 65536) (λ j. hlevel props) x.r_fits y.r_fits i;
      s_fits = is_prop→PathP (λ j. s j < 65536) (λ j. hlevel props) x.s_fits y.s_fits i;
      n_fits = is_prop→PathP (λ j. mag (n j) < 2 ^ 31) (λ j. hlevel props) x.n_fits y.n_fits i;
    }

rows_same : (xs ys : List Row) → length xs ≡ length ys → flat_map row_bytes xs ≡ flat_map row_bytes ys → xs ≡ ys
rows_same [] [] l e = refl
rows_same [] (y ∷ ys) l e = absurd (omega arith)
rows_same (x ∷ xs) [] l e = absurd (omega arith)
rows_same (x ∷ xs) (y ∷ ys) l e =
    let head : x ≡ y = row_same x y (flat_map row_bytes xs) (flat_map row_bytes ys) e in
    let rest : xs ≡ ys = rows_same xs ys (omega arith) (ap (drop 20) e) in
    λ i. head i ∷ rest i

-- each number of a head is one of 16 bits
pub record Small (n : HeadNumbers) : Type 0 where
  pub width : n.width < 65536
  pub kind : n.kind < 65536
  pub shape : n.shape < 65536
  pub r : n.r < 65536
  pub s : n.s < 65536
  pub form : n.form < 65536

trailer_back : (t : Trailer) → t.offset < 2 ^ 32 → t.count < 65536 → Small t.head → t.mark < 65536 → trailer_of (trailer_bytes t) ≡ t
trailer_back t o k m z = λ i. record {
  offset = back4 t.offset o i;
  count = back2 t.count k i;
  head = record {
    width = back2 t.head.width m.width i;
    kind = back2 t.head.kind m.kind i;
    shape = back2 t.head.shape m.shape i;
    r = back2 t.head.r m.r i;
    s = back2 t.head.s m.s i;
    form = back2 t.head.form m.form i;
  };
  mark = back2 t.mark z i;
}

module _ (note : List ℕ) (n : HeadNumbers) (rows : List Row) (short : length note ≤ 4096) (few : length rows ≤ 512) (small : Small n) where
  pub file_length : length (file_of note n rows) ≡ length note + 20 * length rows + 20
  file_length = omega (arith, length-append (note ++ flat_map row_bytes rows) (trailer_bytes (trailer_for note n rows)), length-append note (flat_map row_bytes rows), joined_length rows)

  pub last_back : last_of (file_of note n rows) ≡ trailer_for note n rows
  last_back =
      ap trailer_of (drop_at (note ++ flat_map row_bytes rows) (trailer_bytes (trailer_for note n rows)) (length (file_of note n rows) - 20) (omega (arith, length-append note (flat_map row_bytes rows), joined_length rows, file_length)))
      ∙ trailer_back (trailer_for note n rows) (omega arith) (omega arith) small (omega arith)

module _ (a b : List ℕ) (m n : HeadNumbers) (xs ys : List Row) (la : length a ≤ 4096) (lb : length b ≤ 4096) (lx : length xs ≤ 512) (ly : length ys ≤ 512) (sm : Small m) (sn : Small n) (e : file_of a m xs ≡ file_of b n ys) where
  same_trailer : trailer_for a m xs ≡ trailer_for b n ys
  same_trailer = sym (last_back a m xs la lx sm) ∙ ap last_of e ∙ last_back b n ys lb ly sn

  pub same_numbers : m ≡ n
  same_numbers = ap (λ t. t.head) same_trailer

  rest_of : List ℕ → HeadNumbers → List Row → List ℕ
  rest_of note k rows = flat_map row_bytes rows ++ trailer_bytes (trailer_for note k rows)

  split : a ++ rest_of a m xs ≡ b ++ rest_of b n ys
  unfolding rest_of
  split = sym (append_assoc a (flat_map row_bytes xs) _) ∙ e ∙ append_assoc b (flat_map row_bytes ys) _

  same_length : length a ≡ length b
  same_length = ap (λ t. t.offset) same_trailer

  pub same_note : a ≡ b
  same_note = sym (take_at a (rest_of a m xs) (length b) same_length) ∙ ap (take (length b)) split ∙ take_at b (rest_of b n ys) (length b) refl

  same_rest : rest_of a m xs ≡ rest_of b n ys
  same_rest = sym (drop_at a (rest_of a m xs) (length b) same_length) ∙ ap (drop (length b)) split ∙ drop_at b (rest_of b n ys) (length b) refl

  same_count : length xs ≡ length ys
  same_count = ap (λ t. t.count) same_trailer

  pub same_rows : xs ≡ ys
  unfolding rest_of
  same_rows =
      let k = length (flat_map row_bytes ys) in
      let l : length (flat_map row_bytes xs) ≡ k = omega (arith, joined_length xs, joined_length ys, same_count) in
      rows_same xs ys same_count (sym (take_at (flat_map row_bytes xs) _ k l) ∙ ap (take k) same_rest ∙ take_at (flat_map row_bytes ys) _ k refl)
