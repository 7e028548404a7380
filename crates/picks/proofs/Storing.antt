-- Loops that store elements by indices.
use Rattle.std.proofs.Common.{◌≡◌, ℕ, zero, suc, ◌+◌, ◌-◌, ◌*◌, ◌<◌, ◌≤◌, true, List, [], ◌∷◌, ◌++◌, length, get_or, take, drop, set, ℤ, pos, Some, None, Option, Ok, sym, refl, ap, ◌∙◌, le_refl, arith}
use lib.Seq.{paste}
use Rattle.std.proofs.lemmas.List.{length-set, length-replicate, get_or-replicate, get_or_default, get_or-drop, take_all, length-append, length-take-le, set-append_left, set-append_right, take-append-drop, drop-drop, append_assoc}
use Rattle.std.proofs.lemmas.Bool.{cond-true}
use Rattle.element.specs.declared.operands.Operand.{Operand}
use Rattle.element.specs.declared.operands.Operand.TheVariants.{Run, Scalar}
use Rattle.element.specs.Operands.{start_of, place_of as cell_of, along}
use Rattle.element.specs.Cells.{put, cells}
use Rattle.picks.specs.Indices.{place_of, place_among, inside, first_outside, or_else, first_outside2}
use Rattle.picks.specs.Stores.{stored}
use Rattle.std.specs.Option.{ok_or}
use Rattle.picks.proofs.Indexing.{placed, inside_bound}
use Rattle.element.proofs.Lines.{row_below}
use Rattle.element.proofs.Writes.{length_cells, get_or_cells, drop_beyond}

-- no value lies before the first
start_first : (v : Operand) (k : ℕ) → start_of v ≤ cell_of v k
start_first (Run at) k = omega arith
start_first (Scalar at) k = le_refl at

module _ {X : Type 0} where
  -- a cell written within a run that was written
  pub set_put : (T R : List X) (to i : ℕ) (v : X) → i < length R → to + length R ≤ length T → set (put T to R) (to + i) v ≡ put T to (set R i v)
  set_put T R to i v h within =
      let a : length (take to T) ≡ to = length-take-le to T (omega arith) in
      let r : take (length R) R ≡ R = take_all (length R) R (le_refl _) in
      let l : to + i < length (take to T ++ R) = simp length-append (omega arith) in
      let n : to + i - to ≡ i = omega arith in
      let m : length (set R i v) ≡ length R = length-set R i v in
      ap (λ (xs : List X). set (take to T ++ xs ++ drop (to + length R) T) (to + i) v) r
      ∙ set-append_left (take to T ++ R) (drop (to + length R) T) (to + i) v l
      ∙ ap (λ (xs : List X). xs ++ drop (to + length R) T) (set-append_right (take to T) R to (to + i) v a (omega arith) ∙ ap (λ (k : ℕ). take to T ++ set R k v) n)
      ∙ ap (λ (xs : List X). take to T ++ xs ++ drop (to + length R) T) (sym (take_all (length R) (set R i v) (omega arith)))
      ∙ ap (λ (k : ℕ). paste T to (set R i v) k) (sym m)

  -- a run written over itself
  pub put_same : (T : List X) (to n : ℕ) → to + n ≤ length T → T ≡ put T to (cells T to n)
  put_same T to n h =
      let l : length (cells T to n) ≡ n = length_cells T to n h in
      sym (take-append-drop to T)
      ∙ ap (λ (xs : List X). take to T ++ xs) (sym (take-append-drop n (drop to T)) ∙ ap (λ (xs : List X). take n (drop to T) ++ xs) (drop-drop n to T))
      ∙ sym (append_assoc (take to T) (cells T to n) (drop (to + n) T))
      ∙ ap (λ (xs : List X). take to T ++ xs ++ drop (to + n) T) (sym (take_all n (cells T to n) (omega arith)))
      ∙ ap (λ (k : ℕ). paste T to (cells T to n) k) (sym l)

  pub drop_above : (T R : List X) (to n : ℕ) → length R ≡ n → to ≤ length T → drop (to + n) (put T to R) ≡ drop (to + n) T
  drop_above T R to n e h = drop_beyond T to R (length R) (to + n) (omega arith) (omega arith) h

  pub read_above : (T R : List X) (to n p : ℕ) (d : X) → length R ≡ n → to ≤ length T → to + n ≤ p → get_or (put T to R) p d ≡ get_or T p d
  read_above T R to n p d e h l =
      let j : to + n + (p - (to + n)) ≡ p = omega arith in
      ap (λ (k : ℕ). get_or (put T to R) k d) (sym j)
      ∙ sym (get_or-drop (to + n) (put T to R) (p - (to + n)) d)
      ∙ ap (λ (xs : List X). get_or xs (p - (to + n)) d) (drop_above T R to n e h)
      ∙ get_or-drop (to + n) T (p - (to + n)) d
      ∙ ap (λ (k : ℕ). get_or T k d) j

  pub length_stored : (xs : List X) (js : List ℤ) (ys : List X) → length (stored xs js ys) ≡ length xs
  length_stored xs [] ys = refl
  length_stored xs (j ∷ js) [] = refl
  length_stored xs (j ∷ js) (y ∷ ys) = length_stored (set xs (place_of j) y) js ys ∙ length-set xs (place_of j) y

  -- one more is stored behind the first k
  pub stored_more : (xs : List X) (js : List ℤ) (ys : List X) (k : ℕ) (d : X) → k < length js → k < length ys → stored xs (take (suc k) js) (take (suc k) ys) ≡ set (stored xs (take k js) (take k ys)) (place_of (get_or js k (pos 0))) (get_or ys k d)
  stored_more xs [] ys k d h l = absurd (omega arith)
  stored_more xs (j ∷ js) [] k d h l = absurd (omega arith)
  stored_more xs (j ∷ js) (y ∷ ys) zero d h l = refl
  stored_more xs (j ∷ js) (y ∷ ys) (suc k) d h l = stored_more (set xs (place_of j) y) js ys k d (omega arith) (omega arith)

  pub length_along : (null : X) (T : List X) (v : Operand) (n : ℕ) → start_of v + n ≤ length T → length (along null T v n) ≡ n
  length_along null T (Run at) n h = length_cells T at n h
  length_along null T (Scalar at) n h = length-replicate n _

  pub get_or_along : (null : X) (T : List X) (v : Operand) (n k : ℕ) (d : X) → k < n → start_of v + n ≤ length T → get_or (along null T v n) k d ≡ get_or T (cell_of v k) d
  get_or_along null T (Run at) n k d l h = get_or_cells T at n k d l
  get_or_along null T (Scalar at) n k d l h = get_or-replicate n k _ d l ∙ get_or_default T at null d (omega arith)

  -- a turn that stores the k-th value
  pub store_more : (null : X) (T S : List X) (to have n : ℕ) (js : List ℤ) (v : Operand) (k place : ℕ) (x : X)
      → length js ≡ n → k < n → to + have ≤ start_of v → start_of v + n ≤ length T → place ≡ place_of (get_or js k (pos 0)) → place < have
      → S ≡ put T to (stored (cells T to have) (take k js) (take k (along null T v n)))
      → x ≡ get_or S (cell_of v k) x
      → set S (to + place) x ≡ put T to (stored (cells T to have) (take (k + 1) js) (take (k + 1) (along null T v n)))
  store_more null T S to have n js v k place x l h above within at inside s read =
      let vs = along null T v n in
      let R = stored (cells T to have) (take k js) (take k vs) in
      let m : length vs ≡ n = length_along null T v n within in
      let r : length R ≡ have = length_stored (cells T to have) (take k js) (take k vs) ∙ length_cells T to have (omega arith) in
      let p : to + have ≤ cell_of v k = omega (arith, start_first v k) in
      let is : x ≡ get_or vs k x = read ∙ ap (λ (xs : List X). get_or xs (cell_of v k) x) s ∙ read_above T R to have (cell_of v k) x r (omega arith) p ∙ sym (get_or_along null T v n k x h within) in
      let e : suc k ≡ k + 1 = omega arith in
      ap (λ (xs : List X). set xs (to + place) x) s
      ∙ set_put T R to place x (omega arith) (omega arith)
      ∙ ap (λ (q : ℕ). put T to (set R q x)) at
      ∙ ap (λ (y : X). put T to (set R (place_of (get_or js k (pos 0))) y)) is
      ∙ ap (put T to) (sym (stored_more (cells T to have) js vs k x (omega arith) (omega arith)))
      ∙ ap (λ (i : ℕ). put T to (stored (cells T to have) (take i js) (take i vs))) e

  pub store_all : (T S : List X) (to : ℕ) (xs : List X) (js : List ℤ) (vs : List X) (n k : ℕ) → length js ≡ n → length vs ≡ n → n ≤ k → S ≡ put T to (stored xs (take k js) (take k vs)) → S ≡ put T to (stored xs js vs)
  store_all T S to xs js vs n k l m h e =
      e ∙ ap (λ (is : List ℤ). put T to (stored xs is (take k vs))) (take_all k js (omega arith)) ∙ ap (λ (us : List X). put T to (stored xs js us)) (take_all k vs (omega arith))

  -- one cell of a run
  pub set_cells : (T : List X) (to n i : ℕ) (v : X) → i < n → to + n ≤ length T → set T (to + i) v ≡ put T to (set (cells T to n) i v)
  set_cells T to n i v h within =
      let l : length (cells T to n) ≡ n = length_cells T to n within in
      ap (λ (xs : List X). set xs (to + i) v) (put_same T to n within) ∙ set_put T (cells T to n) to i v (omega arith) (omega arith)

-- a row and a column that a matrix has
pub cell_below : (row column r s : ℕ) → row < r → column < s → row * s + column < r * s
cell_below row column r s h l = omega (arith, row_below row r s (column + 1) h (omega arith))

pub cell_placed : {E : Type 0} (r s row column : ℕ) (i j : ℤ) (o p : Option ℕ) (e f : E) → o ≡ place_among r i → Ok row ≡ ok_or o e → p ≡ place_among s j → Ok column ≡ ok_or p f → row * s + column < r * s
cell_placed r s row column i j o p e f is h are k =
    let here = placed r i o row e is h in
    let there = placed s j p column f are k in
    cell_below row column r s (omega (arith, here.1, inside_bound r i here.0)) (omega (arith, there.1, inside_bound s j there.0))

pub both_inside : (r s : ℕ) (i j : ℤ) → inside r i ≡ true → inside s j ≡ true → None ≡ first_outside2 r s (i ∷ []) (j ∷ [])
both_inside r s i j h l = sym (cond-true (inside s j) None (Some 2) l) ∙ ap (λ (x : Option ℕ). or_else x (first_outside 2 s (j ∷ []))) (sym (cond-true (inside r i) None (Some 1) h))

module _ {X : Type 0} where
  pub store_cell : (T : List X) (to r s row column : ℕ) (i j : ℤ) (v : X) → row < r → column < s → to + r * s ≤ length T → row ≡ place_of i → column ≡ place_of j → set T (to + (row * s + column)) v ≡ put T to (set (cells T to (r * s)) (place_of i * s + place_of j) v)
  store_cell T to r s row column i j v h l within e f =
      set_cells T to (r * s) (row * s + column) v (cell_below row column r s h l) within
      ∙ ap (λ (k : ℕ). put T to (set (cells T to (r * s)) (k * s + column) v)) e
      ∙ ap (λ (k : ℕ). put T to (set (cells T to (r * s)) (place_of i * s + k) v)) f
