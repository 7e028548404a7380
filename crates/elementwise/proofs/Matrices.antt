-- Rows and columns of matrices that lie in a table.
use Rattle.std.proofs.Common.{◌≡◌, ℕ, suc, ◌+◌, ◌*◌, ◌/◌, ◌%◌, ◌<◌, ◌≤◌, List, length, get_or, take, ℤ, pos, Result, sym, ap, ◌∙◌, le_refl, arith}
use Rattle.std.specs.Result.{result_map_both}
use Rattle.std.proofs.lemmas.List.FromFn.{get_or-map-range_with_len, length-map-range_with_len}
use Rattle.std.proofs.lemmas.List.{same_lists, get_or_default, get_or-take}
use Rattle.arithmetic.specs.declared.faults.ArithmeticFault.{ArithmeticFault}
use Rattle.arithmetic.specs.Faults.{at_element}
use Rattle.element.specs.Cells.{cells, tabulate, joined}
use Rattle.element.proofs.Lines.{row_below, cells_cells}
use Rattle.element.proofs.Writes.{length_cells, get_or_cells, cells_take}
use Rattle.elementwise.specs.Products.{dot, strided, row_at, column_at, products}
use Rattle.elementwise.proofs.Grids.{tabulate_same, grid}

-- elements side by side
pub strided_one : (T : List ℤ) (b n : ℕ) → b + n ≤ length T → strided T b 1 n ≡ cells T b n
strided_one T b n h =
    let F = λ (k : ℕ). get_or T (b + k * 1) (pos 0) in
    let l : length (tabulate n F) ≡ n = length-map-range_with_len F 0 n in
    let m : length (cells T b n) ≡ n = length_cells T b n h in
    same_lists _ _ (l ∙ sym m)
    (λ k d i.
    let i' : k < n = omega arith in
    get_or-map-range_with_len F 0 n k k d i' (omega arith)
    ∙ ap (λ (p : ℕ). get_or T p (pos 0)) (omega arith)
    ∙ get_or_default T (b + k) (pos 0) d (omega arith)
    ∙ sym (get_or_cells T b n k d i'))

pub dot_named : (T : List ℤ) (a b n : ℕ) (z : Result ℤ ArithmeticFault) → b + n ≤ length T → z ≡ dot (cells T a n) (strided T b 1 n) → result_map_both (λ z. z) (at_element 1) z ≡ result_map_both (λ z. z) (at_element 1) (dot (cells T a n) (cells T b n))
dot_named T a b n z h e = ap (result_map_both (λ z. z) (at_element 1)) (e ∙ ap (dot (cells T a n)) (strided_one T b n h))

module _ (T : List ℤ) (to a b r m s : ℕ) (left : a + r * m ≤ to) (right : b + m * s ≤ to) where
  row : (i : ℕ) → i < r → cells (take to T) (a + i * m) m ≡ row_at (cells T a (r * m)) m i
  row i h =
      let e : i * m + m ≤ r * m = row_below i r m m h (le_refl m) in
      cells_take T to (a + i * m) m (omega arith) ∙ sym (cells_cells T a (r * m) (i * m) m e)

  column : (j : ℕ) → j < s → strided (take to T) (b + j) s m ≡ column_at (cells T b (m * s)) m s j
  column j h =
      tabulate_same m _ _
      (λ k i.
      let e : k * s + suc j ≤ m * s = row_below k m s (suc j) i h in
      get_or-take to T (b + j + k * s) (pos 0) (omega arith)
      ∙ ap (λ (p : ℕ). get_or T p (pos 0)) (omega arith)
      ∙ sym (get_or_cells T b (m * s) (j + k * s) (pos 0) (omega arith)))

  pub products_by_place : tabulate (r * s) (λ k. dot (cells (take to T) (a + k / s * m) m) (strided (take to T) (b + k % s) s m)) ≡ products r m s (cells T a (r * m)) (cells T b (m * s))
  products_by_place =
      grid (λ i j. dot (cells (take to T) (a + i * m) m) (strided (take to T) (b + j) s m)) r s
      ∙ ap joined
      (tabulate_same r _ _ (λ i h.
      tabulate_same s _ _ (λ j l.
      ap (λ (xs : List ℤ). dot xs (strided (take to T) (b + j) s m)) (row i h) ∙ ap (dot (row_at (cells T a (r * m)) m i)) (column j l))))
