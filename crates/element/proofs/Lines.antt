-- Rows of one width, written one after another.
use Rattle.std.proofs.Common.{◌≡◌, ℕ, zero, suc, ◌+◌, ◌-◌, ◌*◌, ◌<◌, ◌≤◌, List, [], ◌∷◌, ◌++◌, map, length, get_or, take, drop, replicate, sym, refl, ap, ◌∙◌, append_assoc, le_refl, le_trans, suc-mul, zero-mul, arith}
use Rattle.std.proofs.lemmas.Nat.{mul-le}
use Rattle.std.proofs.lemmas.List.FromFn.{length-map-range_with_len, get_or-map-range_with_len}
use Rattle.std.proofs.lemmas.List.{take_more, take_all, length-append, append-nil, drop-take, drop-drop, take-take, same_lists, length-map, get_or-map, map-append, get_or_past, get_or-drop, length-drop, take-append-drop, replicate-append-replicate}
use Rattle.element.specs.Cells.{put, cells, tabulate, padded, joined, rows_of}
use Rattle.element.specs.Matrices.{resized_rows, resized, stacked}
use Rattle.element.proofs.Writes.{put_put, cells_below, length_padded}

-- row a lies below row i
pub row_below : (a i w n : ℕ) → a < i → n ≤ w → a * w + n ≤ i * w
row_below a i w n h k = omega (arith, mul-le (suc a) w i w h (le_refl w), suc-mul a w)

module _ {X : Type 0} where
  pub joined_append : (ls ms : List (List X)) → joined (ls ++ ms) ≡ joined ls ++ joined ms
  joined_append [] ms = refl
  joined_append (l ∷ ls) ms = ap (λ (xs : List X). l ++ xs) (joined_append ls ms) ∙ sym (append_assoc l (joined ls) (joined ms))

  pub joined_push : (ls : List (List X)) (xs : List X) → joined (ls ++ xs ∷ []) ≡ joined ls ++ xs
  joined_push ls xs = joined_append ls (xs ∷ []) ∙ ap (λ (ys : List X). joined ls ++ ys) (append-nil xs)

  -- each list has w elements
  abbrev pub Wide : ℕ → List (List X) → Type 0
  Wide w ls = (k : ℕ) → k < length ls → length (get_or ls k []) ≡ w

  pub joined_more : (ls : List (List X)) (k : ℕ) → k < length ls → joined (take (k + 1) ls) ≡ joined (take k ls) ++ get_or ls k []
  joined_more ls k h = ap joined (take_more ls k [] h) ∙ joined_push (take k ls) (get_or ls k [])

  pub length_joined : (w : ℕ) (ls : List (List X)) → Wide w ls → (k : ℕ) → k ≤ length ls → length (joined (take k ls)) ≡ k * w
  length_joined w ls wide zero h = sym (zero-mul w)
  length_joined w [] wide (suc k) h = absurd (omega arith)
  length_joined w (l ∷ ls) wide (suc k) h =
      let here : length l ≡ w = wide 0 (omega arith) in
      let there : length (joined (take k ls)) ≡ k * w = length_joined w ls (λ i j. wide (suc i) (omega arith)) k (omega arith) in
      simp length-append (omega (arith, suc-mul k w))

  pub length_joined_all : (w : ℕ) (ls : List (List X)) → Wide w ls → length (joined ls) ≡ length ls * w
  length_joined_all w ls wide = ap (λ (ms : List (List X)). length (joined ms)) (sym (take_all (length ls) ls (le_refl _))) ∙ length_joined w ls wide (length ls) (le_refl _)

  -- a turn: S is the table after k rows, and the next row is written behind them
  pub line_more : (T S U : List X) (to w k : ℕ) (ls : List (List X)) → Wide w ls → k < length ls → to ≤ length T → S ≡ put T to (joined (take k ls)) → U ≡ put S (to + k * w) (get_or ls k []) → U ≡ put T to (joined (take (k + 1) ls))
  line_more T S U to w k ls wide h l s u =
      u ∙ ap (λ (xs : List X). put xs (to + k * w) (get_or ls k [])) s
      ∙ put_put T (joined (take k ls)) (get_or ls k []) to (k * w) (length_joined w ls wide k (omega arith)) l
      ∙ ap (put T to) (sym (joined_more ls k h))

  -- a part of some cells
  pub cells_cells : (T : List X) (from m a n : ℕ) → a + n ≤ m → cells (cells T from m) a n ≡ cells T (from + a) n
  cells_cells T from m a n h =
      sym (drop-take a n (take m (drop from T))) ∙ ap (drop a) (take-take (a + n) m (drop from T) h) ∙ drop-take a n (drop from T) ∙ ap (take n) (drop-drop a from T)

  pub row_of : (T : List X) (from r s k : ℕ) → k < r → get_or (rows_of r s (cells T from (r * s))) k [] ≡ cells T (from + k * s) s
  row_of T from r s k h =
      get_or-map-range_with_len (λ k. cells (cells T from (r * s)) (k * s) s) 0 r k k [] h (omega arith) ∙ cells_cells T from (r * s) (k * s) s (row_below k r s s h (le_refl s))

  -- a list by the index is a map
  pub tabulate_map : {Y : Type 0} (f : X → Y) (xs : List X) (d : X) (n : ℕ) → length xs ≡ n → tabulate n (λ k. f (get_or xs k d)) ≡ map f xs
  tabulate_map f xs d n e =
      let l : length (tabulate n (λ k. f (get_or xs k d))) ≡ n = length-map-range_with_len (λ k. f (get_or xs k d)) 0 n in
      same_lists _ _ (l ∙ sym (length-map xs f ∙ e))
      (λ k z h.
      let h' : k < n = omega arith in
      get_or-map-range_with_len (λ k. f (get_or xs k d)) 0 n k k z h' (omega arith) ∙ sym (get_or-map f xs k d z (omega arith)))

  row_past : (T : List X) (from r s k : ℕ) → r ≤ k → get_or (rows_of r s (cells T from (r * s))) k [] ≡ []
  row_past T from r s k h = get_or_past (rows_of r s (cells T from (r * s))) k [] (omega (arith, length-map-range_with_len (λ k. cells (cells T from (r * s)) (k * s) s) 0 r))

-- a matrix that is cut or padded, row by row
module _ {X : Type 0} (null : X) where
  padded_nothing : (n : ℕ) → padded null n [] ≡ replicate n null
  padded_nothing n =
      let z : n - 0 ≡ n = omega arith in
      ap (λ (xs : List X). xs ++ replicate (n - 0) null) (take_all n [] (omega arith)) ∙ ap (λ (k : ℕ). replicate k null) z

  pub length_resized : (r s : ℕ) (rows : List (List X)) → length (resized_rows null r s rows) ≡ r
  length_resized r s rows = length-map-range_with_len (λ k. padded null s (get_or rows k [])) 0 r

  pub get_or_resized : (r s : ℕ) (rows : List (List X)) (k : ℕ) → k < r → get_or (resized_rows null r s rows) k [] ≡ padded null s (get_or rows k [])
  get_or_resized r s rows k h = get_or-map-range_with_len (λ k. padded null s (get_or rows k [])) 0 r k k [] h (omega arith)

  pub wide_resized : (r s : ℕ) (rows : List (List X)) → Wide s (resized_rows null r s rows)
  wide_resized r s rows k h =
      let l : k < r = omega (arith, length_resized r s rows) in
      ap length (get_or_resized r s rows k l) ∙ length_padded null s (get_or rows k [])

  pub length_resized_all : (r s : ℕ) (rows : List (List X)) → length (joined (resized_rows null r s rows)) ≡ r * s
  length_resized_all r s rows = length_joined_all s (resized_rows null r s rows) (wide_resized r s rows) ∙ ap (λ (n : ℕ). n * s) (length_resized r s rows)

  pub resized_more : (T S U : List X) (from r s to rows columns k : ℕ) → from + r * s ≤ to → to + rows * columns ≤ length T → k < r → k < rows
      → S ≡ put T to (joined (take k (resized_rows null rows columns (rows_of r s (cells T from (r * s))))))
      → U ≡ put S (to + k * columns) (padded null columns (cells S (from + k * s) s))
      → U ≡ put T to (joined (take (k + 1) (resized_rows null rows columns (rows_of r s (cells T from (r * s))))))
  resized_more T S U from r s to rows columns k below within row h s' u =
      let ls = resized_rows null rows columns (rows_of r s (cells T from (r * s))) in
      let same : cells S from (r * s) ≡ cells T from (r * s) = ap (λ (xs : List X). cells xs from (r * s)) s' ∙ cells_below T (joined (take k ls)) to from (r * s) below (omega arith) in
      let l : length ls ≡ rows = length_resized rows columns (rows_of r s (cells T from (r * s))) in
      line_more T S U to columns k ls (wide_resized rows columns (rows_of r s (cells T from (r * s)))) (omega arith) (omega arith) s'
      (u ∙ ap (λ (xs : List X). put S (to + k * columns) (padded null columns xs)) (sym (row_of S from r s k row))
      ∙ ap (λ (xs : List X). put S (to + k * columns) (padded null columns (get_or (rows_of r s xs) k []))) same ∙ ap (put S (to + k * columns)) (sym (get_or_resized rows columns (rows_of r s (cells T from (r * s))) k h)))

  -- lists of nulls
  blank_rows : (w : ℕ) (ls : List (List X)) → ((i : ℕ) → i < length ls → get_or ls i [] ≡ replicate w null) → joined ls ≡ replicate (length ls * w) null
  blank_rows w [] h = ap (λ (n : ℕ). replicate n null) (sym (zero-mul w))
  blank_rows w (l ∷ ls) h =
      let e : w + length ls * w ≡ length (l ∷ ls) * w = omega (arith, suc-mul (length ls) w) in
      ap (λ (xs : List X). xs ++ joined ls) (h 0 (omega arith)) ∙ ap (λ (xs : List X). replicate w null ++ xs) (blank_rows w ls (λ i k. h (suc i) (omega arith)))
      ∙ replicate-append-replicate w (length ls * w) null ∙ ap (λ (n : ℕ). replicate n null) e

  -- what stands past the r rows, or past the rows that are wanted
  blank_rest : (T : List X) (from r s rows columns k : ℕ) → k ≤ rows → (k < rows → r ≤ k) → joined (drop k (resized_rows null rows columns (rows_of r s (cells T from (r * s))))) ≡ replicate ((rows - k) * columns) null
  blank_rest T from r s rows columns k h past =
      let m = rows_of r s (cells T from (r * s)) in
      let ls = resized_rows null rows columns m in
      let l : length (drop k ls) ≡ rows - k = simp length-drop (omega (arith, length_resized rows columns m)) in
      blank_rows columns (drop k ls)
      (λ i j.
      let more : k + i < rows = omega arith in
      let none : get_or m (k + i) [] ≡ [] = row_past T from r s (k + i) (le_trans (past (omega arith)) (omega arith)) in
      get_or-drop k ls i [] ∙ get_or_resized rows columns m (k + i) more ∙ ap (padded null columns) none ∙ padded_nothing columns)
      ∙ ap (λ (n : ℕ). replicate (n * columns) null) l

  pub resized_all : (T S U : List X) (from r s to rows columns k : ℕ) → to ≤ length T → k ≤ rows → (k < rows → r ≤ k)
      → S ≡ put T to (joined (take k (resized_rows null rows columns (rows_of r s (cells T from (r * s))))))
      → U ≡ put S (to + k * columns) (replicate ((rows - k) * columns) null)
      → U ≡ put T to (resized null rows columns (rows_of r s (cells T from (r * s))))
  resized_all T S U from r s to rows columns k within h past s' u =
      let m = rows_of r s (cells T from (r * s)) in
      let ls = resized_rows null rows columns m in
      let l : k ≤ length ls = omega (arith, length_resized rows columns m) in
      u ∙ ap (put S (to + k * columns)) (sym (blank_rest T from r s rows columns k h past))
      ∙ ap (λ (xs : List X). put xs (to + k * columns) (joined (drop k ls))) s'
      ∙ put_put T (joined (take k ls)) (joined (drop k ls)) to (k * columns) (length_joined columns ls (wide_resized rows columns m) k l) within
      ∙ ap (put T to) (sym (joined_append (take k ls) (drop k ls)) ∙ ap joined (take-append-drop k ls))

  -- a matrix of r rows, and a row under it
  pub stacked_parts : (T : List X) (rows : List (List X)) (ys : List X) (to r s : ℕ) → length rows ≡ r → to ≤ length T → put (put T to (resized null r s rows)) (to + r * s) (padded null s ys) ≡ put T to (stacked null s rows ys)
  stacked_parts T rows ys to r s e h =
      put_put T (resized null r s rows) (padded null s ys) to (r * s) (length_resized_all r s rows) h
      ∙ ap (λ (ls : List (List X)). put T to (joined ls ++ padded null s ys)) (tabulate_map (padded null s) rows [] r e)
      ∙ ap (put T to) (sym (joined_push (map (padded null s) rows) (padded null s ys)) ∙ ap joined (sym (map-append (padded null s) rows (ys ∷ []))))

  pub stack_all : (T S U : List X) (a r s b n to w v : ℕ) → w ≡ v → b + n ≤ to → to ≤ length T
      → S ≡ put T to (resized null r w (rows_of r s (cells T a (r * s))))
      → U ≡ put S (to + r * w) (padded null w (cells S b n))
      → U ≡ put T to (stacked null v (rows_of r s (cells T a (r * s))) (cells T b n))
  stack_all T S U a r s b n to w v e below within s' u =
      let rows = rows_of r s (cells T a (r * s)) in
      let same : cells S b n ≡ cells T b n = ap (λ (xs : List X). cells xs b n) s' ∙ cells_below T (resized null r w rows) to b n below within in
      u ∙ ap (λ (ys : List X). put S (to + r * w) (padded null w ys)) same
      ∙ ap (λ (xs : List X). put xs (to + r * w) (padded null w (cells T b n))) s'
      ∙ stacked_parts T rows (cells T b n) to r w (length-map-range_with_len (λ k. cells (cells T a (r * s)) (k * s) s) 0 r) within
      ∙ ap (λ (m : ℕ). put T to (stacked null m rows (cells T b n))) e
