-- The step and the end of a loop that adds products.
use Rattle.std.proofs.Common.{◌≡◌, ℕ, suc, ◌+◌, ◌-◌, ◌*◌, ◌<◌, ◌≤◌, List, ◌∷◌, length, get_or, take, drop, ℤ, pos, Ok, Err, sym, ap, ◌∙◌, add-one, arith, drop-cons}
use Rattle.std.proofs.lemmas.List.FromFn.{get_or-map-range_with_len, length-map-range_with_len}
use Rattle.std.proofs.lemmas.List.{drop_all}
use Rattle.element.specs.Cells.{cells}
use Rattle.element.proofs.Writes.{length_cells}
use Rattle.arithmetic.specs.declared.faults.ArithmeticFault.{ArithmeticFault}
use Rattle.elementwise.specs.Products.{onward, with_product, summed, strided}

module _ (xs ys : List ℤ) (k : ℕ) (x y t : ℤ) (h : k < length xs) (i : k < length ys) (ex : x ≡ get_or xs k (pos 0)) (ey : y ≡ get_or ys k (pos 0)) where
  -- what is left at k
  summed_at : summed t (drop k xs) (drop k ys) ≡ onward (with_product t x y) (λ u. summed u (drop (k + 1) xs) (drop (k + 1) ys))
  summed_at = rw (add-one, ex, ey) (ap (λ (zs : List ℤ). summed t zs (drop k ys)) (drop-cons xs k (pos 0) h) ∙ ap (summed t (get_or xs k (pos 0) ∷ drop (suc k) xs)) (drop-cons ys k (pos 0) i))

  pub summed_more : (u : ℤ) → Ok u ≡ with_product t x y → summed u (drop (k + 1) xs) (drop (k + 1) ys) ≡ summed t (drop k xs) (drop k ys)
  summed_more u e = ap (λ r. onward r (λ u. summed u (drop (k + 1) xs) (drop (k + 1) ys))) e ∙ sym summed_at

  pub summed_faults : (f : ArithmeticFault) → Err f ≡ with_product t x y → Err f ≡ summed t (drop k xs) (drop k ys)
  summed_faults f e = ap (λ r. onward r (λ u. summed u (drop (k + 1) xs) (drop (k + 1) ys))) e ∙ sym summed_at

-- the two lists lie in a table S, of which `&S[a..a + n]` lends the first
module _ (S : List ℤ) (a b stride n k : ℕ) (t : ℤ) (within : a + n ≤ length S) where
  lent : take (a + n - a) (drop a S) ≡ cells S a n
  lent = let e : a + n - a ≡ n = omega arith in ap (λ (m : ℕ). take m (drop a S)) e

  lent_long : length (take (a + n - a) (drop a S)) ≡ n
  lent_long = ap length lent ∙ length_cells S a n within

  pub inner_all : length (take (a + n - a) (drop a S)) ≤ k → Ok t ≡ summed t (drop k (cells S a n)) (drop k (strided S b stride n))
  inner_all h =
      let l : length (cells S a n) ≤ k = omega (arith, ap length lent) in
      sym (ap (λ (zs : List ℤ). summed t zs (drop k (strided S b stride n))) (drop_all k (cells S a n) l))

  module _ (x y : ℤ) (h : k < length (take (a + n - a) (drop a S))) (ex : x ≡ get_or (take (a + n - a) (drop a S)) k (pos 0)) (ey : y ≡ get_or S (b + k * stride) (pos 0)) where
    more : k < n
    more = omega (arith, lent_long)

    row_long : k < length (cells S a n)
    row_long = omega (arith, ap length lent)

    column_long : k < length (strided S b stride n)
    column_long = omega (arith, more, length-map-range_with_len (λ (k : ℕ). get_or S (b + k * stride) (pos 0)) 0 n)

    row_at : x ≡ get_or (cells S a n) k (pos 0)
    row_at = ex ∙ ap (λ (xs : List ℤ). get_or xs k (pos 0)) lent

    column_at : y ≡ get_or (strided S b stride n) k (pos 0)
    column_at = ey ∙ sym (get_or-map-range_with_len (λ (k : ℕ). get_or S (b + k * stride) (pos 0)) 0 n k k (pos 0) more (omega arith))

    pub inner_more : (u : ℤ) → Ok u ≡ with_product t x y → summed u (drop (k + 1) (cells S a n)) (drop (k + 1) (strided S b stride n)) ≡ summed t (drop k (cells S a n)) (drop k (strided S b stride n))
    inner_more u e = summed_more (cells S a n) (strided S b stride n) k x y t row_long column_long row_at column_at u e

    pub inner_faults : (f : ArithmeticFault) → Err f ≡ with_product t x y → Err f ≡ summed t (drop k (cells S a n)) (drop k (strided S b stride n))
    inner_faults f e = summed_faults (cells S a n) (strided S b stride n) k x y t row_long column_long row_at column_at f e
