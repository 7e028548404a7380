-- A function of the k-th values of operands, for each k, is the function along the operands.
use Rattle.std.proofs.Common.{◌≡◌, ℕ, zero, suc, ◌+◌, ◌<◌, ◌≤◌, List, [], ◌∷◌, map, length, get_or, take, replicate, sym, refl, ap, ◌∙◌, arith}
use Rattle.std.proofs.lemmas.List.{get_or-map, length-map, length-replicate, get_or-replicate, get_or_default, same_lists, get_or-take}
use Rattle.std.proofs.lemmas.List.FromFn.{get_or-map-range_with_len, length-map-range_with_len}
use Rattle.element.specs.Cells.{tabulate}
use Rattle.element.proofs.Writes.{length_cells, get_or_cells, cells_take}
use Rattle.element.specs.declared.operands.Operand.{Operand}
use Rattle.element.specs.declared.operands.Operand.TheVariants.{Run, Scalar}
use Rattle.element.specs.Operands.{place_of, end_of, along}
use Rattle.elementwise.specs.Results.{map2}

module _ {X Y Z : Type 0} (f : X → Y → Z) where
  pub length_map2 : (xs : List X) (ys : List Y) → length xs ≡ length ys → length (map2 f xs ys) ≡ length xs
  length_map2 [] ys e = refl
  length_map2 (x ∷ xs) [] e = omega arith
  length_map2 (x ∷ xs) (y ∷ ys) e = ap suc (length_map2 xs ys (omega arith))

  pub get_or_map2 : (xs : List X) (ys : List Y) (k : ℕ) (d : X) (e : Y) (z : Z) → k < length xs → k < length ys → get_or (map2 f xs ys) k z ≡ f (get_or xs k d) (get_or ys k e)
  get_or_map2 [] ys k d e z h i = absurd (omega arith)
  get_or_map2 (x ∷ xs) [] k d e z h i = absurd (omega arith)
  get_or_map2 (x ∷ xs) (y ∷ ys) zero d e z h i = refl
  get_or_map2 (x ∷ xs) (y ∷ ys) (suc k) d e z h i = get_or_map2 xs ys k d e z (omega arith) (omega arith)

pub place_below : (o : Operand) (n k end : ℕ) → k < n → end_of o n ≤ end → place_of o k < end
place_below (Run at) n k end h l = omega arith
place_below (Scalar at) n k end h l = omega arith

module _ {X : Type 0} (null : X) (T : List X) where
  pub length_along : (o : Operand) (n : ℕ) → end_of o n ≤ length T → length (along null T o n) ≡ n
  length_along (Run at) n h = length_cells T at n h
  length_along (Scalar at) n h = length-replicate n _

  pub get_or_along : (o : Operand) (n k : ℕ) (d : X) → end_of o n ≤ length T → k < n → get_or (along null T o n) k d ≡ get_or T (place_of o k) null
  get_or_along (Run at) n k d h l = get_or_cells T at n k d l ∙ get_or_default T (at + k) d null (omega arith)
  get_or_along (Scalar at) n k d h l = get_or-replicate n k _ d l

  -- an operand that ends at or before `to` lies in the cells below it
  pub along_take : (o : Operand) (to n : ℕ) → end_of o n ≤ to → along null (take to T) o n ≡ along null T o n
  along_take (Run at) to n h = cells_take T to at n h
  along_take (Scalar at) to n h = ap (replicate n) (get_or-take to T at null (omega arith))

  -- a function of two elements along two operands
  pub along_two : {Z : Type 0} (f : X → X → Z) (a b : Operand) (n : ℕ) → end_of a n ≤ length T → end_of b n ≤ length T → tabulate n (λ k. f (get_or T (place_of a k) null) (get_or T (place_of b k) null)) ≡ map2 f (along null T a n) (along null T b n)
  along_two f a b n ea eb =
      let la : length (along null T a n) ≡ n = length_along a n ea in
      let lb : length (along null T b n) ≡ n = length_along b n eb in
      let F = λ (k : ℕ). f (get_or T (place_of a k) null) (get_or T (place_of b k) null) in
      let l : length (tabulate n F) ≡ n = length-map-range_with_len F 0 n in
      same_lists _ _ (l ∙ sym (length_map2 f _ _ (la ∙ sym lb) ∙ la))
      (λ k d h.
      let h' : k < n = omega arith in
      get_or-map-range_with_len F 0 n k k d h' (omega arith)
      ∙ ap (λ (x : X). f x (get_or T (place_of b k) null)) (sym (get_or_along a n k null ea h'))
      ∙ ap (f (get_or (along null T a n) k null)) (sym (get_or_along b n k null eb h'))
      ∙ sym (get_or_map2 f _ _ k null null d (omega arith) (omega arith)))

  -- a function of each element
  pub each_one : {Z : Type 0} (f : X → Z) (n : ℕ) → n ≡ length T → tabulate n (λ k. f (get_or T k null)) ≡ map f T
  each_one f n e =
      let F = λ (k : ℕ). f (get_or T k null) in
      let l : length (tabulate n F) ≡ n = length-map-range_with_len F 0 n in
      same_lists _ _ (l ∙ e ∙ sym (length-map T f))
      (λ k d i.
      let i' : k < n = omega arith in
      get_or-map-range_with_len F 0 n k k d i' (omega arith) ∙ sym (get_or-map f T k null d (omega arith)))
