-- Lists made from a function of the index, and of a row and a column.
use Rattle.std.proofs.Common.{◌≡◌, ℕ, zero, suc, ◌+◌, ◌*◌, ◌/◌, ◌%◌, ◌<◌, List, [], ◌∷◌, ◌++◌, length, sym, ap, ◌∙◌, append_assoc, add-zero, suc-mul, mul-zero, zero-mul, add-one, arith}
use Rattle.std.proofs.lemmas.Nat.{div-mul-add, mod-mul-add}
use Rattle.std.proofs.lemmas.List.FromFn.{get_or-map-range_with_len, length-map-range_with_len, map-range_with_len_more}
use Rattle.std.proofs.lemmas.List.{same_lists, append-nil}
use Rattle.element.specs.Cells.{tabulate, joined}
use Rattle.element.proofs.Lines.{joined_push}

-- a matrix that has an element has a column
pub some_columns : (r s k : ℕ) → k < r * s → 0 < s
some_columns r zero k h = absurd (omega (arith, mul-zero r))
some_columns r (suc s) k h = omega arith

module _ {X : Type 0} where
  pub tabulate_same : (n : ℕ) (f g : ℕ → X) → ((k : ℕ) → k < n → f k ≡ g k) → tabulate n f ≡ tabulate n g
  tabulate_same n f g e =
      let l : length (tabulate n f) ≡ n = length-map-range_with_len f 0 n in
      let m : length (tabulate n g) ≡ n = length-map-range_with_len g 0 n in
      same_lists _ _ (l ∙ sym m)
      (λ k d h.
      let h' : k < n = omega arith in
      get_or-map-range_with_len f 0 n k k d h' (omega arith) ∙ e k h' ∙ sym (get_or-map-range_with_len g 0 n k k d h' (omega arith)))

  tabulate_suc : (n : ℕ) (f : ℕ → X) → tabulate (suc n) f ≡ tabulate n f ++ f n ∷ []
  tabulate_suc n f = ap (λ (k : ℕ). tabulate k f) (sym (add-one n)) ∙ map-range_with_len_more f 0 n n (omega arith)

  tabulate_add : (m n : ℕ) (f : ℕ → X) → tabulate (m + n) f ≡ tabulate m f ++ tabulate n (λ k. f (m + k))
  tabulate_add m zero f = ap (λ (k : ℕ). tabulate k f) (add-zero m) ∙ sym (append-nil (tabulate m f))
  tabulate_add m (suc n) f =
      let e : m + suc n ≡ suc (m + n) = omega arith in
      ap (λ (k : ℕ). tabulate k f) e
      ∙ tabulate_suc (m + n) f
      ∙ ap (λ (xs : List X). xs ++ f (m + n) ∷ []) (tabulate_add m n f)
      ∙ append_assoc (tabulate m f) (tabulate n (λ k. f (m + k))) (f (m + n) ∷ [])
      ∙ ap (λ (xs : List X). tabulate m f ++ xs) (sym (tabulate_suc n (λ k. f (m + k))))

-- element k of a matrix with s columns is in row k / s and column k % s
pub grid : {X : Type 0} (f : ℕ → ℕ → X) (r s : ℕ) → tabulate (r * s) (λ k. f (k / s) (k % s)) ≡ joined (tabulate r (λ i. tabulate s (f i)))
grid f zero s = ap (λ (n : ℕ). tabulate n (λ k. f (k / s) (k % s))) (zero-mul s)
grid {X} f (suc r) s =
    let F = λ (k : ℕ). f (k / s) (k % s) in
    let G = λ (i : ℕ). tabulate s (f i) in
    let row : tabulate s (λ k. F (r * s + k)) ≡ G r = tabulate_same s (λ k. F (r * s + k)) (f r) (λ k h. ap (λ (i : ℕ). f i ((r * s + k) % s)) (div-mul-add r s k h) ∙ ap (f r) (mod-mul-add r s k h)) in
    ap (λ (n : ℕ). tabulate n F) (suc-mul r s)
    ∙ tabulate_add (r * s) s F
    ∙ ap (λ (xs : List X). xs ++ tabulate s (λ k. F (r * s + k))) (grid f r s)
    ∙ ap (λ (xs : List X). joined (tabulate r G) ++ xs) row
    ∙ sym (ap joined (tabulate_suc r G) ∙ joined_push (tabulate r G) (G r))
