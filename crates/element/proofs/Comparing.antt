-- Tests of runs of cells against each other, and of each element against one value.
use Rattle.std.proofs.Common.{◌≡◌, ℕ, ◌+◌, ◌-◌, Bool, List, [], ◌∷◌, length, take, drop, replicate, Decides, refl, subst}
use Rattle.std.specs.List.{list_all}
use Rattle.std.specs.Cmp.Lexicographic.{pointwise}
use Rattle.std.proofs.lemmas.Slice.Eq.{slice_eq-Decides}
use Rattle.element.specs.Cells.{cells}
use Rattle.element.proofs.Writes.{part_cells}
use Rattle.std.specs.Cmp.{first_so, second_so}

module _ {X : Type 0} {E : X → X → Bool} (d : (x y : X) → Decides (E x y) (x ≡ y)) (v : X) where
  same_throughout : (xs : List X) → Decides (list_all (λ x. E x v) xs) (xs ≡ replicate (length xs) v)
  same_throughout [] = (λ _. refl, λ _. refl)
  same_throughout (x ∷ xs) = (
    λ e. let head : x ≡ v = (d x v).0 (first_so _ _ e) in let tail : xs ≡ replicate (length xs) v = (same_throughout xs).0 (second_so _ _ e) in λ i. head i ∷ tail i,
    λ e. let head : x ≡ v = cc in let tail : xs ≡ replicate (length xs) v = cc in rw ((d x v).1 head) ((same_throughout xs).1 tail),
  )

  pub all_one : (xs : List X) (n : ℕ) → length xs ≡ n → Decides (list_all (λ x. E x v) xs) (xs ≡ replicate n v)
  all_one xs n e = subst (λ (k : ℕ). Decides (list_all (λ x. E x v) xs) (xs ≡ replicate k v)) e (same_throughout xs)

-- the parts `table[a..a + n]` and `table[b..b + n]`, as `==` compares them
pub same_parts : {X : Type 0} {E : X → X → Bool} (d : (x y : X) → Decides (E x y) (x ≡ y)) (T : List X) (a b n : ℕ) (r : Bool) → r ≡ pointwise E (take (a + n - a) (drop a T)) (take (b + n - b) (drop b T)) → Decides r (cells T a n ≡ cells T b n)
same_parts d T a b n r e = simp part_cells at (slice_eq-Decides d _ _ _ e)
