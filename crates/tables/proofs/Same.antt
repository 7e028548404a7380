-- Whether elements of a kind are equal: `sameCells` tells just that, and in either order.
use Rattle.std.proofs.Common.{◌≡◌, Bool, true, false, ◌&&◌, List, [], ◌∷◌, ℤ, Decides, sym, refl, ap, ◌∙◌, subst, arith}
use mathlib.Core.Bool.{and_comm}
use borrow.Author.Differences.{true_is_le}
use lib.Signed.{le_z}
use Rattle.std.proofs.lemmas.Int.{ints}
use Rattle.std.proofs.lemmas.Bool.Decides.{nat_tests}
use Rattle.types.specs.declared.kinds.Kind.{Kind}
use Rattle.types.specs.declared.kinds.Kind.TheVariants.{Boolean, Character, Integer}
use Rattle.meaning.specs.Values.{Cell}
use Rattle.meaning.specs.States.{Tables, table_of}
use Rattle.meaning.specs.Elements.{same_integer, same_cell, same_cells}

both_left : (a b : Bool) → a && b ≡ true → a ≡ true
both_left true b e = refl
both_left false b e = e

both_right : (a b : Bool) → a && b ≡ true → b ≡ true
both_right true b e = e
both_right false b e = grind (arith, nat_tests)

-- ---- one element
same_integer_eq : (x y : ℤ) → same_integer x y ≡ true → x ≡ y
same_integer_eq x y e =
    let h : le_z x y ≡ true = both_left (le_z x y) (le_z y x) e in
    let g : le_z y x ≡ true = both_right (le_z x y) (le_z y x) e in
    omega (arith, ints)

same_integer_refl : (x : ℤ) → same_integer x x ≡ true
same_integer_refl x = let h : le_z x x ≡ true = sym (true_is_le x x (omega arith)) in (λ i. h i && h i)

pub same_cell_eq : (k : Kind) (x y : Cell k) → same_cell k x y ≡ true → x ≡ y
same_cell_eq Boolean true true e = refl
same_cell_eq Boolean true false e = sym e
same_cell_eq Boolean false true e = e
same_cell_eq Boolean false false e = refl
same_cell_eq Character x y e = same_integer_eq x y e
same_cell_eq Integer x y e = same_integer_eq x y e

pub same_cell_refl : (k : Kind) (x : Cell k) → same_cell k x x ≡ true
same_cell_refl Boolean true = refl
same_cell_refl Boolean false = refl
same_cell_refl Character x = same_integer_refl x
same_cell_refl Integer x = same_integer_refl x

pub same_cell_sym : (k : Kind) (x y : Cell k) → same_cell k x y ≡ same_cell k y x
same_cell_sym Boolean true true = refl
same_cell_sym Boolean true false = refl
same_cell_sym Boolean false true = refl
same_cell_sym Boolean false false = refl
same_cell_sym Character x y = and_comm (le_z x y) (le_z y x)
same_cell_sym Integer x y = and_comm (le_z x y) (le_z y x)

-- ---- several
pub same_cells_eq : (k : Kind) (xs ys : List (Cell k)) → same_cells k xs ys ≡ true → xs ≡ ys
same_cells_eq k [] [] e = refl
same_cells_eq k [] (y ∷ ys) e = grind (arith, nat_tests)
same_cells_eq k (x ∷ xs) [] e = grind (arith, nat_tests)
same_cells_eq k (x ∷ xs) (y ∷ ys) e =
    let h : x ≡ y = same_cell_eq k x y (both_left (same_cell k x y) (same_cells k xs ys) e) in
    let g : xs ≡ ys = same_cells_eq k xs ys (both_right (same_cell k x y) (same_cells k xs ys) e) in
    (λ i. h i ∷ g i)

pub same_cells_refl : (k : Kind) (xs : List (Cell k)) → same_cells k xs xs ≡ true
same_cells_refl k [] = refl
same_cells_refl k (x ∷ xs) = ap (λ b. b && same_cells k xs xs) (same_cell_refl k x) ∙ same_cells_refl k xs

pub same_cells_sym : (k : Kind) (xs ys : List (Cell k)) → same_cells k xs ys ≡ same_cells k ys xs
same_cells_sym k [] [] = refl
same_cells_sym k [] (y ∷ ys) = refl
same_cells_sym k (x ∷ xs) [] = refl
same_cells_sym k (x ∷ xs) (y ∷ ys) = (λ i. same_cell_sym k x y i && same_cells_sym k xs ys i)

-- two tests that pass together
agree : (r s : Bool) → (r ≡ true → s ≡ true) → (s ≡ true → r ≡ true) → r ≡ s
agree true s f g = sym (f refl)
agree false true f g = g refl
agree false false f g = refl

-- what decides whether lists are equal is `sameCells`
pub same_decided : (k : Kind) (xs ys : List (Cell k)) (r : Bool) → Decides r (xs ≡ ys) → r ≡ same_cells k xs ys
same_decided k xs ys r d =
    agree r (same_cells k xs ys)
    (λ e. subst (λ (zs : List (Cell k)). same_cells k xs zs ≡ true) (d.0 e) (same_cells_refl k xs))
    (λ e. d.1 (same_cells_eq k xs ys e))

-- the same in the table of a kind l, where k is that kind
pub same_in : {k : Kind} (l : Kind) (t : Tables) (f g : (k : Kind) → List (Cell k) → List (Cell k)) (r : Bool) → k ≡ l → Decides r (f l (table_of l t) ≡ g l (table_of l t)) → r ≡ same_cells k (f k (table_of k t)) (g k (table_of k t))
same_in l t f g r e d = same_decided l (f l (table_of l t)) (g l (table_of l t)) r d ∙ ap (λ (m : Kind). same_cells m (f m (table_of m t)) (g m (table_of m t))) (sym e)
