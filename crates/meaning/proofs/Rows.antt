-- Where the cells of rows lie, and what lawful layouts say of sizes.
use Rattle.std.proofs.Common.{◌≡◌, ℕ, suc, ◌+◌, ◌*◌, ◌<◌, ◌≤◌, true, ◌&&◌, eqb, leb, refl, mul-le-mul_right, suc-mul, arith}
use Rattle.std.proofs.lemmas.Bool.{and_parts, leb-true, eqb-true}
use Rattle.std.proofs.lemmas.Bool.Decides.{nat_tests}
use Rattle.types.specs.declared.kinds.Kind.{Kind}
use Rattle.types.specs.declared.kinds.Kind.TheVariants.{Boolean, Character, Integer}
use Rattle.types.specs.declared.kinds.Shape.{Shape}
use Rattle.types.specs.declared.kinds.Shape.TheVariants.{Scalar, Vector, Matrix, Interval}
use Rattle.types.specs.Types.{same_kind, same_shape}
use Rattle.element.specs.Cells.{cells}
use Rattle.meaning.specs.declared.layouts.Layout.{Layout}
use Rattle.meaning.specs.declared.places.Place.{Place}
use Rattle.meaning.specs.Values.{area, fixed, within, lawful, elements_as, layout_of}
use Rattle.meaning.specs.States.{Tables, table_of}
use Rattle.meaning.specs.Works.{Operand}

-- row i lies before row n
pub under_all : (W i n : ℕ) → i < n → i * W + W ≤ n * W
under_all W i n lt = let m : suc i * W ≤ n * W = mul-le-mul_right W lt in omega (arith, m, suc-mul i W)

-- sizes within the width
pub record Small (W : ℕ) (f : Layout) : Type 0 where
  pub rows : f.r ≤ W
  pub columns : f.s ≤ W
  pub elements : f.r * f.s ≤ W

pub within_small : (W : ℕ) (f : Layout) → within W f.r f.s ≡ true → Small W f
within_small W f h =
    let p = and_parts (leb f.r W) (leb f.s W && leb (f.r * f.s) W) h in
    let q = and_parts (leb f.s W) (leb (f.r * f.s) W) p.1 in
    record { rows = leb-true f.r W p.0; columns = leb-true f.s W q.0; elements = leb-true (f.r * f.s) W q.1 }

pub lawful_fixed : (W : ℕ) (f : Layout) → lawful W f ≡ true → fixed f ≡ true
lawful_fixed W f h = (and_parts (fixed f) (within W f.r f.s) h).0

pub lawful_small : (W : ℕ) (f : Layout) → lawful W f ≡ true → Small W f
lawful_small W f h = within_small W f (and_parts (fixed f) (within W f.r f.s) h).1

-- the cells of an operand lie before the row at work
pub record Placed (W a p n : ℕ) : Type 0 where
  pub whole : a * W + W ≤ p * W
  pub part : a * W + n ≤ p * W
  pub few : n ≤ W

-- a scalar has one element
pub scalar_one : (f : Layout) → fixed f ≡ true → same_shape Scalar f.shape ≡ true → (f.r ≡ 1) × (f.s ≡ 1)
scalar_one f h t = go f.kind f.shape f.r f.s h t
  where
    go : (k : Kind) (x : Shape) (r s : ℕ) → fixed (layout_of k x r s) ≡ true → same_shape Scalar x ≡ true → (r ≡ 1) × (s ≡ 1)
    go k Scalar r s h t = let p = and_parts (eqb r 1) (eqb s 1) h in (eqb-true r 1 p.0, eqb-true s 1 p.1)
    go k Vector r s h t = cc
    go k Matrix r s h t = cc
    go k Interval r s h t = cc

-- a vector has one row
pub vector_one : (f : Layout) → fixed f ≡ true → same_shape Vector f.shape ≡ true → f.r ≡ 1
vector_one f h t = go f.kind f.shape f.r f.s h t
  where
    go : (k : Kind) (x : Shape) (r s : ℕ) → fixed (layout_of k x r s) ≡ true → same_shape Vector x ≡ true → r ≡ 1
    go k Scalar r s h t = cc
    go k Vector r s h t = eqb-true r 1 h
    go k Matrix r s h t = cc
    go k Interval r s h t = cc

-- the elements of a value, asked for as its own kind
pub as_cells : (k l : Kind) (t : Tables) (at n : ℕ) → same_kind k l ≡ true → elements_as k l (cells (table_of l t) at n) ≡ cells (table_of k t) at n
as_cells Boolean Boolean t at n h = refl
as_cells Boolean Character t at n h = cc
as_cells Boolean Integer t at n h = cc
as_cells Character Boolean t at n h = cc
as_cells Character Character t at n h = refl
as_cells Character Integer t at n h = cc
as_cells Integer Boolean t at n h = cc
as_cells Integer Character t at n h = cc
as_cells Integer Integer t at n h = refl

pub kinds_equal : (k l : Kind) → same_kind k l ≡ true → k ≡ l
kinds_equal k l h = grind (arith, nat_tests)
