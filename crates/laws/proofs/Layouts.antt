-- Tests of kinds and shapes that pass, and layouts of scalars.
use Rattle.std.proofs.Common.{◌≡◌, ℕ, true, ◌&&◌, ◌||◌, eqb, leb, sym, ap, ◌∙◌, arith}
use Rattle.std.proofs.lemmas.Bool.{and_parts, and_from, eqb-true}
use Rattle.std.proofs.lemmas.Bool.Decides.{nat_tests}
use Rattle.types.specs.declared.kinds.Kind.{Kind}
use Rattle.types.specs.declared.kinds.Kind.TheVariants.{Boolean, Character, Integer}
use Rattle.types.specs.declared.kinds.Shape.{Shape}
use Rattle.types.specs.declared.kinds.Shape.TheVariants.{Scalar, Vector, Matrix, Interval}
use Rattle.types.specs.Types.{same_shape}
use Rattle.meaning.specs.declared.layouts.Layout.{Layout}
use Rattle.meaning.specs.Values.{layout_of, scalar_of, fixed, within, lawful}

pub shape_same : (x y : Shape) → same_shape x y ≡ true → x ≡ y
shape_same x y h = grind (arith, nat_tests)

-- a lawful scalar has the layout of scalars
pub scalar_same : (k : Kind) (x : Shape) (r s : ℕ) → fixed (layout_of k x r s) ≡ true → same_shape Scalar x ≡ true → scalar_of k ≡ layout_of k x r s
scalar_same k Scalar r s h t = let p = and_parts (eqb r 1) (eqb s 1) h in λ i. layout_of k Scalar (sym (eqb-true r 1 p.0) i) (sym (eqb-true s 1 p.1) i)
scalar_same k Vector r s h t = cc
scalar_same k Matrix r s h t = cc
scalar_same k Interval r s h t = cc

listed_one : (k : Kind) (x : Shape) (r s : ℕ) → fixed (layout_of k x r s) ≡ true → (same_shape Vector x || same_shape Interval x) ≡ true → r ≡ 1
listed_one k Scalar r s h t = cc
listed_one k Vector r s h t = eqb-true r 1 h
listed_one k Matrix r s h t = cc
listed_one Boolean Interval r s h t = cc
listed_one Character Interval r s h t = cc
listed_one Integer Interval r s h t = eqb-true r 1 (and_parts (eqb r 1) (eqb s 2) h).0

-- where a vector or an interval may exist, a scalar may
pub scalar_lawful : (W : ℕ) (f : Layout) (k : Kind) → lawful W f ≡ true → (same_shape Vector f.shape || same_shape Interval f.shape) ≡ true → lawful W (scalar_of k) ≡ true
scalar_lawful W f k law listed =
    let p = and_parts (fixed f) (within W f.r f.s) law in
    let one = listed_one f.kind f.shape f.r f.s p.0 listed in
    let fit : leb 1 W ≡ true = ap (λ (n : ℕ). leb n W) (sym one) ∙ (and_parts (leb f.r W) (leb f.s W && _) p.1).0 in
    and_from (leb 1 W) (leb 1 W && leb 1 W) fit (and_from (leb 1 W) (leb 1 W) fit fit)
