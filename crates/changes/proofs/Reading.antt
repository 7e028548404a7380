-- The cells that the code reads of an operand are the elements that the rule names.
use Rattle.std.proofs.Common.{◌≡◌, ℕ, ◌+◌, ◌*◌, ◌<◌, ◌≤◌, true, not, eqb, List, get_or, ap, ◌∙◌, add-zero, arith}
use Rattle.std.proofs.lemmas.Bool.{and_parts, eqb-true}
use Rattle.types.specs.declared.kinds.Kind.{Kind}
use Rattle.types.specs.declared.kinds.Kind.TheVariants.{Boolean, Character, Integer}
use Rattle.types.specs.declared.kinds.Shape.{Shape}
use Rattle.types.specs.declared.kinds.Shape.TheVariants.{Scalar, Vector, Matrix, Interval}
use Rattle.types.specs.Types.{same_shape}
use Rattle.types.specs.Typings.{is, of}
use Rattle.element.proofs.Writes.{get_or_cells}
use Rattle.meaning.specs.declared.layouts.Layout.{Layout}
use Rattle.meaning.specs.Values.{Cell, null_of, area, known, fixed, lawful, layout_of, elements_of}
use Rattle.meaning.specs.States.{Tables, table_of, value_from}
use Rattle.meaning.proofs.Shells.{never}
use Rattle.meaning.proofs.Rows.{as_cells, scalar_one, lawful_fixed, lawful_small, under_all}

-- one row, where it is no matrix
pub one_row : (f : Layout) → fixed f ≡ true → not (same_shape Matrix f.shape) ≡ true → f.r ≡ 1
one_row f h t = go f.kind f.shape f.r f.s h t
  where
    go : (k : Kind) (x : Shape) (r s : ℕ) → fixed (layout_of k x r s) ≡ true → not (same_shape Matrix x) ≡ true → r ≡ 1
    go k Scalar r s h t = eqb-true r 1 (and_parts (eqb r 1) (eqb s 1) h).0
    go k Vector r s h t = eqb-true r 1 h
    go k Matrix r s h t = never t
    go Boolean Interval r s h t = never h
    go Character Interval r s h t = never h
    go Integer Interval r s h t = eqb-true r 1 (and_parts (eqb r 1) (eqb s 2) h).0

-- where a value has a row there is a cell, and a next one before the end
pub next_cell : (W a i len : ℕ) (y : Layout) → a < i → lawful W y ≡ true → not (is Matrix (known y)) ≡ true → i * W + W ≤ len → a * W + 1 < len
next_cell W a i len y lt law flat h =
    let u = under_all W a i lt in
    let o = one_row y (lawful_fixed W y law) flat in
    let s = (lawful_small W y law).rows in
    omega (arith, u, o, s)

-- a scalar has a cell
pub one_cell : (W a i len : ℕ) (y : Layout) → a < i → lawful W y ≡ true → is Scalar (known y) ≡ true → i * W + W ≤ len → a * W < len
one_cell W a i len y lt law flat h =
    let u = under_all W a i lt in
    let o = (scalar_one y (lawful_fixed W y law) flat).0 in
    let s = (lawful_small W y law).rows in
    omega (arith, u, o, s)

-- a scalar's element is its first cell
pub scalar_cell : (W : ℕ) (t : Tables) (k : Kind) (a : ℕ) (x : Layout) → lawful W x ≡ true → of k (known x) ≡ true → is Scalar (known x) ≡ true
    → get_or (elements_of k (value_from W t a x)) 0 (null_of k) ≡ get_or (table_of k t) (a * W) (null_of k)
scalar_cell W t k a x law kind s =
    let one = scalar_one x (lawful_fixed W x law) s in
    let n : area x ≡ 1 = λ i. one.0 i * one.1 i in
    ap (λ (xs : List (Cell k)). get_or xs 0 (null_of k)) (as_cells k x.kind t (a * W) (area x) kind)
    ∙ get_or_cells (table_of k t) (a * W) (area x) 0 (null_of k) (omega (arith, n))
    ∙ ap (λ (m : ℕ). get_or (table_of k t) m (null_of k)) (add-zero (a * W))
