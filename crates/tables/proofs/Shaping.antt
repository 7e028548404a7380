-- The text of a value in the table of a kind.
use Rattle.std.proofs.Common.{◌≡◌, ℕ, ◌+◌, ◌*◌, ◌<◌, ◌≤◌, Bool, true, false, ◌&&◌, eqb, List, [], length, get_or, Some, Option, sym, refl, ap, ◌∙◌, subst, add-zero, arith, eqb-true}
use borrow.Author.Rules.{get_or_read}
use lib.Seq.{paste-zero}
use Rattle.types.specs.declared.kinds.Kind.{Kind}
use Rattle.types.specs.declared.kinds.Shape.{Shape}
use Rattle.types.specs.declared.kinds.Shape.TheVariants.{Scalar, Vector, Matrix, Interval}
use Rattle.element.specs.Cells.{cells}
use Rattle.element.proofs.Writes.{get_or_cells}
use Rattle.print.specs.Texts.{Printed}
use Rattle.meaning.specs.Values.{Cell, null_of, layout_of, fixed}
use Rattle.meaning.specs.States.{Tables, table_of}
use Rattle.meaning.specs.Texts.{cell_text, shape_text}
use Rattle.tables.specs.Shapes.{shaped_text}

both_one : (a b : Bool) → a && b ≡ true → (a ≡ true) × (b ≡ true)
both_one true b e = (refl, e)
both_one false true e = (e, refl)
both_one false false e = (e, e)

-- a scalar has one cell
pub scalar_sizes : (k : Kind) (x : Shape) (r s : ℕ) → x ≡ Scalar → fixed (layout_of k x r s) ≡ true → (r ≡ 1) × (s ≡ 1)
scalar_sizes k x r s e h =
    let g : fixed (layout_of k Scalar r s) ≡ true = subst (λ (y : Shape). fixed (layout_of k y r s) ≡ true) e h in
    let b : (eqb r 1 ≡ true) × (eqb s 1 ≡ true) = both_one (eqb r 1) (eqb s 1) g in
    (eqb-true r 1 b.0, eqb-true s 1 b.1)

module _ {X : Type 0} (text : X → List ℕ) (null : X) (T : List X) (x : Shape) (r s at : ℕ) where
  -- the text of a scalar is that of its one element
  pub scalar_text : (k : Kind) (v : X) → x ≡ Scalar → fixed (layout_of k x r s) ≡ true → at + r * s ≤ length T → v ≡ get_or T at v → text v ≡ shaped_text x text null r s (cells T at (r * s))
  scalar_text k v e h w is =
      let one : (r ≡ 1) × (s ≡ 1) = scalar_sizes k x r s e h in
      let size : r * s ≡ 1 = (λ i. one.0 i * one.1 i) in
      let some : 0 < r * s = omega arith in
      let inside : at < length T = omega arith in
      let here : v ≡ get_or T at null = get_or_read T at v inside is null in
      let cell : get_or (cells T at (r * s)) 0 null ≡ get_or T at null = get_or_cells T at (r * s) 0 null some ∙ ap (λ i. get_or T i null) (add-zero at) in
      ap text (here ∙ sym cell) ∙ ap (λ (y : Shape). shaped_text y text null r s (cells T at (r * s))) (sym e)

  -- of an interval nothing is printed
  pub interval_printed : (output : List ℕ) (printed : ℕ) → x ≡ Interval → printed ≤ length output → Printed (shaped_text x text null r s (cells T at (r * s))) output printed (Some printed) output
  interval_printed output printed e h =
      subst (λ (y : Shape). Printed (shaped_text y text null r s (cells T at (r * s))) output printed (Some printed) output) (sym e)
      (rw add-zero h, sym (add-zero printed), paste-zero output printed [])

-- the text by shape is that of a value
pub shaped : (k : Kind) (x : Shape) (r s : ℕ) (xs : List (Cell k)) → shaped_text x (cell_text k) (null_of k) r s xs ≡ shape_text x k r s xs
shaped k Scalar r s xs = refl
shaped k Vector r s xs = refl
shaped k Matrix r s xs = refl
shaped k Interval r s xs = refl

-- a print from the table of a kind l, where k is that kind, as it is told
pub printed_in : (k l : Kind) (t : Tables) (x : Shape) (r s at : ℕ) (output : List ℕ) (printed : ℕ) (o told : Option ℕ) (left seen : List ℕ) → k ≡ l → Printed (shaped_text x (cell_text l) (null_of l) r s (cells (table_of l t) at (r * s))) output printed o left → told ≡ o → seen ≡ left → Printed (shape_text x k r s (cells (table_of k t) at (r * s))) output printed told seen
printed_in k l t x r s at output printed o told left seen e h eo el =
    let same : shaped_text x (cell_text l) (null_of l) r s (cells (table_of l t) at (r * s)) ≡ shape_text x k r s (cells (table_of k t) at (r * s)) =
    shaped l x r s (cells (table_of l t) at (r * s)) ∙ ap (λ (m : Kind). shape_text x m r s (cells (table_of m t) at (r * s))) (sym e) in
    subst (λ (b : List ℕ). Printed b output printed told seen) same
    (subst (λ (p : Option ℕ). Printed (shaped_text x (cell_text l) (null_of l) r s (cells (table_of l t) at (r * s))) output printed p seen) (sym eo)
    (subst (λ (ys : List ℕ). Printed (shaped_text x (cell_text l) (null_of l) r s (cells (table_of l t) at (r * s))) output printed o ys) (sym el) h))
