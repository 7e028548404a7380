-- Rows that build a value of others: the cells that the code moves are the elements that the rule names.
use Rattle.std.proofs.Common.{◌≡◌, ℕ, ◌+◌, ◌*◌, max, true, ◌&&◌, ◌||◌, eqb, List, [], ◌++◌, Ok, Err, Result, sym, refl, ap, ◌∙◌, one-mul}
use Rattle.std.proofs.lemmas.List.Edits.{paste_none}
use Rattle.std.proofs.lemmas.Bool.{and_parts, eqb-true}
use Rattle.types.specs.declared.kinds.Kind.{Kind}
use Rattle.types.specs.declared.kinds.Kind.TheVariants.{Boolean, Character, Integer}
use Rattle.types.specs.declared.kinds.Shape.{Shape}
use Rattle.types.specs.declared.kinds.Shape.TheVariants.{Scalar, Vector, Matrix, Interval}
use Rattle.types.specs.Types.{Size}
use Rattle.types.specs.Types.{same_shape}
use Rattle.types.specs.Typings.{is, of}
use Rattle.rules.specs.Rules.{joins}
use Rattle.arithmetic.specs.declared.faults.ElementFault.{ElementFault}
use Rattle.fault.specs.declared.faults.Fault.{Fault}
use Rattle.element.specs.Cells.{cells, rows_of}
use Rattle.element.specs.Matrices.{resized, stacked}
use Rattle.meaning.specs.declared.layouts.Layout.{Layout}
use Rattle.meaning.specs.declared.places.Place.{Place}
use Rattle.meaning.specs.Values.{Cell, null_of, area, known, fixed, lawful, layout_of}
use Rattle.meaning.specs.Plans.{Plan, outcome}
use Rattle.meaning.specs.Expressions.{joined, stack, resized_to, empty}
use Rattle.meaning.specs.States.{Tables, table_of, with_table, value_from, FreeAt}
use Rattle.meaning.specs.Works.{guarded, Made}
use Rattle.meaning.proofs.Shells.{never, tests, stays, left_refused, left_value}
use Rattle.meaning.proofs.Rows.{as_cells, vector_one, lawful_fixed}

-- a scalar or a vector has one row
joins_one : (f : Layout) → fixed f ≡ true → joins (known f) ≡ true → f.r ≡ 1
joins_one f h t = go f.kind f.shape f.r f.s h t
  where
    go : (k : Kind) (x : Shape) (r s : ℕ) → fixed (layout_of k x r s) ≡ true → (same_shape Scalar x || same_shape Vector x) ≡ true → r ≡ 1
    go k Scalar r s h t = eqb-true r 1 (and_parts (eqb r 1) (eqb s 1) h).0
    go k Vector r s h t = eqb-true r 1 h
    go k Matrix r s h t = never t
    go k Interval r s h t = never t

one_area : (f : Layout) → f.r ≡ 1 → area f ≡ f.s
one_area f e = ap (λ (r : ℕ). r * f.s) e ∙ one-mul f.s

-- ---- joined
module _ (p : Place) (t : Tables) (a b : ℕ) (x y form : Layout) (h : Ok form ≡ guarded p (joined (value_from p.width t a x) (value_from p.width t b y)))
    (lx : lawful p.width x ≡ true) (ly : lawful p.width y ≡ true) (left right : ℕ) (el : left ≡ a * p.width) (er : right ≡ b * p.width) where
  abbrev joining : Plan
  joining = joined (value_from p.width t a x) (value_from p.width t b y)

  joinable : (of x.kind (known y) ≡ true) × (joins (known x) ≡ true) × (joins (known y) ≡ true)
  joinable =
      let one = and_parts (of x.kind (known y)) (joins (known x) && joins (known y)) (tests p 0 (λ t u. Unit {0}) t t joining form (sym h)).2 in
      let two = and_parts (joins (known x)) (joins (known y)) one.1 in
      (one.0, two.0, two.1)

  pub join_size : form.s ≡ x.s + y.s
  join_size = sym (ap (λ (f : Layout). f.s) (tests p 0 (λ t u. Unit {0}) t t joining form (sym h)).1)

  pub join_elements : joining.elements ≡ Ok (cells (table_of x.kind t) left x.s ++ cells (table_of x.kind t) right y.s)
  join_elements =
      let ok : List (Cell x.kind) → Result (List (Cell x.kind)) ElementFault = λ xs. Ok xs in
      let ax = one_area x (joins_one x (lawful_fixed p.width x lx) joinable.1) in
      let ay = one_area y (joins_one y (lawful_fixed p.width y ly) joinable.2) in
      let cy = as_cells x.kind y.kind t (b * p.width) (area y) joinable.0 in
      (λ i. ok (cells (table_of x.kind t) (sym el i) (ax i) ++ cy i)) ∙ (λ i. ok (cells (table_of x.kind t) left x.s ++ cells (table_of x.kind t) (sym er i) (ay i)))

-- ---- stacked
module _ (p : Place) (t : Tables) (a b : ℕ) (x y form : Layout) (h : Ok form ≡ guarded p (stack (value_from p.width t a x) (value_from p.width t b y)))
    (ly : lawful p.width y ≡ true) (upper lower : ℕ) (eu : upper ≡ a * p.width) (el : lower ≡ b * p.width) where
  abbrev stacking : Plan
  stacking = stack (value_from p.width t a x) (value_from p.width t b y)

  stackable : (of x.kind (known y) ≡ true) × (is Vector (known y) ≡ true)
  stackable =
      let one = and_parts (of x.kind (known y)) ((is Vector (known x) || is Matrix (known x)) && is Vector (known y)) (tests p 0 (λ t u. Unit {0}) t t stacking form (sym h)).2 in
      (one.0, (and_parts (is Vector (known x) || is Matrix (known x)) (is Vector (known y)) one.1).1)

  pub stack_size : form.r * form.s ≡ (x.r + 1) * max x.s y.s
  stack_size = sym (ap area (tests p 0 (λ t u. Unit {0}) t t stacking form (sym h)).1)

  pub stack_elements : stacking.elements ≡ Ok (stacked (null_of x.kind) (max x.s y.s) (rows_of x.r x.s (cells (table_of x.kind t) upper (x.r * x.s))) (cells (table_of x.kind t) lower y.s))
  stack_elements =
      let k = x.kind in
      let ok : List (Cell x.kind) → Result (List (Cell x.kind)) ElementFault = λ xs. Ok xs in
      let ay = one_area y (vector_one y (lawful_fixed p.width y ly) stackable.1) in
      let cy = as_cells x.kind y.kind t (b * p.width) (area y) stackable.0 in
      (λ i. ok (stacked (null_of x.kind) (max x.s y.s) (rows_of x.r x.s (cells (table_of x.kind t) (sym eu i) (area x))) (cy i)))
      ∙ (λ i. ok (stacked (null_of x.kind) (max x.s y.s) (rows_of x.r x.s (cells (table_of x.kind t) upper (area x))) (cells (table_of x.kind t) (sym el i) (ay i))))

-- ---- cut or padded
module _ (p : Place) (t : Tables) (a : ℕ) (r s : Size) (x form : Layout) (h : Ok form ≡ guarded p (resized_to r s (value_from p.width t a x))) (at : ℕ) (e : at ≡ a * p.width) where
  pub resize_elements : (resized_to r s (value_from p.width t a x)).elements ≡ Ok (resized (null_of x.kind) form.r form.s (rows_of x.r x.s (cells (table_of x.kind t) at (x.r * x.s))))
  resize_elements =
      let ok : List (Cell x.kind) → Result (List (Cell x.kind)) ElementFault = λ xs. Ok xs in
      let same = (tests p 0 (λ t u. Unit {0}) t t (resized_to r s (value_from p.width t a x)) form (sym h)).1 in
      λ i. ok (resized (null_of x.kind) (same i).r (same i).s (rows_of x.r x.s (cells (table_of x.kind t) (sym e i) (x.r * x.s))))

-- ---- the empty vector
with_own : (k : Kind) (t : Tables) → with_table k t (table_of k t) ≡ t
with_own Boolean t = refl
with_own Character t = refl
with_own Integer t = refl

pub empty_made : (p : Place) (k : Kind) (t : Tables) (r : Result Layout Fault) → r ≡ guarded p (empty k) → Made p (outcome p.width (empty k)) t r t
empty_made p k t (Ok x) h =
    left_value p p.row (FreeAt p.width p.row) t t (empty k) x (sym h) [] refl refl
    (sym (with_own k t) ∙ ap (with_table k t) (paste_none (table_of k t) (p.row * p.width) []))
empty_made p k t (Err f) h = left_refused p p.row (FreeAt p.width p.row) t t (empty k) f (sym h) (stays p.width p.row t)
