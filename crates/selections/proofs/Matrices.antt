-- Rows that choose elements of a matrix: their tests and their elements are those of the rule, and few enough for the row.
use Rattle.std.proofs.Common.{◌≡◌, ℕ, ◌*◌, ◌<◌, ◌≤◌, Bool, true, false, cond, ◌&&◌, List, None, Ok, Result, sym, refl, ap, ◌∙◌, mul-one, arith}
use Rattle.std.proofs.lemmas.Bool.{and_parts}
use Rattle.types.specs.declared.kinds.Shape.{Shape}
use Rattle.types.specs.declared.kinds.Shape.TheVariants.{Scalar, Vector, Matrix, Interval}
use Rattle.types.specs.Types.{same_shape}
use Rattle.types.specs.Typings.{is, index}
use Rattle.arithmetic.specs.declared.faults.ElementFault.{ElementFault}
use Rattle.element.specs.Cells.{cells}
use Rattle.picks.specs.declared.indices.Index.{Index}
use Rattle.picks.specs.Indices.{spanned, index_count, indices_of, first_outside2}
use Rattle.picks.specs.Picks.{crossed}
use Rattle.meaning.specs.declared.layouts.Layout.{Layout}
use Rattle.meaning.specs.declared.places.Place.{Place}
use Rattle.meaning.specs.Values.{Cell, null_of, layout_of, known, lawful, within, first, last}
use Rattle.meaning.specs.Expressions.{count, cross_shape, pick_two}
use Rattle.meaning.specs.Plans.{Plan}
use Rattle.meaning.specs.States.{Tables, table_of, value_from}
use Rattle.meaning.specs.Works.{guards, guarded}
use Rattle.meaning.proofs.Shells.{never, tests}
use Rattle.meaning.proofs.Rows.{lawful_fixed, within_small, scalar_one}
use Rattle.expressions.specs.Lists.{list_at}
use Rattle.selections.specs.Choices.{cross_guard}
use Rattle.selections.proofs.Choosing.{read_order, read_count, read_indices}

-- a scalar stands for one index
scalar_count : (W : ℕ) (t : Tables) (b : ℕ) (y : Layout) → lawful W y ≡ true → is Scalar (known y) ≡ true → count (value_from W t b y) ≡ 1
scalar_count W t b y law h = go y.shape h (scalar_one y (lawful_fixed W y law) h).1
  where
    go : (x : Shape) → same_shape Scalar x ≡ true → y.s ≡ 1 → cond (same_shape Interval x) (spanned (first (value_from W t b y)) (last (value_from W t b y))) y.s ≡ 1
    go Scalar h e = e
    go Vector h e = never h
    go Matrix h e = never h
    go Interval h e = never h

-- how many rows and columns are named, where the result is within the width
pub record Few (W m n : ℕ) : Type 0 where
  pub rows : m ≤ W
  pub columns : n ≤ W
  pub crossings : m * n ≤ W

few_by : (column : Bool) (W m n r s : ℕ) → 1 < W → (column ≡ true → n ≡ 1) → cond column 1 m ≡ r → cond column m n ≡ s → r ≤ W → s ≤ W → r * s ≤ W → Few W m n
few_by true W m n r s wide one er es lr ls la = let e = one refl in record { rows = omega arith; columns = omega arith; crossings = (let f : m * n ≡ m = ap (λ (k : ℕ). m * k) e ∙ mul-one m in omega arith) }
few_by false W m n r s wide one er es lr ls la = record { rows = omega arith; columns = omega arith; crossings = (let f : m * n ≡ r * s = (λ i. er i * es i) in omega arith) }

module _ (p : Place) (t : Tables) (a b c : ℕ) (x y z : Layout) (ly : lawful p.width y ≡ true) (lz : lawful p.width z ≡ true)
    (rows columns : Index) (er : rows ≡ list_at p.width t.integers b y) (ec : columns ≡ list_at p.width t.integers c z) where
  abbrev pub cross_at : Plan
  cross_at = pick_two (value_from p.width t a x) (value_from p.width t b y) (value_from p.width t c z)

  pub cross_guarded : cross_guard p x y z rows columns ≡ guarded p cross_at
  cross_guarded =
      let m = read_count p.width t b y ly rows er in
      let n = read_count p.width t c z lz columns ec in
      (λ i. guards p (is Matrix (known x) && (index (known y) && index (known z))) (read_order p.width t b y ly rows er i && read_order p.width t c z lz columns ec i) None
      (layout_of x.kind (cross_shape (is Scalar (known y)) (is Scalar (known z))) (cond (is Scalar (known z)) 1 (m i)) (cond (is Scalar (known z)) (m i) (n i))) true)

  module _ (form : Layout) (g : Ok form ≡ cross_guard p x y z rows columns) where
    abbrev indices : (index (known y) ≡ true) × (index (known z) ≡ true)
    indices = and_parts (index (known y)) (index (known z)) (and_parts (is Matrix (known x)) (index (known y) && index (known z)) (tests p 0 (λ t u. Unit {0}) t t cross_at form (sym (g ∙ cross_guarded))).2).1

    pub cross_outside : cross_at.outside ≡ first_outside2 x.r x.s (indices_of rows t.integers) (indices_of columns t.integers)
    cross_outside = (λ i. first_outside2 x.r x.s (read_indices p.width t b y ly rows er indices.0 i) (read_indices p.width t c z lz columns ec indices.1 i))

    pub cross_elements : (from : ℕ) → from ≡ a * p.width → cross_at.elements ≡ Ok (crossed (null_of x.kind) x.s (cells (table_of x.kind t) from (x.r * x.s)) (indices_of rows t.integers) (indices_of columns t.integers))
    cross_elements from e =
        let ok : List (Cell x.kind) → Result (List (Cell x.kind)) ElementFault = λ xs. Ok xs in
        (λ i. ok (crossed (null_of x.kind) x.s (cells (table_of x.kind t) (sym e i) (x.r * x.s)) (read_indices p.width t b y ly rows er indices.0 i) (read_indices p.width t c z lz columns ec indices.1 i)))

    pub cross_few : 1 < p.width → within p.width form.r form.s ≡ true → Few p.width (index_count rows) (index_count columns)
    cross_few wide w =
        let m = read_count p.width t b y ly rows er in
        let n = read_count p.width t c z lz columns ec in
        let e = (tests p 0 (λ t u. Unit {0}) t t cross_at form (sym (g ∙ cross_guarded))).1 in
        let s = within_small p.width form w in
        few_by (is Scalar (known z)) p.width (index_count rows) (index_count columns) form.r form.s wide
        (λ h. n ∙ scalar_count p.width t c z lz h)
        (ap (cond (is Scalar (known z)) 1) m ∙ ap (λ (f : Layout). f.r) e) ((λ i. cond (is Scalar (known z)) (m i) (n i)) ∙ ap (λ (f : Layout). f.s) e)
        s.rows s.columns s.elements
