-- A store into a matrix whose tests passed: where its cells lie, and that it writes what the rule names.
use Rattle.expressions.specs.Answers.{answered}
use Rattle.std.proofs.Common.{◌≡◌, ℕ, ◌+◌, ◌*◌, ◌<◌, ◌≤◌, true, ◌&&◌, List, [], ◌∷◌, get_or, set, ℤ, pos, None, Ok, Result, sym, ap, ◌∙◌, arith}
use Rattle.std.proofs.lemmas.Bool.{and_parts}
use Rattle.types.specs.declared.kinds.Kind.{Kind}
use Rattle.types.specs.declared.kinds.Kind.TheVariants.{Integer}
use Rattle.types.specs.declared.kinds.Shape.TheVariants.{Scalar, Matrix}
use Rattle.types.specs.Typings.{is, of, alone}
use Rattle.element.specs.Cells.{cells}
use Rattle.picks.specs.declared.indices.Outside.{Outside}
use Rattle.picks.specs.Indices.{first_outside2, place_of}
use Rattle.fault.specs.declared.faults.Fault.{Fault}
use Rattle.meaning.specs.declared.layouts.Layout.{Layout}
use Rattle.meaning.specs.declared.places.Place.{Place}
use Rattle.meaning.specs.Values.{Cell, null_of, area, known, lawful, first}
use Rattle.meaning.specs.Plans.{Plan, outcome}
use Rattle.meaning.specs.Changes.{stored_at_two}
use Rattle.meaning.specs.States.{Tables, table_of, value_from}
use Rattle.meaning.specs.Works.{guards, Filled, changed, Chosen}
use Rattle.meaning.proofs.Shells.{tests}
use Rattle.meaning.proofs.Rows.{lawful_small, under_all}
use Rattle.changes.specs.Stores.{stores_two}
use Rattle.changes.proofs.Filling.{chosen}
use Rattle.changes.proofs.Reading.{one_cell, scalar_cell}

module _ (p : Place) (t : Tables) (v b c d : ℕ) (x y z w form : Layout) (h : Ok form ≡ guards p (stores_two x y z w) true None x true)
    (lx : lawful p.width x ≡ true) (ly : lawful p.width y ≡ true) (lz : lawful p.width z ≡ true) (lw : lawful p.width w ≡ true) where
  abbrev plan : Plan
  plan = stored_at_two (value_from p.width t v x) (value_from p.width t b y) (value_from p.width t c z) (value_from p.width t d w)

  ruled : stores_two x y z w ≡ true
  ruled = (tests p 0 (λ t u. Unit {0}) t t plan form (sym h)).2

  same : x ≡ form
  same = (tests p 0 (λ t u. Unit {0}) t t plan form (sym h)).1

  operands : (alone Integer (known y) ≡ true) × (alone Integer (known z) ≡ true) × (alone x.kind (known w) ≡ true)
  operands =
      let m = (and_parts (is Matrix (known x)) (alone Integer (known y) && (alone Integer (known z) && alone x.kind (known w))) ruled).1 in
      let n = and_parts (alone Integer (known y)) (alone Integer (known z) && alone x.kind (known w)) m in
      let o = and_parts (alone Integer (known z)) (alone x.kind (known w)) n.1 in
      (n.0, o.0, o.1)

  row_is : (of Integer (known y) ≡ true) × (is Scalar (known y) ≡ true)
  row_is = and_parts (of Integer (known y)) (is Scalar (known y)) operands.0

  column_is : (of Integer (known z) ≡ true) × (is Scalar (known z) ≡ true)
  column_is = and_parts (of Integer (known z)) (is Scalar (known z)) operands.1

  value_is : (of x.kind (known w) ≡ true) × (is Scalar (known w) ≡ true)
  value_is = and_parts (of x.kind (known w)) (is Scalar (known w)) operands.2

  module _ (to row column from : ℕ) (et : to ≡ v * p.width) (er : row ≡ b * p.width) (ec : column ≡ c * p.width) (ef : from ≡ d * p.width) where
    abbrev i : ℤ
    i = get_or t.integers row (pos 0)

    abbrev j : ℤ
    j = get_or t.integers column (pos 0)

    i_is : first (value_from p.width t b y) ≡ i
    i_is = scalar_cell p.width t Integer b y ly row_is.0 row_is.1 ∙ ap (λ (m : ℕ). get_or t.integers m (pos 0)) (sym er)

    j_is : first (value_from p.width t c z) ≡ j
    j_is = scalar_cell p.width t Integer c z lz column_is.0 column_is.1 ∙ ap (λ (m : ℕ). get_or t.integers m (pos 0)) (sym ec)

    two_outside : plan.outside ≡ first_outside2 form.r form.s (i ∷ []) (j ∷ [])
    two_outside = λ m. first_outside2 (same m).r (same m).s (i_is m ∷ []) (j_is m ∷ [])

    abbrev writes : (k : Kind) → List (Cell k) → List (Cell k)
    writes k T = set (cells T to (form.r * form.s)) (place_of i * form.s + place_of j) (get_or T from (null_of k))

    two_elements : plan.elements ≡ Ok (writes x.kind (table_of x.kind t))
    two_elements =
        let k = x.kind in
        let T = table_of x.kind t in
        let e = scalar_cell p.width t k d w lw value_is.0 value_is.1 ∙ ap (λ (m : ℕ). get_or T m (null_of k)) (sym ef) in
        let at = sym et in
        λ m. Ok (set (cells T (at m) ((same m).r * (same m).s)) (place_of (i_is m) * (same m).s + place_of (j_is m)) (e m))

    pub two_filled : (u : Tables) (s : Result (Unit {0}) Outside) (r : Result Layout Fault) → Chosen (first_outside2 form.r form.s (i ∷ []) (j ∷ [])) t (changed form.kind t to writes) s u → r ≡ answered p form s → Filled p v (outcome p.width plan) t r u
    two_filled u s r g e = chosen p v t u plan form h to et writes (first_outside2 form.r form.s (i ∷ []) (j ∷ [])) s r two_outside two_elements g e

    module _ (len : ℕ) (ample : p.row * p.width + p.width ≤ len) where
      pub row_below : b < p.row → row < len
      row_below lt = let o = one_cell p.width b p.row len y lt ly row_is.1 ample in omega (arith, o, er)

      pub column_below : c < p.row → column < len
      column_below lt = let o = one_cell p.width c p.row len z lt lz column_is.1 ample in omega (arith, o, ec)

      pub value_below : d < p.row → from < len
      value_below lt = let o = one_cell p.width d p.row len w lt lw value_is.1 ample in omega (arith, o, ef)

      pub matrix_fits : v < p.row → to + form.r * form.s ≤ len
      matrix_fits lt =
          let u = under_all p.width v p.row lt in
          let s = (lawful_small p.width x lx).elements in
          omega (arith, u, s, et, ap area same)
