-- Single cells: scalars that become the bounds of an interval.
use Rattle.std.proofs.Common.{◌≡◌, ℕ, ◌*◌, ◌<◌, Bool, true, ◌&&◌, List, [], ◌∷◌, ◌++◌, length, get_or, take, ℤ, pos, None, Ok, Result, sym, ap, ◌∙◌, arith, drop-cons}
use lib.Signed.{le_z}
use Rattle.std.proofs.lemmas.Bool.{and_parts}
use Rattle.types.specs.declared.kinds.Kind.TheVariants.{Integer}
use Rattle.types.specs.declared.kinds.Shape.TheVariants.{Scalar, Interval}
use Rattle.types.specs.Typings.{is, of, alone}
use Rattle.arithmetic.specs.declared.faults.ElementFault.{ElementFault}
use Rattle.element.specs.Cells.{cells}
use Rattle.meaning.specs.declared.layouts.Layout.{Layout}
use Rattle.meaning.specs.declared.places.Place.{Place}
use Rattle.meaning.specs.Values.{area, known, layout_of, lawful, first}
use Rattle.meaning.specs.Expressions.{interval}
use Rattle.meaning.specs.States.{Tables, value_from}
use Rattle.meaning.specs.Works.{guards, guarded}
use Rattle.meaning.proofs.Shells.{guards_same, tests}
use Rattle.meaning.proofs.Rows.{scalar_one, lawful_fixed}
use Rattle.expressions.proofs.Listing.{first_cell}

-- one cell
pub cells_one : {X : Type 0} (T : List X) (at : ℕ) (d : X) → at < length T → cells T at 1 ≡ get_or T at d ∷ []
cells_one T at d inside = ap (take 1) (drop-cons T at d inside)

-- an integer scalar is its cell
pub scalar_cell : (W : ℕ) (t : Tables) (a : ℕ) (x : Layout) → lawful W x ≡ true → alone Integer (known x) ≡ true → first (value_from W t a x) ≡ get_or t.integers (a * W) (pos 0)
scalar_cell W t a x law h =
    let p = and_parts (of Integer (known x)) (is Scalar (known x)) h in
    let one = scalar_one x (lawful_fixed W x law) p.1 in
    first_cell W t a x p.0 (let e : area x ≡ 1 = (λ i. one.0 i * one.1 i) in omega (arith, e))

module _ (p : Place) (t : Tables) (a b : ℕ) (x y : Layout) (lx : lawful p.width x ≡ true) (ly : lawful p.width y ≡ true) (low high : ℕ) (el : low ≡ a * p.width) (eh : high ≡ b * p.width) where
  abbrev bounds : Bool
  bounds = alone Integer (known x) && alone Integer (known y)

  low_cell : bounds ≡ true → first (value_from p.width t a x) ≡ get_or t.integers low (pos 0)
  low_cell h = scalar_cell p.width t a x lx (and_parts (alone Integer (known x)) (alone Integer (known y)) h).0 ∙ ap (λ (m : ℕ). get_or t.integers m (pos 0)) (sym el)

  high_cell : bounds ≡ true → first (value_from p.width t b y) ≡ get_or t.integers high (pos 0)
  high_cell h = scalar_cell p.width t b y ly (and_parts (alone Integer (known x)) (alone Integer (known y)) h).1 ∙ ap (λ (m : ℕ). get_or t.integers m (pos 0)) (sym eh)

  pub interval_guard : (r s : Bool) → r ≡ bounds → s ≡ le_z (get_or t.integers low (pos 0)) (get_or t.integers high (pos 0))
      → guards p r s None (layout_of Integer Interval 1 2) true ≡ guarded p (interval (value_from p.width t a x) (value_from p.width t b y))
  interval_guard r s er es =
      (λ i. guards p (er i) (es i) None (layout_of Integer Interval 1 2) true)
      ∙ guards_same p bounds _ _ None None (layout_of Integer Interval 1 2) (layout_of Integer Interval 1 2) true true
      (λ h. λ i. guards p true (le_z (sym (low_cell h) i) (sym (high_cell h) i)) None (layout_of Integer Interval 1 2) true)

  pub interval_elements : (form : Layout) → Ok form ≡ guarded p (interval (value_from p.width t a x) (value_from p.width t b y)) → low < length t.integers → high < length t.integers
      → (interval (value_from p.width t a x) (value_from p.width t b y)).elements ≡ Ok (cells t.integers low 1 ++ cells t.integers high 1)
  interval_elements form g il ih =
      let h = (tests p 0 (λ t u. Unit {0}) t t (interval (value_from p.width t a x) (value_from p.width t b y)) form (sym g)).2 in
      let ok : List ℤ → Result (List ℤ) ElementFault = λ xs. Ok xs in
      (λ i. ok (low_cell h i ∷ high_cell h i ∷ [])) ∙ sym (λ i. ok (cells_one t.integers low (pos 0) il i ++ cells_one t.integers high (pos 0) ih i))
