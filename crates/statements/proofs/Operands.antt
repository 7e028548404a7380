-- What a row reads of an operand that is there.
use Rattle.std.proofs.Common.{◌≡◌, ℕ, ◌*◌, ◌<◌, ◌≤◌, Bool, true, false, List, get_or, Some, None, Ok, Option, sym, ap, ◌∙◌, add-zero, arith}
use Rattle.std.proofs.lemmas.Bool.{and_parts}
use Rattle.types.specs.declared.kinds.Kind.TheVariants.{Boolean}
use Rattle.types.specs.declared.kinds.Shape.TheVariants.{Scalar}
use Rattle.types.specs.Typings.{is, of, alone}
use Rattle.element.proofs.Writes.{get_or_cells}
use Rattle.meaning.specs.declared.layouts.Layout.{Layout}
use Rattle.meaning.specs.declared.places.Place.{Place}
use Rattle.meaning.specs.declared.slips.Slip.{Slip}
use Rattle.meaning.specs.Values.{known, area, lawful, truth}
use Rattle.meaning.specs.States.{Tables, layout_at, valued, value_from, value_in}
use Rattle.meaning.specs.Works.{found}
use Rattle.meaning.proofs.Rows.{as_cells, lawful_fixed, lawful_small, scalar_one, under_all}

module _ (p : Place) (t : Tables) (a : ℕ) where
  there_by : (o : Option Layout) (x : Layout) → Ok x ≡ found p o → valued p.width t a o ≡ Some (value_from p.width t a x)
  there_by None x h = absurd (let z : ◌≡◌ {A = ℕ} 0 1 = cc in omega arith)
  there_by (Some y) x h = let e : x ≡ y = cc in ap (λ (z : Layout). Some (value_from p.width t a z)) (sym e)

  pub is_there : (slips : List Slip) (x : Layout) → Ok x ≡ found p (layout_at p.width slips a) → value_in p.width slips t a ≡ Some (value_from p.width t a x)
  is_there slips x h = there_by (layout_at p.width slips a) x h

-- ---- a scalar
-- it has one element, and so the width is no less
module _ (W : ℕ) (x : Layout) (law : lawful W x ≡ true) (scalar : true ≡ is Scalar (known x)) where
  scalar_area : area x ≡ 1
  scalar_area = let s = scalar_one x (lawful_fixed W x law) (sym scalar) in λ i. s.0 i * s.1 i

  pub scalar_wide : 1 ≤ W
  scalar_wide = omega (arith, scalar_area, (lawful_small W x law).elements)

-- ---- a condition
module _ (W : ℕ) (x : Layout) (law : lawful W x ≡ true) (lone : alone Boolean (known x) ≡ true) where
  abbrev parts : (of Boolean (known x) ≡ true) × (is Scalar (known x) ≡ true)
  parts = and_parts (of Boolean (known x)) (is Scalar (known x)) lone

  pub truth_cell : (t : Tables) (a : ℕ) → truth (value_from W t a x) ≡ get_or t.booleans (a * W) false
  truth_cell t a =
      let lt : 0 < area x = omega (arith, scalar_area W x law (sym parts.1)) in
      ap (λ (xs : List Bool). get_or xs 0 false) (as_cells Boolean x.kind t (a * W) (area x) parts.0) ∙ get_or_cells t.booleans (a * W) (area x) 0 false lt ∙ ap (λ (n : ℕ). get_or t.booleans n false) (add-zero (a * W))

  -- its cell is there
  pub cell_there : (a row n : ℕ) → a < row → row * W ≤ n → a * W < n
  cell_there a row n lt h =
      let u = under_all W a row lt in
      omega (arith, u, scalar_wide W x law (sym parts.1))
