-- One operand element by element, where its kind and sizes stay.
use Rattle.std.proofs.Common.{◌≡◌, ℕ, ◌+◌, ◌*◌, ◌<◌, ◌≤◌, true, ◌&&◌, None, Ok, sym, ◌∙◌, arith}
use Rattle.std.proofs.lemmas.Bool.{and_parts}
use Rattle.types.specs.declared.kinds.Kind.{Kind}
use Rattle.types.specs.Typings.{of, flat}
use Rattle.element.specs.Cells.{cells}
use Rattle.meaning.specs.declared.layouts.Layout.{Layout}
use Rattle.meaning.specs.declared.places.Place.{Place}
use Rattle.meaning.specs.Values.{area, layout_of, known, elements_of}
use Rattle.meaning.specs.Plans.{simple}
use Rattle.meaning.specs.States.{Tables, table_of, value_from}
use Rattle.meaning.specs.Works.{guards}
use Rattle.meaning.proofs.Shells.{tests}
use Rattle.meaning.proofs.Rows.{as_cells, under_all}

module _ (p : Place) (k : Kind) (t : Tables) (a : ℕ) (x form : Layout) (h : Ok form ≡ guards p (of k (known x) && flat (known x)) true None (layout_of k x.shape x.r x.s) true) where
  -- the cells that the code reads are the elements of the operand
  pub own_cells : (at : ℕ) → at ≡ a * p.width → elements_of k (value_from p.width t a x) ≡ cells (table_of k t) at (form.r * form.s)
  own_cells at e =
      let q = tests p 0 (λ t u. Unit {0}) t t (simple (of k (known x) && flat (known x)) (layout_of k x.shape x.r x.s) (Ok (elements_of k (value_from p.width t a x)))) form (sym h) in
      as_cells k x.kind t (a * p.width) (area x) (and_parts (of k (known x)) (flat (known x)) q.2).0 ∙ (λ i. cells (table_of k t) (sym e i) (area (q.1 i)))

  -- they lie before the row's own
  pub own_below : (at to : ℕ) → at ≡ a * p.width → to ≡ p.row * p.width → a < p.row → form.r * form.s ≤ p.width → at + form.r * form.s ≤ to
  own_below at to ea et lt few = let u = under_all p.width a p.row lt in omega arith
