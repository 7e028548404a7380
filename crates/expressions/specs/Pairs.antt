-- Two values that are worked on element by element: their cells, and what comes of their layouts.
use Rattle.std.specs.Prelude.{ℕ, ◌*◌, true, cond, ◌&&◌, None, Result}
use Rattle.types.specs.declared.kinds.Kind.{Kind}
use Rattle.types.specs.declared.kinds.Shape.TheVariants.{Scalar}
use Rattle.types.specs.Typings.{is, of, pairs, matches_spread}
use Rattle.fault.specs.declared.faults.Fault.{Fault}
use Rattle.element.specs.declared.operands.Operand.{Operand}
use Rattle.element.specs.declared.operands.Operand.TheVariants as operand
use Rattle.meaning.specs.declared.layouts.Layout.{Layout}
use Rattle.meaning.specs.declared.places.Place.{Place}
use Rattle.meaning.specs.Values.{layout_of, known}
use Rattle.meaning.specs.Works.{guards}

-- the cells of the value of this layout at row a: a scalar's stands for every element
abbrev pub cells_of : ℕ → ℕ → Layout → Operand
cells_of W a x = cond (is Scalar (known x)) (operand.Scalar (a * W)) (operand.Run (a * W))

-- a scalar takes the layout of the other
abbrev pub pair_layout : Kind → Layout → Layout → Layout
pair_layout k x y = layout_of k (cond (is Scalar (known x)) y.shape x.shape) (cond (is Scalar (known x)) y.r x.r) (cond (is Scalar (known x)) y.s x.s)

-- the tests of two operands of kind k that give elements of kind l
abbrev pub pair_guard : Place → Kind → Kind → Layout → Layout → Result Layout Fault
pair_guard p k l x y = guards p (of k (known x) && (of k (known y) && pairs (known x) (known y))) true None (pair_layout l x y) (matches_spread (known x) (known y))
