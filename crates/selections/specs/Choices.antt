-- Values that indices choose elements of: the tests, the layout of what is chosen, and the answer.
use Rattle.std.specs.Prelude.{true, cond, ◌&&◌, None, Result}
use Rattle.types.specs.declared.kinds.Kind.{Kind}
use Rattle.types.specs.declared.kinds.Shape.TheVariants.{Scalar, Vector, Matrix}
use Rattle.types.specs.Typings.{is, index}
use Rattle.fault.specs.declared.faults.Fault.{Fault}
use Rattle.picks.specs.declared.indices.Index.{Index}
use Rattle.picks.specs.Indices.{index_count}
use Rattle.meaning.specs.declared.layouts.Layout.{Layout}
use Rattle.meaning.specs.declared.places.Place.{Place}
use Rattle.meaning.specs.Values.{layout_of, known}
use Rattle.meaning.specs.Expressions.{cross_shape}
use Rattle.meaning.specs.Works.{guards}
use Rattle.expressions.specs.Lists.{orderly}

-- ---- a vector and a list of indices
abbrev pub pick_layout : Kind → Layout → Index → Layout
pick_layout k y list = layout_of k (cond (is Scalar (known y)) Scalar Vector) 1 (index_count list)

abbrev pub pick_guard : Place → Layout → Layout → Index → Result Layout Fault
pick_guard p x y list = guards p (is Vector (known x) && index (known y)) (orderly list) None (pick_layout x.kind y list) true

-- ---- a matrix, a list of rows and a list of columns
abbrev pub cross_layout : Kind → Layout → Layout → Index → Index → Layout
cross_layout k y z rows columns =
    layout_of k (cross_shape (is Scalar (known y)) (is Scalar (known z))) (cond (is Scalar (known z)) 1 (index_count rows)) (cond (is Scalar (known z)) (index_count rows) (index_count columns))

abbrev pub cross_guard : Place → Layout → Layout → Layout → Index → Index → Result Layout Fault
cross_guard p x y z rows columns = guards p (is Matrix (known x) && (index (known y) && index (known z))) (orderly rows && orderly columns) None (cross_layout x.kind y z rows columns) true
