-- Products of two values: their tests, and their elements by the cells of the operands.
use Rattle.std.specs.Prelude.{ℕ, ◌*◌, Bool, true, cond, ◌&&◌, ◌||◌, List, [], ◌∷◌, ℤ, None, Result, ◌==◌}
use Rattle.types.specs.declared.kinds.Kind.TheVariants.{Integer}
use Rattle.types.specs.declared.kinds.Shape.TheVariants.{Scalar, Vector, Matrix}
use Rattle.types.specs.Typings.{is, of}
use Rattle.arithmetic.specs.declared.faults.ArithmeticFault.{ArithmeticFault}
use Rattle.fault.specs.declared.faults.Fault.{Fault}
use Rattle.element.specs.Cells.{cells}
use Rattle.elementwise.specs.Products.{dot, products}
use Rattle.meaning.specs.declared.layouts.Layout.{Layout}
use Rattle.meaning.specs.declared.places.Place.{Place}
use Rattle.meaning.specs.Values.{layout_of, known}
use Rattle.meaning.specs.Works.{guards}

-- of vectors a scalar, of matrices a matrix
abbrev pub product_layout : Layout → Layout → Layout
product_layout x y = let v = is Vector (known x) in layout_of Integer (cond v Scalar Matrix) (cond v 1 x.r) (cond v 1 y.s)

abbrev pub multiplies : Layout → Layout → Bool
multiplies x y = of Integer (known x) && (of Integer (known y) && ((is Vector (known x) && is Vector (known y)) || (is Matrix (known x) && is Matrix (known y))))

abbrev pub product_guard : Place → Layout → Layout → Result Layout Fault
product_guard p x y = guards p (multiplies x y) true None (product_layout x y) (x.s == cond (is Vector (known x)) y.s y.r)

-- the elements, of operands from `a` and from `b` on
abbrev pub product_cells : Layout → Layout → List ℤ → ℕ → ℕ → List (Result ℤ ArithmeticFault)
product_cells x y T a b = cond (is Vector (known x)) (dot (cells T a x.s) (cells T b x.s) ∷ []) (products x.r x.s y.s (cells T a (x.r * x.s)) (cells T b (x.s * y.s)))
