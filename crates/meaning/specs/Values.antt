-- Values: a layout, which is kind, shape and sizes, and elements. When a layout is lawful at a width.
use Rattle.std.specs.Prelude.{ℕ, ◌*◌, Bool, false, ◌&&◌, List, [], ℤ, pos, slice_index_or, Some}
use Rattle.types.specs.declared.kinds.Kind.{Kind}
use Rattle.types.specs.declared.kinds.Kind.TheVariants.{Boolean, Character, Integer}
use Rattle.types.specs.declared.kinds.Shape.{Shape}
use Rattle.types.specs.declared.kinds.Shape.TheVariants.{Scalar, Vector}
use Rattle.types.specs.declared.typing.Typing.{Typing}
use Rattle.types.specs.Types.{room}
use Rattle.types.specs.Typings.{typing, type_fits}
use Rattle.meaning.specs.declared.layouts.Layout.{Layout}

-- ---- elements
-- what one element of a kind is
abbrev pub Cell : Kind → Type 0
Cell Boolean = Bool
Cell Character = ℤ
Cell Integer = ℤ

abbrev pub null_of : (k : Kind) → Cell k
null_of Boolean = false
null_of Character = pos 0
null_of Integer = pos 0

-- ---- layouts
abbrev pub layout_of : Kind → Shape → ℕ → ℕ → Layout
layout_of k x r s = record { kind = k; shape = x; r = r; s = s }

abbrev pub scalar_of : Kind → Layout
scalar_of k = layout_of k Scalar 1 1

abbrev pub vector_of : Kind → ℕ → Layout
vector_of k n = layout_of k Vector 1 n

-- how many elements a value has
abbrev pub area : Layout → ℕ
area f = f.r * f.s

-- the typing that knows all of it
abbrev pub known : Layout → Typing
known f = typing f.kind f.shape (Some f.r) (Some f.s)

-- the sizes that its shape fixes are so, and an interval is of integers
abbrev pub fixed : Layout → Bool
fixed f = type_fits f.kind f.shape (Some f.r) (Some f.s)

-- rows, columns and elements are at most the width
abbrev pub within : ℕ → ℕ → ℕ → Bool
within W r s = room W (Some r) (Some s)

-- a value of this layout may exist at width W
abbrev pub lawful : ℕ → Layout → Bool
lawful W f = fixed f && within W f.r f.s

-- ---- values
-- a layout, and the elements row by row
pub record Value : Type 0 where
  pub layout : Layout
  pub elements : List (Cell layout.kind)

-- what is known of a value: all of it
abbrev pub exactly : Value → Typing
exactly v = known v.layout

-- elements of kind l, asked for as kind k
abbrev pub elements_as : (k l : Kind) → List (Cell l) → List (Cell k)
elements_as Boolean Boolean xs = xs
elements_as Boolean Character xs = []
elements_as Boolean Integer xs = []
elements_as Character Boolean xs = []
elements_as Character Character xs = xs
elements_as Character Integer xs = []
elements_as Integer Boolean xs = []
elements_as Integer Character xs = []
elements_as Integer Integer xs = xs

-- the elements of a value of kind k
abbrev pub elements_of : (k : Kind) → Value → List (Cell k)
elements_of k v = elements_as k v.layout.kind v.elements

abbrev pub value_of : (f : Layout) → List (Cell f.kind) → Value
value_of f xs = record { layout = f; elements = xs }

-- the integer of a scalar, and the lower bound of an interval
abbrev pub first : Value → ℤ
first v = slice_index_or (elements_of Integer v) 0 (pos 0)

-- the upper bound of an interval
abbrev pub last : Value → ℤ
last v = slice_index_or (elements_of Integer v) 1 (pos 0)

-- what a condition says
abbrev pub truth : Value → Bool
truth v = slice_index_or (elements_of Boolean v) 0 false
