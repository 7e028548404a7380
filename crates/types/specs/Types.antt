-- Kinds, shapes and sizes: their numbers in a file, and what follows for a size from other sizes.
use Rattle.std.specs.Prelude.{ℕ, ◌+◌, ◌*◌, max, Bool, true, false, cond, ◌&&◌, Some, None, Option, ◌==◌, nat_le}
use Rattle.types.specs.declared.kinds.Form.{Form}
use Rattle.types.specs.declared.kinds.Form.TheVariants.{First}
use Rattle.types.specs.declared.kinds.Kind.{Kind}
use Rattle.types.specs.declared.kinds.Kind.TheVariants.{Boolean, Character, Integer}
use Rattle.types.specs.declared.kinds.Shape.{Shape}
use Rattle.types.specs.declared.kinds.Shape.TheVariants.{Scalar, Vector, Matrix, Interval}

-- a count of rows or columns, where it is known
abbrev pub Size : Type 0
Size = Option ℕ

-- ---- numbers
abbrev pub kind_number : Kind → ℕ
kind_number Boolean = 1
kind_number Character = 2
kind_number Integer = 3

abbrev pub shape_number : Shape → ℕ
shape_number Scalar = 1
shape_number Vector = 2
shape_number Matrix = 3
shape_number Interval = 4

abbrev pub size_number : Size → ℕ
size_number None = 65535
size_number (Some n) = n

abbrev pub form_number : Form → ℕ
form_number First = 1

-- the kind that has a number, if one has
abbrev pub kind_of : ℕ → Option Kind
kind_of n = cond (n == 1) (Some Boolean) (cond (n == 2) (Some Character) (cond (n == 3) (Some Integer) None))

abbrev pub shape_of : ℕ → Option Shape
shape_of n = cond (n == 1) (Some Scalar) (cond (n == 2) (Some Vector) (cond (n == 3) (Some Matrix) (cond (n == 4) (Some Interval) None)))

abbrev pub form_of : ℕ → Option Form
form_of n = cond (n == 1) (Some First) None

-- a size as it is written
abbrev pub written : ℕ → Size
written n = cond (n == 65535) None (Some n)

abbrev pub same_kind : Kind → Kind → Bool
same_kind k l = kind_number k == kind_number l

abbrev pub same_shape : Shape → Shape → Bool
same_shape x y = shape_number x == shape_number y

-- ---- sizes
-- this very size
abbrev pub exactly : ℕ → Size → Bool
exactly n None = false
exactly n (Some m) = m == n

abbrev pub is_known : Size → Bool
is_known None = false
is_known (Some n) = true

-- two sizes that must be equal may be: they are not both known and different
abbrev pub agree : Size → Size → Bool
agree None y = true
agree (Some m) None = true
agree (Some m) (Some n) = m == n

-- the first may be at most the second
abbrev pub fits_in : Size → Size → Bool
fits_in None y = true
fits_in (Some m) None = true
fits_in (Some m) (Some n) = nat_le m n

-- the first, or the second where the first is not known
abbrev pub or_else : Size → Size → Size
or_else None y = y
or_else (Some m) y = Some m

-- one after the other
abbrev pub plus : Size → Size → Size
plus None y = None
plus (Some m) None = None
plus (Some m) (Some n) = Some (m + n)

-- the larger
abbrev pub larger : Size → Size → Size
larger None y = None
larger (Some m) None = None
larger (Some m) (Some n) = Some (max m n)

-- a size that 16 bits hold, or nothing
abbrev pub short : Size → Bool
short None = true
short (Some n) = nat_le n 65535

abbrev pub capped : Size → Option Size
capped x = cond (short x) (Some x) None

-- open, or at most w
abbrev pub within : ℕ → Size → Bool
within w None = true
within w (Some n) = nat_le n w

-- not both known, or at most w elements together
abbrev pub area_within : ℕ → Size → Size → Bool
area_within w None s = true
area_within w (Some m) None = true
area_within w (Some m) (Some n) = nat_le (m * n) w

-- nothing that is known goes beyond w
abbrev pub room : ℕ → Size → Size → Bool
room w r s = within w r && (within w s && area_within w r s)
