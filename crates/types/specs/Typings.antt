-- What is known of a value: the types that may be written, and what two types have to do with each other.
use Rattle.std.specs.Prelude.{ℕ, Bool, true, false, cond, not, ◌&&◌, ◌||◌, Some, None}
use Rattle.types.specs.declared.kinds.Kind.{Kind}
use Rattle.types.specs.declared.kinds.Kind.TheVariants.{Boolean, Character, Integer}
use Rattle.types.specs.declared.kinds.Shape.{Shape}
use Rattle.types.specs.declared.kinds.Shape.TheVariants.{Scalar, Vector, Matrix, Interval}
use Rattle.types.specs.declared.typing.Typing.{Typing}
use Rattle.types.specs.Types.{Size, same_kind, same_shape, exactly, agree, or_else, room}

abbrev pub typing : Kind → Shape → Size → Size → Typing
typing k x r s = record { kind = k; shape = x; r = r; s = s }

abbrev pub scalar : Kind → Typing
scalar k = typing k Scalar (Some 1) (Some 1)

abbrev pub vector : Kind → Size → Typing
vector k s = typing k Vector (Some 1) s

abbrev pub matrix : Kind → Size → Size → Typing
matrix k r s = typing k Matrix r s

abbrev pub interval : Typing
interval = typing Integer Interval (Some 1) (Some 2)

-- ---- kinds and shapes
abbrev pub is : Shape → Typing → Bool
is x t = same_shape x t.shape

abbrev pub of : Kind → Typing → Bool
of k t = same_kind k t.kind

-- no interval
abbrev pub flat : Typing → Bool
flat t = not (is Interval t)

-- a scalar of this kind
abbrev pub alone : Kind → Typing → Bool
alone k t = of k t && is Scalar t

-- an integer scalar, an integer vector or an interval
abbrev pub index : Typing → Bool
index t = of Integer t && not (is Matrix t)

-- equal shapes, or one of them a scalar; no interval
abbrev pub pairs : Typing → Typing → Bool
pairs t u = flat t && (flat u && (is Scalar t || (is Scalar u || same_shape t.shape u.shape)))

-- ---- types that may be written
-- the sizes that a shape fixes are written so, and intervals are of integers
abbrev pub type_fits : Kind → Shape → Size → Size → Bool
type_fits k Scalar r s = exactly 1 r && exactly 1 s
type_fits k Vector r s = exactly 1 r
type_fits k Matrix r s = true
type_fits Boolean Interval r s = false
type_fits Character Interval r s = false
type_fits Integer Interval r s = exactly 1 r && exactly 2 s

-- a sheet of width w may write this type: nothing that is known goes beyond the width
abbrev pub lawful : ℕ → Typing → Bool
lawful w t = type_fits t.kind t.shape t.r t.s && room w t.r t.s

-- ---- sizes
-- the length of a value that is taken as a vector: that of an interval is open
abbrev pub span : Typing → Size
span t = cond (is Interval t) None t.s

abbrev pub matches : Typing → Typing → Bool
matches t u = agree t.r u.r && agree t.s u.s

-- two that are worked on element by element, a scalar spread over the other
abbrev pub matches_spread : Typing → Typing → Bool
matches_spread t u = is Scalar t || (is Scalar u || matches t u)

-- what then comes of them, of kind k
abbrev pub spread : Kind → Typing → Typing → Typing
spread k t u =
    cond (is Scalar t) (typing k u.shape u.r u.s) (
    cond (is Scalar u) (typing k t.shape t.r t.s)
    (typing k t.shape (or_else t.r u.r) (or_else t.s u.s)))
