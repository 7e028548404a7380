-- Declarations by the written type and the layout of a value: their tests, and what the variable begins with.
use Rattle.std.specs.Prelude.{◌≡◌, ℕ, ◌≤◌, Bool, true, false, cond, not, ◌&&◌, ◌||◌, List, replicate, ℤ, Some, None, Result, slice_index_or}
use Rattle.types.specs.declared.kinds.Kind.{Kind}
use Rattle.types.specs.declared.kinds.Shape.TheVariants.{Scalar}
use Rattle.types.specs.declared.typing.Typing.{Typing}
use Rattle.types.specs.Types.{same_shape, is_known, fits_in}
use Rattle.types.specs.Typings.{is}
use Rattle.fault.specs.declared.faults.Fault.{Fault}
use Rattle.picks.specs.Indices.{index_count}
use Rattle.rules.specs.Rules.{takes}
use Rattle.element.specs.Cells.{rows_of}
use Rattle.element.specs.Matrices.{resized}
use Rattle.meaning.specs.declared.layouts.Layout.{Layout}
use Rattle.meaning.specs.declared.places.Place.{Place}
use Rattle.meaning.specs.Values.{Cell, null_of, layout_of, area, known, lawful, within, Value, elements_of}
use Rattle.meaning.specs.Changes.{columns_for}
use Rattle.meaning.specs.Expressions.{listing, size_or}
use Rattle.meaning.specs.Works.{guards}
use Rattle.expressions.specs.Lists.{list_at, orderly}

-- the variable has the value's shape
abbrev pub shaped : Typing → Layout → Bool
shaped w y = same_shape w.shape y.shape

-- the value is a scalar that fills the variable
abbrev pub fills : Typing → Layout → Bool
fills w y = not (shaped w y) && is Scalar (known y)

-- y may begin a variable of the written type w
abbrev pub begins : Typing → Layout → Bool
begins w y = takes w (known y) && (not (fills w y) || (is_known w.r && is_known w.s))

-- the layout of a variable whose value has so many columns
abbrev pub layout_for : Typing → Layout → ℕ → Layout
layout_for w y columns = layout_of w.kind w.shape (size_or w.r y.r) (size_or w.s columns)

-- such a value is no longer than is written
abbrev pub room_for : Typing → Layout → ℕ → Bool
room_for w y columns = fits_in (Some y.r) w.r && fits_in (Some columns) w.s

-- how many columns the value at row a has for the variable
abbrev pub columns_at : ℕ → List ℤ → ℕ → Typing → Layout → ℕ
columns_at W ints a w y = cond (shaped w y) y.s (index_count (list_at W ints a y))

-- the tests, where the value lies at row a
abbrev pub declare_guard : Place → List ℤ → ℕ → Typing → Layout → Result Layout Fault
declare_guard p ints a w y =
    guards p (begins w y) (shaped w y || orderly (list_at p.width ints a y)) (cond (shaped w y) None (Some (index_count (list_at p.width ints a y))))
    (layout_for w y (columns_at p.width ints a w y)) (fills w y || room_for w y (columns_at p.width ints a w y))

-- y is a value that a variable of type w and layout f begins with
pub record Begun (W : ℕ) (ints : List ℤ) (a : ℕ) (w : Typing) (y f : Layout) : Type 0 where
  pub value : lawful W y ≡ true
  pub taken : takes w (known y) ≡ true
  pub small : within W f.r f.s ≡ true
  pub rows : fills w y ≡ false → y.r ≤ f.r
  pub columns : fills w y ≡ false → columns_at W ints a w y ≤ f.s

-- the elements that a variable of layout f begins with: a scalar for every cell, or rows padded with nulls
abbrev pub beginning : (k : Kind) → Typing → Layout → Value → List (Cell k)
beginning k w f v =
    cond (fills w v.layout) (replicate (area f) (slice_index_or (elements_of k v) 0 (null_of k))) (
    resized (null_of k) f.r f.s (rows_of v.layout.r (columns_for w v) (cond (shaped w v.layout) (elements_of k v) (listing k v))))
