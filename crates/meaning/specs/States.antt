-- What rows work on: slips and tables and the values that they hold, the source, the output; and what a row changes there.
use Rattle.std.specs.Prelude.{◌≡◌, ℕ, ◌+◌, ◌*◌, Bool, cond, List, length, take, drop, ℤ, Some, None, Option, slice_index_or, slice_set}
use Rattle.types.specs.declared.kinds.Kind.{Kind}
use Rattle.types.specs.declared.kinds.Kind.TheVariants.{Boolean, Character, Integer}
use Rattle.types.specs.declared.kinds.Shape.TheVariants.{Scalar}
use Rattle.element.specs.Cells.{cells, put}
use Rattle.source.specs.declared.state.StreamState.{StreamState}
use Rattle.meaning.specs.declared.layouts.Layout.{Layout}
use Rattle.meaning.specs.declared.slips.Slip.{Slip}
use Rattle.meaning.specs.Values.{Cell, layout_of, area, lawful, Value, value_of}

-- ---- tables, one a kind
pub record Tables : Type 0 where
  pub booleans : List Bool
  pub characters : List ℤ
  pub integers : List ℤ

abbrev pub tables : List Bool → List ℤ → List ℤ → Tables
tables bs cs is = record { booleans = bs; characters = cs; integers = is }

abbrev pub table_of : (k : Kind) → Tables → List (Cell k)
table_of Boolean t = t.booleans
table_of Character t = t.characters
table_of Integer t = t.integers

abbrev pub with_table : (k : Kind) → Tables → List (Cell k) → Tables
with_table Boolean t xs = tables xs t.characters t.integers
with_table Character t xs = tables t.booleans xs t.integers
with_table Integer t xs = tables t.booleans t.characters xs

-- ---- slips
abbrev pub blank_slip : Slip
blank_slip = record { kind = None; shape = Scalar; r = 0; s = 0; position = 0 }

abbrev pub slip_of : Layout → ℕ → Slip
slip_of f position = record { kind = Some f.kind; shape = f.shape; r = f.r; s = f.s; position = position }

abbrev pub slip_at : List Slip → ℕ → Slip
slip_at slips i = slice_index_or slips i blank_slip

-- ---- values
-- the value of row i that has this layout
abbrev pub value_from : ℕ → Tables → ℕ → Layout → Value
value_from W t i f = value_of f (cells (table_of f.kind t) (i * W) (area f))

-- what a slip tells, where it is not blank and is lawful
abbrev pub layout_by : ℕ → Slip → Option Kind → Option Layout
layout_by W slip None = None
layout_by W slip (Some k) = let f = layout_of k slip.shape slip.r slip.s in cond (lawful W f) (Some f) None

abbrev pub layout_at : ℕ → List Slip → ℕ → Option Layout
layout_at W slips i = layout_by W (slip_at slips i) (slip_at slips i).kind

abbrev pub valued : ℕ → Tables → ℕ → Option Layout → Option Value
valued W t i None = None
valued W t i (Some f) = Some (value_from W t i f)

-- the value of row i, where one exists
abbrev pub value_in : ℕ → List Slip → Tables → ℕ → Option Value
value_in W slips t i = valued W t i (layout_at W slips i)

-- ---- all that rows work on
pub record State : Type 0 where
  -- how many bytes the source has lost, and how the last read went
  pub taken : ℕ
  pub stream : StreamState
  pub slips : List Slip
  pub tables : Tables
  -- the bytes that wait in the source
  pub waiting : List ℕ
  -- the output, and how much of it is printed
  pub output : List ℕ
  pub printed : ℕ

abbrev pub value_at : ℕ → State → ℕ → Option Value
value_at W s i = value_in W s.slips s.tables i

-- ---- the effects of rows
abbrev pub holding : State → List Slip → Tables → State
holding s slips t = record { taken = s.taken; stream = s.stream; slips = slips; tables = t; waiting = s.waiting; output = s.output; printed = s.printed }

-- the elements of a value in the cells of row i
abbrev pub placed_in : ℕ → Tables → ℕ → Value → Tables
placed_in W t i v = with_table v.layout.kind t (put (table_of v.layout.kind t) (i * W) v.elements)

-- row i takes a value, at a position of its domain
abbrev pub taking : ℕ → State → ℕ → Value → ℕ → State
taking W s i v position = holding s (slice_set s.slips i (slip_of v.layout position)) (placed_in W s.tables i v)

-- a variable takes elements, and its slip stays
abbrev pub refilled : ℕ → State → ℕ → Value → State
refilled W s i v = holding s s.slips (placed_in W s.tables i v)

abbrev pub blanked : State → ℕ → State
blanked s i = holding s (slice_set s.slips i blank_slip) s.tables

-- a text goes behind what was printed
abbrev pub printing : State → List ℕ → State
printing s bytes = record { taken = s.taken; stream = s.stream; slips = s.slips; tables = s.tables; waiting = s.waiting; output = put s.output s.printed bytes; printed = s.printed + length bytes }

abbrev pub streaming : State → List ℕ → ℕ → StreamState → State
streaming s waiting taken stream = record { taken = taken; stream = stream; slips = s.slips; tables = s.tables; waiting = waiting; output = s.output; printed = s.printed }

-- outside the W cells of row i nothing changes
pub record Elsewhere {X : Type 0} (W i : ℕ) (xs ys : List X) : Type 0 where
  pub long : length ys ≡ length xs
  pub before : take (i * W) ys ≡ take (i * W) xs
  pub after : drop (i * W + W) ys ≡ drop (i * W + W) xs

abbrev pub FreeAt : ℕ → ℕ → Tables → Tables → Type 0
FreeAt W i t u = (k : Kind) → Elsewhere W i (table_of k t) (table_of k u)
