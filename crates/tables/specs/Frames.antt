-- What a row leaves of what it works on.
use Rattle.std.specs.Prelude.{◌≡◌, ℕ, ◌+◌, ◌*◌, ◌≤◌, List, length, Option, Result}
use Rattle.fault.specs.declared.faults.Fault.{Fault}
use Rattle.meaning.specs.declared.layouts.Layout.{Layout}
use Rattle.meaning.specs.declared.places.Place.{Place}
use Rattle.meaning.specs.Plans.{Outcome}
use Rattle.meaning.specs.States.{Tables, value_in}
use Rattle.meaning.specs.Values.{Value}
use Rattle.meaning.specs.Works.{Made, Filled}
use Rattle.tables.specs.declared.frames.Frame.{Frame}
use Rattle.tables.specs.declared.frames.View.{View}
use Rattle.tables.specs.declared.lent.Tables.{Tables as Lent}
use Rattle.tables.specs.Lent.{held, Kept}

-- the values that rows hold
abbrev pub values_in : View → Tables → ℕ → Option Value
values_in x t i = value_in x.place.width x.slips.now t i

abbrev pub values : View → Lent → ℕ → Option Value
values x t = values_in x (held t)

-- a table that has the cells of the row at work, and of those before it
abbrev pub Covers : {X : Type 0} → Place → List X → Type 0
Covers p xs = p.row * p.width + p.width ≤ length xs

-- an expression row: its value in its own cells; or its fault, and its cells are free
abbrev pub Makes : Place → Outcome → Lent → Result Layout Fault → Lent → Type 0
Makes p o t r u = Made p o (held t) r (held u)

-- a statement: a value in the cells of row i; or its fault, and nothing is written
abbrev pub Fills : Place → ℕ → Outcome → Lent → Result Layout Fault → Lent → Type 0
Fills p i o t r u = Filled p i o (held t) r (held u)

-- the row works where it did, in the tables that it was lent
pub record Lasts (f g : Frame) : Type 0 where
  pub place : g.place ≡ f.place
  pub slips : g.slips.ghost_name ≡ f.slips.ghost_name
  pub long_slips : length g.slips.now ≡ length f.slips.now
  pub tables : Kept f.tables g.tables

-- and the slips are as they were
pub record Stays (f g : Frame) : Type 0 where
  pub place : g.place ≡ f.place
  pub slips : g.slips ≡ f.slips
  pub tables : Kept f.tables g.tables
