-- Rows that work in some of the tables, whatever the others hold.
use Rattle.std.specs.Prelude.{Bool, List, ℤ, Result}
use Rattle.fault.specs.declared.faults.Fault.{Fault}
use Rattle.meaning.specs.declared.layouts.Layout.{Layout}
use Rattle.meaning.specs.declared.places.Place.{Place}
use Rattle.meaning.specs.Plans.{Outcome}
use Rattle.meaning.specs.States.{Tables, tables}
use Rattle.meaning.specs.Works.{Made}

-- the integers change from `is` to `js`
abbrev pub InIntegers : Place → (Tables → Outcome) → List ℤ → Result Layout Fault → List ℤ → Type 0
InIntegers p o is r js = (bs : List Bool) (cs : List ℤ) → Made p (o (tables bs cs is)) (tables bs cs is) r (tables bs cs js)

-- the booleans change from `bs` to `ds`
abbrev pub InBooleans : Place → (Tables → Outcome) → List Bool → Result Layout Fault → List Bool → Type 0
InBooleans p o bs r ds = (cs is : List ℤ) → Made p (o (tables bs cs is)) (tables bs cs is) r (tables ds cs is)

-- the booleans change from `bs` to `ds`, and the integers are `is`
abbrev pub OfIntegers : Place → (Tables → Outcome) → List ℤ → List Bool → Result Layout Fault → List Bool → Type 0
OfIntegers p o is bs r ds = (cs : List ℤ) → Made p (o (tables bs cs is)) (tables bs cs is) r (tables ds cs is)
