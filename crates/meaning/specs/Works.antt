-- What the code of a row shows: its tests in their order, and what it leaves in the tables.
use Rattle.std.specs.Prelude.{◌≡◌, ℕ, ◌+◌, ◌*◌, ◌<◌, ◌≤◌, Bool, true, false, List, Some, None, Ok, Err, Option, Result}
use Rattle.types.specs.declared.kinds.Kind.{Kind}
use Rattle.fault.specs.declared.causes.Cause.{Cause}
use Rattle.fault.specs.declared.causes.Cause.TheVariants.{SizesDiffer, Beyond, Disordered, NoRule}
use Rattle.fault.specs.declared.faults.Fault.{Fault}
use Rattle.picks.specs.declared.indices.Outside.{Outside}
use Rattle.element.specs.Cells.{put}
use Rattle.meaning.specs.declared.layouts.Layout.{Layout}
use Rattle.meaning.specs.declared.places.Place.{Place}
use Rattle.meaning.specs.Values.{Cell, lawful}
use Rattle.meaning.specs.Plans.{Plan, Outcome, gives, faults, fits}
use Rattle.meaning.specs.States.{Tables, table_of, with_table, placed_in, FreeAt}

-- ---- tests
abbrev pub refuse : {X : Type 0} → Bool → Fault → Result X Fault → Result X Fault
refuse true f r = r
refuse false f r = Err f

abbrev pub fault_at : Place → Cause → ℕ → Fault
fault_at p c element = record { row = p.row; line = p.line; element = element; cause = c }

-- the tests that come before a row's indices and elements, in their order
abbrev pub guards : Place → Bool → Bool → Option ℕ → Layout → Bool → Result Layout Fault
guards p ruled ordered counted f agree =
    refuse ruled (fault_at p NoRule 0) (
    refuse ordered (fault_at p Disordered 0) (
    refuse (fits p.width counted f) (fault_at p Beyond 0) (
    refuse agree (fault_at p SizesDiffer 0) (Ok f))))

-- those of a plan
abbrev pub guarded : Place → Plan → Result Layout Fault
guarded p q = guards p q.ruled q.ordered q.counted q.layout q.agree

-- the layout of an operand, where it exists
abbrev pub found : Place → Option Layout → Result Layout Fault
found p None = Err (fault_at p NoRule 0)
found p (Some f) = Ok f

-- ---- tables
-- each table has the cells of the row, and of those before it
pub record Ample (p : Place) (bs cs is : ℕ) : Type 0 where
  pub booleans : p.row * p.width + p.width ≤ bs
  pub characters : p.row * p.width + p.width ≤ cs
  pub integers : p.row * p.width + p.width ≤ is

-- a value of this layout may lie at row a, which stands before the row at work
pub record Operand (p : Place) (a : ℕ) (f : Layout) : Type 0 where
  pub before : a < p.row
  pub lawful : lawful p.width f ≡ true

-- a value in the cells of row i; or the fault of the row at work, with what it may leave
abbrev pub Left : Place → ℕ → (Tables → Tables → Type 0) → Outcome → Tables → Result Layout Fault → Tables → Type 0
Left p i May (gives v) t r u = (r ≡ Ok v.layout) × (u ≡ placed_in p.width t i v)
Left p i May (faults c element) t r u = (r ≡ Err (fault_at p c element)) × May t u

-- an expression row: its value in its own cells; or its fault, and its cells are free
abbrev pub Made : Place → Outcome → Tables → Result Layout Fault → Tables → Type 0
Made p o t r u = Left p p.row (FreeAt p.width p.row) o t r u

abbrev pub Unchanged : Tables → Tables → Type 0
Unchanged t u = u ≡ t

-- a statement: a value in the cells of row i; or its fault, and nothing is written
abbrev pub Filled : Place → ℕ → Outcome → Tables → Result Layout Fault → Tables → Type 0
Filled p i o t r u = Left p i Unchanged o t r u

-- the table of a kind with the cells from `to` on made of its cells, in a way that works at every kind
abbrev pub changed : (k : Kind) → Tables → ℕ → ((k : Kind) → List (Cell k) → List (Cell k)) → Tables
changed k t to f = with_table k t (put (table_of k t) to (f k (table_of k t)))

-- afterwards the tables are `new`; or an index is outside, whose place is told, and they are as they were
abbrev pub Chosen : Option ℕ → Tables → Tables → Result (Unit {0}) Outside → Tables → Type 0
Chosen None t new r u = (r ≡ Ok tt) × (u ≡ new)
Chosen (Some k) t new r u = (r ≡ Err (record { place = k })) × (u ≡ t)
