-- What a row that changes a variable asks of the sheet, and what it does once its elements are written.
use Rattle.std.specs.Prelude.{Some, None, ℕ, ◌<◌, List, Ok, Err, Option, Result, slice_set}
use Rattle.types.specs.declared.typing.Typing.{Typing}
use Rattle.fault.specs.declared.faults.Fault.{Fault}
use Rattle.instruction.specs.declared.instructions.Change.{Change as Changes}
use Rattle.instruction.specs.declared.instructions.Change.TheVariants as change
use Rattle.meaning.specs.declared.layouts.Layout.{Layout}
use Rattle.meaning.specs.declared.places.Place.{Place}
use Rattle.meaning.specs.declared.slips.Slip.{Slip}
use Rattle.meaning.specs.Values.{Value}
use Rattle.meaning.specs.Plans.{Outcome, outcome}
use Rattle.meaning.specs.Expressions.{by1}
use Rattle.meaning.specs.Changes.{nulls, declared}
use Rattle.meaning.specs.States.{State, slip_of}
use Rattle.meaning.specs.Acts.{Step, begins, changes}

-- the value that a declaration takes stands before row p
abbrev pub StartsAfter : ℕ → Option ℕ → Type 0
StartsAfter p None = Unit {0}
StartsAfter p (Some a) = a < p

-- operands stand before row p, and a variable before the operands that it takes
abbrev pub Reaches : ℕ → Changes → Type 0
Reaches p (change.Declare w v) = StartsAfter p v
Reaches p (change.Assign v a) = (a < p) × (v < a)
Reaches p (change.Store v b c) = (b < p) × (c < p) × (v < b) × (v < c)
Reaches p (change.StoreTwo v b c d) = (b < p) × (c < p) × (d < p) × (v < p)
Reaches p (change.Print a) = a < p
Reaches p (change.Read v) = v < p
Reaches p (change.Return a) = a < p

-- what a declaration of the written type w gives
abbrev pub start_outcome : ℕ → (ℕ → Option Value) → Typing → Option ℕ → Outcome
start_outcome W at w None = outcome W (nulls w)
start_outcome W at w (Some a) = by1 W at a (declared w)

-- ---- what rows do in a state, by their place
abbrev pub beginning : Place → Typing → Option ℕ → State → Step
beginning p w v s = begins p.width p.row p.line s w v

abbrev pub changing : Place → Typing → Changes → State → Step
changing p head c s = changes p.width p.row p.line s head c

-- a declaration notes its value in its own slip; after a fault the slips stay
abbrev pub begun : Place → List Slip → Result Layout Fault → List Slip
begun p slips (Ok f) = slice_set slips p.row (slip_of f 0)
begun p slips (Err e) = slips
