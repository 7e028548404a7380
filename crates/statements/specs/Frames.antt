-- The state of a sheet by its parts, and rows that work in some of them, whatever the others hold.
use Rattle.std.specs.Prelude.{◌≡◌, ℕ, ◌+◌, Bool, List, ℤ, Ok, Err, Result}
use Rattle.types.specs.declared.typing.Typing.{Typing}
use Rattle.source.specs.declared.state.StreamState.{StreamState}
use Rattle.fault.specs.declared.faults.Fault.{Fault}
use Rattle.instruction.specs.declared.instructions.Control.{Control as Turn}
use Rattle.instruction.specs.declared.instructions.Instruction.{Instruction}
use Rattle.checker.specs.declared.line.Line.{Line}
use Rattle.meaning.specs.declared.after.After.TheVariants.{Row}
use Rattle.meaning.specs.declared.layouts.Layout.{Layout}
use Rattle.meaning.specs.declared.places.Place.{Place}
use Rattle.meaning.specs.declared.slips.Slip.{Slip}
use Rattle.meaning.specs.States.{State, Tables, tables, value_at, holding, blank_slip, slip_of, slip_at}
use Rattle.meaning.specs.Acts.{Answer, Step, step, turned, branches, prints, reads, returns, advances, again, resumes, reopens, turns}

abbrev pub state_of : ℕ → StreamState → List Slip → Tables → List ℕ → List ℕ → ℕ → State
state_of taken stream slips t waiting output printed =
    record { taken = taken; stream = stream; slips = slips; tables = t; waiting = waiting; output = output; printed = printed }

-- the rest of the state as in s
abbrev pub showing : State → List Slip → Tables → List ℕ → ℕ → State
showing s slips t output printed = record { taken = s.taken; stream = s.stream; slips = slips; tables = t; waiting = s.waiting; output = output; printed = printed }

abbrev pub feeding : State → ℕ → StreamState → List Slip → Tables → List ℕ → State
feeding s taken stream slips t waiting = record { taken = taken; stream = stream; slips = slips; tables = t; waiting = waiting; output = s.output; printed = s.printed }

-- ---- rows by the parts that they use
-- reads slips, and writes nothing
abbrev pub OfSlips : (State → Step) → List Slip → Answer → Type 0
OfSlips f slips a = (s : State) (t : Tables) → step a (holding s slips t) ≡ f (holding s slips t)

-- reads slips and booleans, and writes nothing
abbrev pub OfBooleans : (State → Step) → List Slip → List Bool → Answer → Type 0
OfBooleans f slips bs a = (s : State) (cs is : List ℤ) → step a (holding s slips (tables bs cs is)) ≡ f (holding s slips (tables bs cs is))

-- the slips and the tables change from `slips` and `t` to `after` and `u`
abbrev pub InTables : (State → Step) → List Slip → Tables → Answer → List Slip → Tables → Type 0
InTables f slips t a after u = (s : State) → step a (holding s after u) ≡ f (holding s slips t)

-- the output changes from `output` to `text`, of which `end` bytes are printed then
abbrev pub InOutput : (State → Step) → List Slip → Tables → List ℕ → ℕ → Answer → List ℕ → ℕ → Type 0
InOutput f slips t output printed a text end = (s : State) → step a (showing s slips t text end) ≡ f (showing s slips t output printed)

-- the tables change from t to u, and the source from `taken`, `stream` and `waiting` to `lost`, `last` and `left`
abbrev pub FromSource : (State → Step) → ℕ → StreamState → List Slip → Tables → List ℕ → Answer → ℕ → StreamState → Tables → List ℕ → Type 0
FromSource f taken stream slips t waiting a lost last u left = (s : State) → step a (feeding s lost last slips u left) ≡ f (feeding s taken stream slips t waiting)

-- ---- what rows do in a state, by their place
abbrev pub branching : Place → ℕ → ℕ → State → Step
branching p a q s = branches p.width p.row p.line s (value_at p.width s a) q

abbrev pub returning : Place → Typing → ℕ → State → Step
returning p head a s = returns p.width p.row p.line s head (value_at p.width s a)

abbrev pub outputting : Place → ℕ → State → Step
outputting p a s = prints p.width p.row p.line s (value_at p.width s a)

abbrev pub inputting : Place → ℕ → State → Step
inputting p i s = reads p.width p.row p.line s i (value_at p.width s i)

abbrev pub advancing : Place → ℕ → ℕ → ℕ → ℕ → State → Step
advancing p i a e n s = advances p.width p.row p.line s i e n (turned (value_at p.width s a) n)

abbrev pub repeating : Place → ℕ → ℕ → ℕ → State → Step
repeating p i a e s = again p.width p.row p.line s i a e (slip_at s.slips i).kind

abbrev pub resuming : Place → ℕ → Turn → State → Step
resuming p i u s = resumes p.width p.row p.line s i u

abbrev pub reopening : Place → ℕ → Instruction → State → Step
reopening p i u s = reopens p.width p.row p.line s i u

abbrev pub turning : Place → List Line → ℕ → Turn → State → Step
turning p lines target u s = turns p.width p.row p.line s lines target u

-- ---- an expression row, once its elements are written
abbrev pub settled : Place → Result Layout Fault → Answer
settled p (Ok f) = Ok (Row (p.row + 1))
settled p (Err e) = Err e

abbrev pub settled_slip : Result Layout Fault → Slip
settled_slip (Ok f) = slip_of f 0
settled_slip (Err e) = blank_slip
