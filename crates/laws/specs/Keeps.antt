-- What a checked row leaves where the rows that it reads hold values as noted: it always has a rule, and what it writes is as noted.
use Rattle.std.specs.Prelude.{◌≡◌, ℕ, ◌+◌, ◌<◌, ◌≤◌, Bool, true, ◌⊎◌, List, [], ◌∷◌, length, Some, None, Ok, Err, ◌≢◌}
use Rattle.types.specs.declared.typing.Typing.{Typing}
use Rattle.types.specs.Typings.{type_fits}
use Rattle.source.specs.Taking.{Took}
use Rattle.fault.specs.declared.faults.Fault.{Fault}
use Rattle.fault.specs.Faults.{cause_number}
use Rattle.instruction.specs.declared.instructions.Change.{Change as Changes}
use Rattle.instruction.specs.declared.instructions.Change.TheVariants as change
use Rattle.instruction.specs.declared.instructions.Control.{Control as Turn}
use Rattle.instruction.specs.declared.instructions.Control.TheVariants as control
use Rattle.instruction.specs.declared.instructions.Instruction.{Instruction}
use Rattle.instruction.specs.declared.instructions.Instruction.TheVariants.{Expression, Change, Control}
use Rattle.rules.specs.Rules.{typed}
use Rattle.checker.specs.declared.line.Line.{Line}
use Rattle.checker.specs.Blocks.{at, typing_at}
use Rattle.meaning.specs.declared.after.After.TheVariants.{Row, Return, Wait}
use Rattle.meaning.specs.Values.{Value}
use Rattle.meaning.specs.Texts.{text}
use Rattle.meaning.specs.States.{State, value_at, printing}
use Rattle.meaning.specs.Acts.{Answer, Acts}
use Rattle.laws.specs.Fitting.{Fits, Ready, AllReady}
use Rattle.laws.specs.Reads.{reads, AllUnder}
use Rattle.laws.specs.Laws.{Roomy}

-- beside slips and tables all is as it was
pub record Beside (s t : State) : Type 0 where
  pub waiting : t.waiting ≡ s.waiting
  pub taken : t.taken ≡ s.taken
  pub stream : t.stream ≡ s.stream
  pub output : t.output ≡ s.output
  pub printed : t.printed ≡ s.printed

-- ---- what row p, which came from a line of the source, answers in state s, and the state t that it leaves
module _ (W rows : ℕ) (notes : ℕ → Typing) (p line : ℕ) (s : State) (a : Answer) (t : State) where
  -- row i holds a value as noted, every other row what it held, and row q is next
  pub record Made (i q : ℕ) : Type 0 where
    pub next : a ≡ Ok (Row q)
    pub own : Ready W notes (value_at W t) i
    pub others : (j : ℕ) → (j ≢ i) → value_at W t j ≡ value_at W s j
    pub room : Roomy W rows t
    pub beside : Beside s t

  -- a fault 20 to 26 of this row; every other row holds what it held
  pub record Failed : Type 0 where
    pub fault : Fault
    pub answer : a ≡ Err fault
    pub of_row : fault.row ≡ p
    pub of_line : fault.line ≡ line
    pub low : 20 ≤ cause_number fault.cause
    pub high : cause_number fault.cause ≤ 26
    pub others : (j : ℕ) → (j ≢ p) → value_at W t j ≡ value_at W s j
    pub room : Roomy W rows t
    pub beside : Beside s t

  -- the each row i has no further element: it holds nothing, and the row after the end e of its block is next
  pub record Ended (i e : ℕ) : Type 0 where
    pub next : a ≡ Ok (Row (e + 1))
    pub own : value_at W t i ≡ None
    pub others : (j : ℕ) → (j ≢ i) → value_at W t j ≡ value_at W s j
    pub room : Roomy W rows t
    pub beside : Beside s t

  -- row q is next, and nothing changed
  pub record Passed (q : ℕ) : Type 0 where
    pub next : a ≡ Ok (Row q)
    pub same : t ≡ s

  -- the text of row i is printed, for which the output had room, and nothing else changed
  pub record Printed (i : ℕ) : Type 0 where
    pub value : Value
    pub holds : value_at W s i ≡ Some value
    pub space : s.printed + length (text value) ≤ length s.output
    pub next : a ≡ Ok (Row (p + 1))
    pub state : t ≡ printing s (text value)

  -- the output has too little room for the text of row i, and nothing changed
  pub record Awaits (i : ℕ) : Type 0 where
    pub value : Value
    pub holds : value_at W s i ≡ Some value
    pub full : length s.output < s.printed + length (text value)
    pub answer : a ≡ Ok Wait
    pub same : t ≡ s

  -- variable i holds what was read, as noted; bytes are gone from the front of what waits, and counted
  pub record Filled (i : ℕ) : Type 0 where
    pub next : a ≡ Ok (Row (p + 1))
    pub own : Ready W notes (value_at W t) i
    pub others : (j : ℕ) → (j ≢ i) → value_at W t j ≡ value_at W s j
    pub room : Roomy W rows t
    pub took : Took s.waiting t.waiting s.taken t.taken
    pub output : t.output ≡ s.output
    pub printed : t.printed ≡ s.printed

  -- the value of row i has the kind, the shape and the known sizes of the head, and nothing changed
  pub record Returned (head : Typing) (i : ℕ) : Type 0 where
    pub value : Value
    pub holds : value_at W s i ≡ Some value
    pub fits : Fits head value.layout
    pub answer : a ≡ Ok Return
    pub same : t ≡ s

  -- ---- by what the row says
  abbrev pub Makes : ℕ → Type 0
  Makes i = Made i (p + 1) ⊎ Failed

  abbrev pub Branches : ℕ → Type 0
  Branches q = Passed (p + 1) ⊎ Passed (q + 1)

  abbrev pub Advances : ℕ → ℕ → Type 0
  Advances i e = Made i (i + 1) ⊎ (Failed ⊎ Ended i e)

  abbrev pub ChangeLeaves : Typing → Changes → Type 0
  ChangeLeaves head (change.Declare t v) = Makes p
  ChangeLeaves head (change.Assign i b) = Makes i
  ChangeLeaves head (change.Store i b c) = Makes i
  ChangeLeaves head (change.StoreTwo i b c d) = Makes i
  ChangeLeaves head (change.Print b) = Printed b ⊎ Awaits b
  ChangeLeaves head (change.Read i) = Filled i
  ChangeLeaves head (change.Return b) = Returned head b ⊎ Failed

  -- end and continue, by their opener, row i
  abbrev pub ResumeLeaves : ℕ → Turn → Type 0
  ResumeLeaves i (control.If b e) = Passed (p + 1)
  ResumeLeaves i (control.Else e) = Passed (p + 1)
  ResumeLeaves i (control.Loop e) = Passed (i + 1)
  ResumeLeaves i (control.Each b e) = Advances i e
  ResumeLeaves i (control.Test b) = Passed (p + 1)
  ResumeLeaves i control.Break = Passed (p + 1)
  ResumeLeaves i control.Continue = Passed (p + 1)
  ResumeLeaves i (control.End e) = Passed (p + 1)

  abbrev pub ReopenLeaves : ℕ → Instruction → Type 0
  ReopenLeaves i (Expression e) = Passed (p + 1)
  ReopenLeaves i (Change c) = Passed (p + 1)
  ReopenLeaves i (Control u) = ResumeLeaves i u

  abbrev pub TurnLeaves : List Line → ℕ → Turn → Type 0
  TurnLeaves lines target (control.If b e) = Branches target
  TurnLeaves lines target (control.Else e) = Passed (target + 1)
  TurnLeaves lines target (control.Loop e) = Passed (p + 1)
  TurnLeaves lines target (control.Each b e) = Advances p e
  TurnLeaves lines target (control.Test b) = Branches target
  TurnLeaves lines target control.Break = Passed (target + 1)
  TurnLeaves lines target control.Continue = ReopenLeaves target (at lines target).instruction
  TurnLeaves lines target (control.End e) = ReopenLeaves target (at lines target).instruction

  abbrev pub Leaves : Typing → List Line → ℕ → Instruction → Type 0
  Leaves head lines target (Expression e) = Makes p
  Leaves head lines target (Change c) = ChangeLeaves head c
  Leaves head lines target (Control u) = TurnLeaves lines target u

-- ---- what check noted
-- the note of row i is the type of what it says
abbrev pub Noted : ℕ → Typing → List Line → ℕ → Type 0
Noted W head lines i = typed W head (typing_at lines) (at lines i).instruction ≡ Ok (at lines i).typing

abbrev pub AllNoted : ℕ → Typing → List Line → List ℕ → Type 0
AllNoted W head lines [] = Unit {0}
AllNoted W head lines (i ∷ is) = Noted W head lines i × AllNoted W head lines is

abbrev pub resumed : ℕ → Turn → List ℕ
resumed i (control.If b e) = []
resumed i (control.Else e) = []
resumed i (control.Loop e) = []
resumed i (control.Each b e) = i ∷ []
resumed i (control.Test b) = []
resumed i control.Break = []
resumed i control.Continue = []
resumed i (control.End e) = []

abbrev pub reopened : ℕ → Instruction → List ℕ
reopened i (Expression e) = []
reopened i (Change c) = []
reopened i (Control u) = resumed i u

abbrev pub turn_advances : List Line → ℕ → Turn → List ℕ
turn_advances lines target (control.If b e) = []
turn_advances lines target (control.Else e) = []
turn_advances lines target (control.Loop e) = []
turn_advances lines target (control.Each b e) = []
turn_advances lines target (control.Test b) = []
turn_advances lines target control.Break = []
turn_advances lines target control.Continue = reopened target (at lines target).instruction
turn_advances lines target (control.End e) = reopened target (at lines target).instruction

-- the each row, if any, that an end or a continue takes on
abbrev pub advanced : List Line → ℕ → Instruction → List ℕ
advanced lines target (Expression e) = []
advanced lines target (Change c) = []
advanced lines target (Control u) = turn_advances lines target u

abbrev pub change_writes : Changes → Bool
change_writes (change.Declare t v) = type_fits t.kind t.shape t.r t.s
change_writes (change.Assign i b) = true
change_writes (change.Store i b c) = true
change_writes (change.StoreTwo i b c d) = true
change_writes (change.Print b) = true
change_writes (change.Read i) = true
change_writes (change.Return b) = true

-- a type that a declaration writes has the sizes that its shape fixes
abbrev pub written_fits : Instruction → Bool
written_fits (Expression e) = true
written_fits (Change c) = change_writes c
written_fits (Control u) = true

-- ---- progress and preservation, of every row
abbrev pub RowsSafe : Type 0
RowsSafe =
    (W line : ℕ) (head : Typing) (lines : List Line) (rows : ℕ) (s : State) (p : ℕ) (a : Answer) (t : State) →
    Roomy W rows s → p < rows →
    AllUnder rows (reads lines (at lines p).target (at lines p).instruction) →
    AllReady W (typing_at lines) (value_at W s) (reads lines (at lines p).target (at lines p).instruction) →
    AllNoted W head lines (p ∷ advanced lines (at lines p).target (at lines p).instruction) →
    written_fits (at lines p).instruction ≡ true →
    Acts W p line s head lines (at lines p).target (at lines p).instruction a t →
    Leaves W rows (typing_at lines) p line s a t head lines (at lines p).target (at lines p).instruction
