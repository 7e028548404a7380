-- What each row of a sheet does: where it goes on, or its fault, and what it leaves.
use Rattle.std.specs.Prelude.{◌≡◌, ℕ, ◌+◌, false, cond, ◌&&◌, ◌||◌, List, [], ◌∷◌, length, pos, ◌+ℤ◌, Some, None, Ok, Err, Option, Result, nat_le, nat_lt, slice_index_or, slice_set}
use Rattle.types.specs.declared.kinds.Kind.{Kind}
use Rattle.types.specs.declared.kinds.Kind.TheVariants.{Boolean, Character, Integer}
use Rattle.types.specs.declared.kinds.Shape.TheVariants.{Scalar, Vector, Interval}
use Rattle.types.specs.declared.typing.Typing.{Typing}
use Rattle.types.specs.Types.{same_shape}
use Rattle.types.specs.Typings.{is, of, flat, alone, matches}
use Rattle.source.specs.Taking.{counted, gone}
use Rattle.fault.specs.declared.causes.Cause.{Cause}
use Rattle.fault.specs.declared.causes.Cause.TheVariants.{SizesDiffer, Disordered, NoRule}
use Rattle.fault.specs.declared.faults.Fault.{Fault}
use Rattle.instruction.specs.declared.instructions.Change.{Change as Changes}
use Rattle.instruction.specs.declared.instructions.Change.TheVariants as change
use Rattle.instruction.specs.declared.instructions.Control.{Control as Turn}
use Rattle.instruction.specs.declared.instructions.Control.TheVariants as control
use Rattle.instruction.specs.declared.instructions.Instruction.{Instruction}
use Rattle.instruction.specs.declared.instructions.Instruction.TheVariants.{Expression, Change, Control}
use Rattle.checker.specs.declared.line.Line.{Line}
use Rattle.checker.specs.Blocks.{at}
use Rattle.meaning.specs.declared.after.After.{After}
use Rattle.meaning.specs.declared.after.After.TheVariants.{Row, Return, Wait}
use Rattle.meaning.specs.Values.{Cell, scalar_of, Value, value_of, exactly, elements_of, first, truth}
use Rattle.meaning.specs.Plans.{Outcome, gives, faults, outcome, with}
use Rattle.meaning.specs.Expressions.{in_order, count, by1, by2, by3, evaluated}
use Rattle.meaning.specs.Changes.{nulls, declared, assigned, stored_at, stored_at_two}
use Rattle.meaning.specs.Texts.{text}
use Rattle.source.specs.declared.state.ReadValue.{ReadValue}
use Rattle.meaning.specs.Reading.{reading, unread}
use Rattle.meaning.specs.States.{State, slip_at, value_at, holding, taking, refilled, blanked, printing, streaming, blank_slip, FreeAt}

-- where the sheet goes on, or the row's fault
abbrev pub Answer : Type 0
Answer = Result After Fault

-- an answer, and what the row leaves
pub record Step : Type 0 where
  pub answer : Answer
  pub state : State

abbrev pub step : Answer → State → Step
step a s = record { answer = a; state = s }

-- on at row q
abbrev pub goes : State → ℕ → Step
goes s q = step (Ok (Row q)) s

-- ---- each: element n of its domain, from 0
abbrev pub nth : (k : Kind) → Value → ℕ → Cell k
nth Boolean v n = slice_index_or (elements_of Boolean v) n false
nth Character v n = slice_index_or (elements_of Character v) n (pos 0)
nth Integer v n = cond (is Interval (exactly v)) (first v +ℤ pos n) (slice_index_or (elements_of Integer v) n (pos 0))

abbrev pub element_at : Value → ℕ → Value
element_at v n = value_of (scalar_of v.layout.kind) (nth v.layout.kind v n ∷ [])

-- what an each takes from its domain: an element, nothing more, or a fault
pub data Turned : Type 0 where
  takes : Value → Turned
  over : Turned
  fails : Cause → Turned

abbrev pub turned : Option Value → ℕ → Turned
turned None n = fails NoRule
turned (Some v) n =
    cond (is Vector (exactly v) || is Interval (exactly v)) (cond (in_order v) (cond (nat_lt n (count v)) (takes (element_at v n)) over) (fails Disordered)) (fails NoRule)

-- ---- row p, which came from a line of the source, in a state
module _ (W p line : ℕ) (s : State) where
  abbrev pub value : ℕ → Option Value
  value a = value_at W s a

  abbrev pub fault_of : Cause → ℕ → Fault
  fault_of c element = record { row = p; line = line; element = element; cause = c }

  -- a statement that faults writes nothing
  abbrev pub stops : Cause → ℕ → Step
  stops c element = step (Err (fault_of c element)) s

  abbrev pub stuck : Step
  stuck = stops NoRule 0

  -- the row after it is next
  abbrev pub onward : State → Step
  onward t = goes t (p + 1)

  -- an expression row: its own value; or a fault, which leaves its slip blank and its own cells free
  pub record Failed (c : Cause) (element : ℕ) (a : Answer) (t : State) : Type 0 where
    pub answer : a ≡ Err (fault_of c element)
    pub rest : t ≡ holding s (slice_set s.slips p blank_slip) t.tables
    pub free : FreeAt W p s.tables t.tables

  abbrev pub Evaluates : Outcome → Answer → State → Type 0
  Evaluates (gives v) a t = step a t ≡ onward (taking W s p v 0)
  Evaluates (faults c element) a t = Failed c element a t

  -- ---- declare, assign, store
  abbrev pub declares : Outcome → Step
  declares (gives v) = onward (taking W s p v 0)
  declares (faults c element) = stops c element

  abbrev pub refills : ℕ → Outcome → Step
  refills i (gives v) = onward (refilled W s i v)
  refills i (faults c element) = stops c element

  abbrev pub begins : Typing → Option ℕ → Step
  begins w None = declares (outcome W (nulls w))
  begins w (Some a) = declares (by1 W value a (declared w))

  -- ---- print, read, return
  abbrev pub writes : List ℕ → Step
  writes bytes = cond (nat_le (s.printed + length bytes) (length s.output)) (onward (printing s bytes)) (step (Ok Wait) s)

  abbrev pub prints : Option Value → Step
  prints None = stuck
  prints (Some v) = cond (flat (exactly v)) (writes (text v)) stuck

  abbrev pub reads_into : ℕ → (k : Kind) → ReadValue (Cell k) → List ℕ → Step
  reads_into i k got rest = onward (streaming (refilled W s i (value_of (scalar_of k) (got.value ∷ []))) rest (counted s.taken (gone s.waiting rest)) got.state)

  abbrev pub reads : ℕ → Option Value → Step
  reads i None = stuck
  reads i (Some v) = let k = v.layout.kind in cond (is Scalar (exactly v)) (reads_into i k (reading k s.waiting) (unread k s.waiting)) stuck

  -- a value of the head's kind and shape, and of its written sizes
  abbrev pub returns : Typing → Option Value → Step
  returns head None = stuck
  returns head (Some v) =
      cond (of head.kind (exactly v) && same_shape head.shape v.layout.shape)
      (cond (matches head (exactly v)) (step (Ok Return) s) (stops SizesDiffer 0)) stuck

  abbrev pub changes : Typing → Changes → Step
  changes head (change.Declare w v) = begins w v
  changes head (change.Assign i a) = refills i (by2 W value i a assigned)
  changes head (change.Store i b c) = refills i (by3 W value i b c stored_at)
  changes head (change.StoreTwo i b c d) = refills i (with (value i) (λ v. by3 W value b c d (stored_at_two v)))
  changes head (change.Print a) = prints (value a)
  changes head (change.Read i) = reads i (value i)
  changes head (change.Return a) = returns head (value a)

  -- ---- a condition is a boolean scalar: false goes to the row after q
  abbrev pub branches : Option Value → ℕ → Step
  branches None q = stuck
  branches (Some v) q = cond (alone Boolean (exactly v)) (cond (truth v) (onward s) (goes s (q + 1))) stuck

  -- the each row i, whose block ends at row e, at position n of its domain
  abbrev pub advances : ℕ → ℕ → ℕ → Turned → Step
  advances i e n (takes v) = goes (taking W s i v n) (i + 1)
  advances i e n over = goes (blanked s i) (e + 1)
  advances i e n (fails c) = stops c 0

  -- an each goes on where its own slip is not blank
  abbrev pub again : ℕ → ℕ → ℕ → Option Kind → Step
  again i a e None = stuck
  again i a e (Some k) = let n = (slip_at s.slips i).position + 1 in advances i e n (turned (value a) n)

  -- end and continue, by the opener, row i: a loop begins anew, an each takes its next element, an if is left
  abbrev pub resumes : ℕ → Turn → Step
  resumes i (control.If a b) = onward s
  resumes i (control.Else b) = onward s
  resumes i (control.Loop b) = goes s (i + 1)
  resumes i (control.Each a b) = again i a b (slip_at s.slips i).kind
  resumes i (control.Test a) = onward s
  resumes i control.Break = onward s
  resumes i control.Continue = onward s
  resumes i (control.End b) = onward s

  abbrev pub reopens : ℕ → Instruction → Step
  reopens i (Expression e) = onward s
  reopens i (Change c) = onward s
  reopens i (Control t) = resumes i t

  -- a jump goes on at the row after its target
  abbrev pub turns : List Line → ℕ → Turn → Step
  turns lines target (control.If a b) = branches (value a) target
  turns lines target (control.Else b) = goes s (target + 1)
  turns lines target (control.Loop b) = onward s
  turns lines target (control.Each a b) = advances p b 0 (turned (value a) 0)
  turns lines target (control.Test a) = branches (value a) target
  turns lines target control.Break = goes s (target + 1)
  turns lines target control.Continue = reopens target (at lines target).instruction
  turns lines target (control.End b) = reopens target (at lines target).instruction

  -- an expression row is a relation, since a fault leaves its cells free; every other row has one outcome
  abbrev pub Acts : Typing → List Line → ℕ → Instruction → Answer → State → Type 0
  Acts head lines target (Expression e) a t = Evaluates (evaluated W value s.stream e) a t
  Acts head lines target (Change c) a t = step a t ≡ changes head c
  Acts head lines target (Control u) a t = step a t ≡ turns lines target u
