-- What the effects of rows make of the values that rows hold, and how many elements a row's value has.
use Rattle.std.specs.Prelude.{◌≡◌, ℕ, ◌*◌, ◌<◌, ◌≤◌, true, List, [], ◌∷◌, length, Some, None, Option, ◌≢◌, slice_set}
use Rattle.types.specs.declared.kinds.Kind.{Kind}
use Rattle.types.specs.declared.typing.Typing.{Typing}
use Rattle.source.specs.declared.state.StreamState.{StreamState}
use Rattle.instruction.specs.declared.instructions.Expression.{Expression as Make}
use Rattle.meaning.specs.Values.{Value, area, lawful}
use Rattle.meaning.specs.Plans.{gives, outcome}
use Rattle.meaning.specs.Expressions.{evaluated}
use Rattle.meaning.specs.Changes.{nulls, declared, assigned, stored_at, stored_at_two}
use Rattle.meaning.specs.States.{State, table_of, blank_slip, value_at, holding, taking, refilled, blanked, FreeAt}
use Rattle.laws.specs.Reads.{make_reads}

-- a value has as many elements as its layout says
abbrev pub Whole : Value → Type 0
Whole v = length v.elements ≡ area v.layout

-- a slip a row, and W cells a row in each table
pub record Roomy (W rows : ℕ) (s : State) : Type 0 where
  pub slips : rows ≤ length s.slips
  pub cells : (k : Kind) → rows * W ≤ length (table_of k s.tables)

-- in t row i holds o, and every other row what it held in s
pub record Stands (W i : ℕ) (o : Option Value) (s t : State) : Type 0 where
  pub own : value_at W t i ≡ o
  pub others : (j : ℕ) → (j ≢ i) → value_at W t j ≡ value_at W s j

-- ---- effects: of a row that takes a value, of a variable that takes elements, of a slip that goes blank, and of a fault that leaves a row's cells free
pub record Effects : Type 0 where
  pub takes : (W rows : ℕ) (s : State) (i : ℕ) (v : Value) (position : ℕ) → Roomy W rows s → i < rows → lawful W v.layout ≡ true → Whole v → Stands W i (Some v) s (taking W s i v position)
  pub refills : (W rows : ℕ) (s : State) (i : ℕ) (a v : Value) → Roomy W rows s → i < rows → value_at W s i ≡ Some a → v.layout ≡ a.layout → Whole v → Stands W i (Some v) s (refilled W s i v)
  pub blanks : (W rows : ℕ) (s : State) (i : ℕ) → Roomy W rows s → i < rows → Stands W i None s (blanked s i)
  pub faults : (W rows : ℕ) (s t : State) (p : ℕ) → Roomy W rows s → p < rows → t ≡ holding s (slice_set s.slips p blank_slip) t.tables → FreeAt W p s.tables t.tables → Stands W p None s t

-- ---- values are whole
-- what row i holds, if anything, may exist at width W and is whole
abbrev pub WholeAt : ℕ → (ℕ → Option Value) → ℕ → Type 0
WholeAt W at i = (v : Value) → at i ≡ Some v → (lawful W v.layout ≡ true) × Whole v

abbrev pub AllWhole : ℕ → (ℕ → Option Value) → List ℕ → Type 0
AllWhole W at [] = Unit {0}
AllWhole W at (i ∷ is) = WholeAt W at i × AllWhole W at is

-- a row that gives a value gives as many elements as its layout says
pub record Wholes : Type 0 where
  pub expressions : (W : ℕ) (stream : StreamState) (at : ℕ → Option Value) (e : Make) (v : Value) → AllWhole W at (make_reads e) → evaluated W at stream e ≡ gives v → Whole v
  pub nulls : (W : ℕ) (w : Typing) (v : Value) → outcome W (nulls w) ≡ gives v → Whole v
  pub declares : (W : ℕ) (w : Typing) (a v : Value) → outcome W (declared w a) ≡ gives v → Whole v
  pub assigns : (W : ℕ) (a b v : Value) → lawful W a.layout ≡ true → Whole a → lawful W b.layout ≡ true → Whole b → outcome W (assigned a b) ≡ gives v → Whole v
  pub stores : (W : ℕ) (a b c v : Value) → Whole a → outcome W (stored_at a b c) ≡ gives v → Whole v
  pub stores_two_whole : (W : ℕ) (a b c d v : Value) → Whole a → outcome W (stored_at_two a b c d) ≡ gives v → Whole v
  -- each value that a row holds may exist, and is whole
  pub found : (W rows : ℕ) (s : State) (i : ℕ) (v : Value) → Roomy W rows s → i < rows → value_at W s i ≡ Some v → (lawful W v.layout ≡ true) × Whole v
