-- What check shows of a whole sheet, by intervals of rows.
use Rattle.std.specs.Prelude.{◌≡◌, ℕ, ◌+◌, ◌<◌, ◌≤◌, true, ◌⊎◌, List, length, Ok}
use Rattle.types.specs.declared.typing.Typing.{Typing}
use Rattle.checker.specs.declared.line.Line.{Line}
use Rattle.instruction.specs.declared.instructions.Instruction.{Instruction}
use Rattle.instruction.specs.declared.instructions.Instruction.TheVariants.{Expression, Change, Control}
use Rattle.instruction.specs.declared.instructions.Expression.TheVariants as make
use Rattle.instruction.specs.declared.instructions.Change.TheVariants as change
use Rattle.instruction.specs.declared.instructions.Control.TheVariants as control
use Rattle.rules.specs.Rules.{typed}
use Rattle.checker.specs.Blocks.{at, typing_at, operands, all, near, opener, closer, shuts, declares, ranges, loops, finishes}

module _ (lines : List Line) where
  abbrev pub says : ℕ → Instruction
  says p = (at lines p).instruction

  -- the row that closes the block of row b
  abbrev pub partner : ℕ → ℕ
  partner b = closer (says b)

  -- the block of row b: the rows after b up to its partner
  pub record Holds (b p : ℕ) : Type 0 where
    pub before : b < p
    pub upto : p ≤ partner b

  -- each block that holds row v holds row p
  pub record Visible (v p : ℕ) : Type 0 where
    pub before : v < p
    pub declared : declares (says v) ≡ true
    pub around : (c : ℕ) → opener (says c) ≡ true → Holds c v → Holds c p

  pub record Ranging (v p : ℕ) : Type 0 where
    pub ranging : ranges (says v) ≡ true
    pub around : Holds v p

  pub record Looping (b p : ℕ) : Type 0 where
    pub looping : loops (says b) ≡ true
    pub around : Holds b p

  pub record Structured (w : ℕ) (result : Typing) : Type 0 where
    pub typing : (p : ℕ) → p < length lines → typed w result (typing_at lines) (says p) ≡ Ok (at lines p).typing
    pub taken : (p : ℕ) → p < length lines → all (near lines p) (operands (says p)) ≡ true
    pub read : (p v : ℕ) → p < length lines → says p ≡ Expression (make.Variable v) → Visible v p ⊎ Ranging v p
    pub assigned : (p v a : ℕ) → p < length lines → says p ≡ Change (change.Assign v a) → Visible v p
    pub stored : (p v b c : ℕ) → p < length lines → says p ≡ Change (change.Store v b c) → Visible v p
    pub stored_two : (p v b c d : ℕ) → p < length lines → says p ≡ Change (change.StoreTwo v b c d) → Visible v p
    pub filled : (p v : ℕ) → p < length lines → says p ≡ Change (change.Read v) → Visible v p
    pub later : (b : ℕ) → b < length lines → opener (says b) ≡ true → b < partner b
    pub inside : (b : ℕ) → b < length lines → opener (says b) ≡ true → partner b + 1 < length lines
    pub shut : (b : ℕ) → b < length lines → opener (says b) ≡ true → shuts (says (partner b)) ≡ true
    pub nest : (c b : ℕ) → b < length lines → opener (says c) ≡ true → opener (says b) ≡ true → c < b → b < partner c → partner b < partner c
    pub tested : (p a : ℕ) → p < length lines → says p ≡ Control (control.Test a) → (b : ℕ) × Looping b p × ((at lines p).target ≡ partner b)
    pub left : (p : ℕ) → p < length lines → says p ≡ Control control.Break → (b : ℕ) × Looping b p × ((at lines p).target ≡ partner b)
    pub resumed : (p : ℕ) → p < length lines → says p ≡ Control control.Continue → Looping (at lines p).target p
    pub ended : (p b : ℕ) → p < length lines → says p ≡ Control (control.End b) → (opener (says b) ≡ true) × (b < p) × (partner b ≡ p) × ((at lines p).target ≡ b)
    pub final : (p : ℕ) → p + 1 ≡ length lines → finishes (says p) ≡ true
