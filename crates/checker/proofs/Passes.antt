-- What a row that check passes is known to keep.
use Rattle.std.proofs.Common.{◌≡◌, ℕ, Bool, true, false, not, List, Some, None, Ok, Err, Option, Result, refl, subst}
use Rattle.std.proofs.lemmas.Bool.{and_parts}
use Rattle.types.specs.declared.typing.Typing.{Typing}
use Rattle.rules.specs.declared.refusal.Refusal.{Refusal}
use Rattle.rules.specs.declared.refusal.Refusal.TheVariants.{Form, Operand, Block, Scope}
use Rattle.checker.specs.declared.line.Line.{Line}
use Rattle.instruction.specs.declared.instructions.Control.{Control as Turn}
use Rattle.instruction.specs.declared.instructions.Control.TheVariants as control
use Rattle.instruction.specs.declared.instructions.Instruction.{Instruction}
use Rattle.instruction.specs.declared.instructions.Instruction.TheVariants.{Expression, Change, Control}
use Rattle.rules.specs.Rules.{Judged, unless, typed}
use Rattle.checker.specs.Blocks.{typing_at, operands, all, innermost, turn_nests, nests, scoped, target_of}
use Rattle.checker.specs.Judge.{lined, ruled, judged_as}
use Rattle.checker.specs.Stack.{turn_fits, fits}

no_ok : {A : Type 0} (e : Refusal) (n : A) → ◌≡◌ {A = Result A Refusal} (Err e) (Ok n) → ⊥
no_ok e n h = cc

pub unless_ok : (b : Bool) (e : Refusal) (rest : Judged) (n : Option Typing) → unless b e rest ≡ Ok n → (b ≡ true) × (rest ≡ Ok n)
unless_ok true e rest n h = (refl, h)
unless_ok false e rest n h = absurd (no_ok e n h)

lined_ok : (lines : List Line) (cs : List ℕ) (i : Instruction) (j : Judged) (line : Line) → lined lines cs i j ≡ Ok line → (n : Option Typing) × (j ≡ Ok n) × (record { instruction = i; typing = n; block = innermost cs; target = target_of lines cs i } ≡ line)
lined_ok lines cs i (Ok n) line h = (n, refl, cc)
lined_ok lines cs i (Err e) line h = absurd (no_ok e line h)

-- the line of a row keeps each rule
pub record Passed (w : ℕ) (result : Typing) (last : Bool) (lines : List Line) (p : ℕ) (placed : ℕ → Bool) (cs : List ℕ) (o : Option Instruction) (line : Line) : Type 0 where
  pub says : o ≡ Some line.instruction
  pub near_operands : all placed (operands line.instruction) ≡ true
  pub nested : nests lines p cs last line.instruction ≡ true
  pub in_scope : scoped lines p cs line.instruction ≡ true
  pub typing : typed w result (typing_at lines) line.instruction ≡ Ok line.typing
  pub stands : line.block ≡ innermost cs
  pub leads : line.target ≡ target_of lines cs line.instruction

pub passes : (w : ℕ) (result : Typing) (last : Bool) (lines : List Line) (p : ℕ) (placed : ℕ → Bool) (cs : List ℕ) (o : Option Instruction) (line : Line) → judged_as w result last lines p placed cs o ≡ Ok line → Passed w result last lines p placed cs o line
passes w result last lines p placed cs None line h = absurd (no_ok Form line h)
passes w result last lines p placed cs (Some i) line h =
    let l = lined_ok lines cs i (ruled w result last lines p placed cs i) line h in
    let a = unless_ok (all placed (operands i)) Operand _ l.0 l.1 in
    let b = unless_ok (nests lines p cs last i) Block _ l.0 a.1 in
    let c = unless_ok (scoped lines p cs i) Scope _ l.0 b.1 in
    subst (λ (x : Line). Passed w result last lines p placed cs (Some i) x) l.2
    (record { says = refl; near_operands = a.0; nested = b.0; in_scope = c.0; typing = c.1; stands = refl; leads = refl })

turn_fits_cases : (lines : List Line) (p : ℕ) (cs : List ℕ) (t : Turn) → turn_nests lines p cs t ≡ true → turn_fits t cs ≡ true
turn_fits_cases lines p cs (control.If a b) h = h
turn_fits_cases lines p cs (control.Else b) h = refl
turn_fits_cases lines p cs (control.Loop b) h = h
turn_fits_cases lines p cs (control.Each a b) h = h
turn_fits_cases lines p cs (control.Test a) h = refl
turn_fits_cases lines p cs control.Break h = refl
turn_fits_cases lines p cs control.Continue h = refl
turn_fits_cases lines p cs (control.End b) h = refl

pub nests_fits : (lines : List Line) (p : ℕ) (cs : List ℕ) (last : Bool) (i : Instruction) → nests lines p cs last i ≡ true → fits i cs ≡ true
nests_fits lines p cs last (Expression e) h = refl
nests_fits lines p cs last (Change s) h = refl
nests_fits lines p cs last (Control t) h = turn_fits_cases lines p cs t (and_parts (not last) (turn_nests lines p cs t) h).1
