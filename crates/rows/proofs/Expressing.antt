-- An expression row, from its elements to its slip, and a row by what it says.
use Rattle.std.proofs.Common.{◌≡◌, ℕ, true, List, IfOk, Ok, Err, Result, sym, ap, ◌∙◌, subst}
use Rattle.types.specs.declared.typing.Typing.{Typing}
use Rattle.fault.specs.declared.faults.Fault.{Fault}
use Rattle.instruction.specs.declared.instructions.Instruction.{Instruction}
use Rattle.checker.specs.declared.line.Line.{Line}
use Rattle.checker.specs.Blocks.{at}
use Rattle.meaning.specs.declared.layouts.Layout.{Layout}
use Rattle.meaning.specs.declared.places.Place.{Place}
use Rattle.meaning.specs.Values.{within}
use Rattle.meaning.specs.Plans.{Outcome}
use Rattle.meaning.specs.States.{State, Tables, FreeAt}
use Rattle.meaning.specs.Works.{Made}
use Rattle.meaning.specs.Acts.{Answer, Acts}
use Rattle.meaning.proofs.Within.{Within, left_within}

-- a layout that is told is within the width
pub told_within : (p : Place) (o : Outcome) (t u : Tables) (r : Result Layout Fault) → Within p.width o → Made p o t r u → IfOk r (λ f. within p.width f.r f.s ≡ true)
told_within p o t u (Ok f) w m = left_within p p.row (FreeAt p.width p.row) o t u f w m
told_within p o t u (Err e) w m = tt

-- what the line of a row says, the row does
pub acts_by : (p : Place) (head : Typing) (lines : List Line) (line : Line) (i : Instruction) (s : State) (a : Answer) (t : State) → line ≡ at lines p.row → line.instruction ≡ i
    → Acts p.width p.row p.line s head lines line.target i a t → Acts p.width p.row p.line s head lines (at lines p.row).target (at lines p.row).instruction a t
acts_by p head lines line i s a t e is h =
    let own : Acts p.width p.row p.line s head lines line.target line.instruction a t = subst (λ (j : Instruction). Acts p.width p.row p.line s head lines line.target j a t) (sym is) h in
    subst (λ (l : Line). Acts p.width p.row p.line s head lines l.target l.instruction a t) e own

pub says_so : (lines : List Line) (row : ℕ) (line : Line) (i : Instruction) → line ≡ at lines row → line.instruction ≡ i → (at lines row).instruction ≡ i
says_so lines row line i e is = ap (λ (l : Line). l.instruction) (sym e) ∙ is
