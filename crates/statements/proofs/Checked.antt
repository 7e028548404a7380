-- What check shows of a whole sheet is what its control rows ask, and which rows a row takes.
use Rattle.std.proofs.Common.{◌≡◌, ℕ, ◌<◌, true, ltb, List, [], ◌∷◌, length, sym, refl, subst, arith}
use Rattle.std.proofs.lemmas.Bool.{and_parts, ltb-true}
use Rattle.types.specs.declared.typing.Typing.{Typing}
use Rattle.instruction.specs.declared.instructions.Control.{Control as Turn}
use Rattle.instruction.specs.declared.instructions.Control.TheVariants as control
use Rattle.instruction.specs.declared.instructions.Instruction.{Instruction}
use Rattle.instruction.specs.declared.instructions.Instruction.TheVariants.{Expression, Change, Control}
use Rattle.checker.specs.declared.line.Line.{Line}
use Rattle.checker.specs.Blocks.{at, operands, all, near}
use Rattle.checker.specs.Structure.{Structured, says}
use Rattle.statements.specs.Ready.{DomainBefore, Reopens, Ready}

module _ (lines : List Line) (w : ℕ) (head : Typing) (sheet : Structured lines w head) where
  one_before : (p a : ℕ) → all (near lines p) (a ∷ []) ≡ true → a < p
  one_before p a h =
      let n = (and_parts (near lines p a) true h).0 in
      ltb-true a p (and_parts (ltb a p) _ n).0

  -- the rows that row p takes
  pub takes : (p : ℕ) → p < length lines → (i : Instruction) → says lines p ≡ i → all (near lines p) (operands i) ≡ true
  takes p lt i e = subst (λ (j : Instruction). all (near lines p) (operands j) ≡ true) e (sheet.taken p lt)

  domain_of : (p : ℕ) → p < length lines → (i : Instruction) → says lines p ≡ i → DomainBefore p i
  domain_of p lt (Expression e) is = tt
  domain_of p lt (Change c) is = tt
  domain_of p lt (Control (control.If a b)) is = tt
  domain_of p lt (Control (control.Else b)) is = tt
  domain_of p lt (Control (control.Loop b)) is = tt
  domain_of p lt (Control (control.Each a b)) is = one_before p a (takes p lt (Control (control.Each a b)) is)
  domain_of p lt (Control (control.Test a)) is = tt
  domain_of p lt (Control control.Break) is = tt
  domain_of p lt (Control control.Continue) is = tt
  domain_of p lt (Control (control.End b)) is = tt

  goes_back : (p i : ℕ) → p < length lines → i < p → Reopens lines p i
  goes_back p i lt before = let inside : i < length lines = omega arith in record { earlier = before; inside = inside; domain = domain_of i inside (says lines i) refl }

  -- for row p and its own target
  pub ready : (p : ℕ) → p < length lines → (u : Turn) → says lines p ≡ Control u → Ready lines p (at lines p).target u
  ready p lt (control.If a b) is = one_before p a (takes p lt (Control (control.If a b)) is)
  ready p lt (control.Else b) is = tt
  ready p lt (control.Loop b) is = tt
  ready p lt (control.Each a b) is = one_before p a (takes p lt (Control (control.Each a b)) is)
  ready p lt (control.Test a) is = one_before p a (takes p lt (Control (control.Test a)) is)
  ready p lt control.Break is = tt
  ready p lt control.Continue is = goes_back p (at lines p).target lt (sheet.resumed p lt is).around.before
  ready p lt (control.End b) is = let e = sheet.ended p b lt is in goes_back p (at lines p).target lt (subst (λ (i : ℕ). i < p) (sym e.3) e.1)
