-- An end and a continue go back to their target.
use Rattle.std.proofs.Common.{◌≡◌, ℕ, ◌⊎◌, List, get_or, sym, ap, ◌∙◌, subst, ⊎_elim}
use Rattle.std.proofs.lemmas.List.{get_or_default}
use Rattle.instruction.specs.declared.instructions.Control.{Control as Turn}
use Rattle.instruction.specs.declared.instructions.Control.TheVariants as control
use Rattle.checker.specs.declared.line.Line.{Line}
use Rattle.checker.specs.Blocks.{at, past_end}
use Rattle.meaning.specs.declared.places.Place.{Place}
use Rattle.meaning.specs.States.{State}
use Rattle.meaning.specs.Acts.{Step}
use Rattle.statements.specs.Frames.{reopening, turning}
use Rattle.statements.specs.Ready.{DomainBefore, Reopens, Ready}

abbrev Back : Turn → Type 0
Back u = (u ≡ control.Continue) ⊎ ((b : ℕ) × (u ≡ control.End b))

module _ (lines : List Line) (target : ℕ) (u : Turn) (back : Back u) where
  pub reopens : (row : ℕ) → Ready lines row target u → Reopens lines row target
  reopens row r = ⊎_elim (λ e. subst (Ready lines row target) e r) (λ q. subst (Ready lines row target) q.1 r) back

  -- the row that the code reads there is the target's, whatever stands past the end
  same_line : (row : ℕ) (d : Line) → Ready lines row target u → get_or lines target d ≡ at lines target
  same_line row d r = get_or_default lines target d past_end (reopens row r).inside

  pub domain_read : (row : ℕ) (d : Line) → Ready lines row target u → DomainBefore target (get_or lines target d).instruction
  domain_read row d r = subst (λ (l : Line). DomainBefore target l.instruction) (sym (same_line row d r)) (reopens row r).domain

  pub turns_back : (p : Place) (s : State) (x : Step) (d : Line) → Ready lines p.row target u → x ≡ reopening p target (get_or lines target d).instruction s → x ≡ turning p lines target u s
  turns_back p s x d r h =
      let same : turning p lines target u s ≡ reopening p target (at lines target).instruction s =
      ⊎_elim (λ e. ap (λ (w : Turn). turning p lines target w s) e) (λ q. ap (λ (w : Turn). turning p lines target w s) q.1) back in
      h ∙ ap (λ (l : Line). reopening p target l.instruction s) (same_line p.row d r) ∙ sym same
