-- An operator that is another, and what it then gives.
use Rattle.std.proofs.Common.{◌≡◌, ℕ, List, Result, sym, subst}
use Rattle.fault.specs.declared.faults.Fault.{Fault}
use Rattle.instruction.specs.declared.instructions.Infix.{Infix}
use Rattle.meaning.specs.declared.layouts.Layout.{Layout}
use Rattle.meaning.specs.declared.places.Place.{Place}
use Rattle.meaning.specs.declared.slips.Slip.{Slip}
use Rattle.meaning.specs.Expressions.{by2, infixed}
use Rattle.meaning.specs.States.{Tables, value_in}
use Rattle.meaning.specs.Works.{Made}

pub by_operator : (p : Place) (slips : List Slip) (t u : Tables) (r : Result Layout Fault) (a b : ℕ) (op own : Infix) → op ≡ own
    → Made p (by2 p.width (value_in p.width slips t) a b (infixed own)) t r u → Made p (by2 p.width (value_in p.width slips t) a b (infixed op)) t r u
by_operator p slips t u r a b op own e m = subst (λ (o : Infix). Made p (by2 p.width (value_in p.width slips t) a b (infixed o)) t r u) (sym e) m
