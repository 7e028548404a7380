-- An expression row whose elements and slip are written means what it should.
use Rattle.std.proofs.Common.{◌≡◌, List, set, Ok, Result, ap, ◌∙◌}
use Rattle.fault.specs.declared.faults.Fault.{Fault}
use Rattle.meaning.specs.declared.layouts.Layout.{Layout}
use Rattle.meaning.specs.declared.places.Place.{Place}
use Rattle.meaning.specs.declared.slips.Slip.{Slip}
use Rattle.meaning.specs.Plans.{Outcome, gives, faults}
use Rattle.meaning.specs.States.{State, Tables, holding}
use Rattle.meaning.specs.Works.{Made}
use Rattle.meaning.specs.Acts.{Answer, step, Evaluates}
use Rattle.statements.specs.Frames.{settled, settled_slip}

-- what `settle` ensures of its answer and of the slips, after a row that left the tables `u`
pub settles : (p : Place) (s : State) (o : Outcome) (r : Result Layout Fault) (u : Tables) (answer : Answer) (after : List Slip) → Made p o s.tables r u
    → answer ≡ settled p r → after ≡ set s.slips p.row (settled_slip r) → Evaluates p.width p.row p.line s o answer (holding s after u)
settles p s (gives v) r u answer after m ea es =
    let slips : after ≡ set s.slips p.row (settled_slip (Ok v.layout)) = es ∙ ap (λ (x : Result Layout Fault). set s.slips p.row (settled_slip x)) m.0 in
    let told : answer ≡ settled p (Ok v.layout) = ea ∙ ap (settled p) m.0 in
    λ i. step (told i) (holding s (slips i) (m.1 i))
settles p s (faults c element) r u answer after m ea es =
    record {
      answer = ea ∙ ap (settled p) m.0;
      rest = ap (λ (x : List Slip). holding s x u) (es ∙ ap (λ (x : Result Layout Fault). set s.slips p.row (settled_slip x)) m.0);
      free = m.1;
    }
