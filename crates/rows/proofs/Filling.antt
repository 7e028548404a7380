-- A statement whose elements are written means what it should.
use Rattle.std.proofs.Common.{Some, None, Option, ◌≡◌, ℕ, List, Result, ap, ◌∙◌}
use Rattle.fault.specs.declared.faults.Fault.{Fault}
use Rattle.meaning.specs.declared.layouts.Layout.{Layout}
use Rattle.meaning.specs.declared.places.Place.{Place}
use Rattle.meaning.specs.declared.slips.Slip.{Slip}
use Rattle.types.specs.declared.typing.Typing.{Typing}
use Rattle.meaning.specs.Plans.{Outcome, gives, faults, outcome}
use Rattle.meaning.specs.Expressions.{by1}
use Rattle.meaning.specs.Changes.{nulls, declared as declaration}
use Rattle.meaning.specs.States.{State, Tables, holding, value_at}
use Rattle.meaning.specs.Works.{Filled}
use Rattle.meaning.specs.Acts.{Answer, step, declares, refills}
use Rattle.statements.specs.Frames.{settled}
use Rattle.rows.specs.Changing.{begun, start_outcome, beginning}

-- a variable took its elements, and the slips stayed
pub refilled : (p : Place) (i : ℕ) (s : State) (o : Outcome) (r : Result Layout Fault) (u : Tables) (answer : Answer) (after : List Slip) → Filled p i o s.tables r u → answer ≡ settled p r → after ≡ s.slips
    → step answer (holding s after u) ≡ refills p.width p.row p.line s i o
refilled p i s (gives v) r u answer after h e f = λ n. step ((e ∙ ap (settled p) h.0) n) (holding s (f n) (h.1 n))
refilled p i s (faults c element) r u answer after h e f = λ n. step ((e ∙ ap (settled p) h.0) n) (holding s (f n) (h.1 n))

-- a declaration took its value
pub declared : (p : Place) (s : State) (o : Outcome) (r : Result Layout Fault) (u : Tables) (answer : Answer) (after : List Slip) → Filled p p.row o s.tables r u → answer ≡ settled p r → after ≡ begun p s.slips r
    → step answer (holding s after u) ≡ declares p.width p.row p.line s o
declared p s (gives v) r u answer after h e f = λ n. step ((e ∙ ap (settled p) h.0) n) (holding s ((f ∙ ap (begun p s.slips) h.0) n) (h.1 n))
declared p s (faults c element) r u answer after h e f = λ n. step ((e ∙ ap (settled p) h.0) n) (holding s ((f ∙ ap (begun p s.slips) h.0) n) (h.1 n))

pub begins_with : (p : Place) (w : Typing) (v : Option ℕ) (s : State) (r : Result Layout Fault) (u : Tables) (answer : Answer) (after : List Slip) → Filled p p.row (start_outcome p.width (value_at p.width s) w v) s.tables r u
    → answer ≡ settled p r → after ≡ begun p s.slips r → step answer (holding s after u) ≡ beginning p w v s
begins_with p w None s r u answer after h e f = declared p s (outcome p.width (nulls w)) r u answer after h e f
begins_with p w (Some a) s r u answer after h e f = declared p s (by1 p.width (value_at p.width s) a (declaration w)) r u answer after h e f
