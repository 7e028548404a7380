-- What a statement that fills the cells of a variable owes: its operands, its tests, its elements.
use Rattle.expressions.specs.Answers.{answered}
use Rattle.std.proofs.Common.{◌≡◌, ℕ, ◌*◌, true, List, [], IsErrAnd, IfOk, Some, None, Ok, Err, Option, Result, sym, refl, ap, ◌∙◌, subst}
use Rattle.types.specs.declared.kinds.Kind.{Kind}
use Rattle.fault.specs.declared.faults.Fault.{Fault}
use Rattle.picks.specs.declared.indices.Outside.{Outside}
use Rattle.meaning.specs.declared.layouts.Layout.{Layout}
use Rattle.meaning.specs.declared.places.Place.{Place}
use Rattle.meaning.specs.declared.slips.Slip.{Slip}
use Rattle.meaning.specs.Values.{Cell, Value, value_of, within}
use Rattle.meaning.specs.Plans.{Plan, Outcome, outcome, with}
use Rattle.meaning.specs.Expressions.{by1, by2, by3}
use Rattle.meaning.specs.States.{Tables, table_of, placed_in, layout_at, value_from, value_in}
use Rattle.meaning.specs.Works.{guarded, found, Filled, Unchanged, changed, Chosen}
use Rattle.meaning.proofs.Shells.{exits, left_refused, left_value, left_outside, there, tests}

-- ---- a statement with its operands
module _ (p : Place) (i : ℕ) (slips : List Slip) (t u : Tables) (r : Result Layout Fault) where
  abbrev at : ℕ → Option Value
  at = value_in p.width slips t

  abbrev from : ℕ → Layout → Value
  from a x = value_from p.width t a x

  pub filled_with : (a : ℕ) (f : Value → Outcome) (x : Layout) → Ok x ≡ found p (layout_at p.width slips a) → Filled p i (f (from a x)) t r u → Filled p i (with (at a) f) t r u
  filled_with a f x ex m = there p i Unchanged t u slips a f x r (sym ex) m

  pub filled_1 : (a : ℕ) (q : Value → Plan) (x : Layout) → Ok x ≡ found p (layout_at p.width slips a)
      → Filled p i (outcome p.width (q (from a x))) t r u → Filled p i (by1 p.width at a q) t r u
  filled_1 a q x ex m = filled_with a (λ v. outcome p.width (q v)) x ex m

  pub filled_2 : (a b : ℕ) (q : Value → Value → Plan) (x y : Layout) → Ok x ≡ found p (layout_at p.width slips a) → Ok y ≡ found p (layout_at p.width slips b)
      → Filled p i (outcome p.width (q (from a x) (from b y))) t r u → Filled p i (by2 p.width at a b q) t r u
  filled_2 a b q x y ex ey m = filled_with a (λ v. by1 p.width at b (q v)) x ex (filled_1 b (q (from a x)) y ey m)

  pub filled_3 : (a b c : ℕ) (q : Value → Value → Value → Plan) (x y z : Layout) → Ok x ≡ found p (layout_at p.width slips a) → Ok y ≡ found p (layout_at p.width slips b) → Ok z ≡ found p (layout_at p.width slips c)
      → Filled p i (outcome p.width (q (from a x) (from b y) (from c z))) t r u → Filled p i (by3 p.width at a b c q) t r u
  filled_3 a b c q x y z ex ey ez m = filled_with a (λ v. by2 p.width at b c (q v)) x ex (filled_2 b c (q (from a x)) y z ey ez m)

-- ---- a test fails
pub refused : (p : Place) (i : ℕ) (t : Tables) (r : Result Layout Fault) (e : Fault) → IsErrAnd r (λ (y : Fault). y ≡ e) → (q : Plan) → Err e ≡ guarded p q → Filled p i (outcome p.width q) t r t
refused p i t r e exit q h =
    exits p [] t t r (λ (y : Result Layout Fault). Filled p i (outcome p.width q) t y t) e exit (left_refused p i Unchanged t t q e (sym h) refl)

-- ---- every test passes
module _ (p : Place) (i : ℕ) (t u : Tables) (q : Plan) (x : Layout) (h : Ok x ≡ guarded p q) where
  pub form_is : q.layout ≡ x
  form_is = (tests p i Unchanged t u q x (sym h)).1

  -- the elements are written
  pub placed : (xs : List (Cell q.layout.kind)) → q.outside ≡ None → q.elements ≡ Ok xs → u ≡ placed_in p.width t i (value_of q.layout xs) → Filled p i (outcome p.width q) t (Ok x) u
  placed xs none all e = left_value p i Unchanged t u q x (sym h) xs none all e

  module _ (to : ℕ) (e : to ≡ i * p.width) (f : (k : Kind) → List (Cell k) → List (Cell k)) where
    abbrev all : List (Cell q.layout.kind)
    all = f q.layout.kind (table_of q.layout.kind t)

    changed_placed : u ≡ changed x.kind t to f → u ≡ placed_in p.width t i (value_of q.layout all)
    changed_placed w = w ∙ ap (λ (g : Layout). changed g.kind t to f) (sym form_is) ∙ ap (λ (n : ℕ). changed q.layout.kind t n f) e

    pub written : q.outside ≡ None → q.elements ≡ Ok all → u ≡ changed x.kind t to f → Filled p i (outcome p.width q) t (Ok x) u
    written none is w = placed all none is (changed_placed w)

    -- the same, where an index may be outside
    pub chosen : (o : Option ℕ) (s : Result (Unit {0}) Outside) (r : Result Layout Fault) → q.outside ≡ o → q.elements ≡ Ok all → Chosen o t (changed x.kind t to f) s u → r ≡ answered p x s → Filled p i (outcome p.width q) t r u
    chosen None s r out is w e = subst (λ (y : Result Layout Fault). Filled p i (outcome p.width q) t y u) (sym (e ∙ ap (answered p x) w.0)) (written out is w.1)
    chosen (Some k) s r out is w e = subst (λ (y : Result Layout Fault). Filled p i (outcome p.width q) t y u) (sym (e ∙ ap (answered p x) w.0)) (left_outside p i Unchanged t u q x (sym h) k out w.1)

pub answered_within : (p : Place) (x : Layout) (s : Result (Unit {0}) Outside) (r : Result Layout Fault) → r ≡ answered p x s → within p.width x.r x.s ≡ true → IfOk r (λ f. within p.width f.r f.s ≡ true)
answered_within p x (Ok y) r e h = subst (λ (z : Result Layout Fault). IfOk z (λ f. within p.width f.r f.s ≡ true)) (sym e) h
answered_within p x (Err o) r e h = subst (λ (z : Result Layout Fault). IfOk z (λ f. within p.width f.r f.s ≡ true)) (sym e) tt
