-- A value that a row gives is within the width.
use Rattle.std.proofs.Common.{◌≡◌, ℕ, Bool, true, false, List, Some, None, Ok, Err, Option, Result, refl, subst}
use Rattle.std.proofs.lemmas.Bool.{and_parts}
use Rattle.arithmetic.specs.declared.faults.ElementFault.{ElementFault}
use Rattle.fault.specs.declared.causes.Cause.{Cause}
use Rattle.fault.specs.declared.causes.Cause.TheVariants.{NoRule, Disordered, Beyond, SizesDiffer}
use Rattle.source.specs.declared.state.StreamState.{StreamState}
use Rattle.instruction.specs.declared.instructions.Expression.{Expression as Make}
use Rattle.instruction.specs.declared.instructions.Expression.TheVariants as make
use Rattle.meaning.specs.declared.layouts.Layout.{Layout}
use Rattle.meaning.specs.declared.places.Place.{Place}
use Rattle.meaning.specs.Values.{Cell, Value, within}
use Rattle.meaning.specs.Plans.{Plan, Outcome, gives, faults, outcome, unless, unless_outside, finished, fits, count_fits, with}
use Rattle.meaning.specs.Expressions.{by1, by2, by3, evaluated, literal, empty, copied, prefixed, infixed, interval, stack, pick, pick_two, measured, cast_to, resized_to, streamed}
use Rattle.meaning.specs.States.{Tables}
use Rattle.meaning.specs.Works.{Left}

-- a value is given within the width
abbrev pub Within : ℕ → Outcome → Type 0
Within W (gives v) = within W v.layout.r v.layout.s ≡ true
Within W (faults c element) = Unit {0}

module _ (W : ℕ) where
  finished_within : (f : Layout) (xs : Result (List (Cell f.kind)) ElementFault) → within W f.r f.s ≡ true → Within W (finished f xs)
  finished_within f (Ok xs) h = h
  finished_within f (Err e) h = tt

  outside_within : (o : Option ℕ) (u : Outcome) → Within W u → Within W (unless_outside o u)
  outside_within None u h = h
  outside_within (Some k) u h = tt

  unless_within : (b : Bool) (c : Cause) (u : Outcome) → (b ≡ true → Within W u) → Within W (unless b c u)
  unless_within true c u h = h refl
  unless_within false c u h = tt

  pub outcome_within : (q : Plan) → Within W (outcome W q)
  outcome_within q =
      unless_within q.ruled NoRule _ (λ _.
      unless_within q.ordered Disordered _ (λ _.
      unless_within (fits W q.counted q.layout) Beyond _ (λ f.
      unless_within q.agree SizesDiffer _ (λ _.
      outside_within q.outside (finished q.layout q.elements) (finished_within q.layout q.elements (and_parts (count_fits W q.counted) (within W q.layout.r q.layout.s) f).1)))))

  pub with_within : (o : Option Value) (f : Value → Outcome) → ((v : Value) → Within W (f v)) → Within W (with o f)
  with_within None f h = tt
  with_within (Some v) f h = h v

  module _ (at : ℕ → Option Value) where
    pub one_within : (a : ℕ) (q : Value → Plan) → Within W (by1 W at a q)
    one_within a q = with_within (at a) (λ v. outcome W (q v)) (λ v. outcome_within (q v))

    pub two_within : (a b : ℕ) (q : Value → Value → Plan) → Within W (by2 W at a b q)
    two_within a b q = with_within (at a) (λ v. by1 W at b (q v)) (λ v. one_within b (q v))

    pub three_within : (a b c : ℕ) (q : Value → Value → Value → Plan) → Within W (by3 W at a b c q)
    three_within a b c q = with_within (at a) (λ v. by2 W at b c (q v)) (λ v. two_within b c (q v))

    pub evaluated_within : (state : StreamState) (e : Make) → Within W (evaluated W at state e)
    evaluated_within state (make.Literal k n) = outcome_within (literal k n)
    evaluated_within state (make.Empty k) = outcome_within (empty k)
    evaluated_within state (make.Variable v) = one_within v copied
    evaluated_within state (make.Prefix op a) = one_within a (prefixed op)
    evaluated_within state (make.Infix op a b) = two_within a b (infixed op)
    evaluated_within state (make.Interval a b) = two_within a b interval
    evaluated_within state (make.Stack a b) = two_within a b stack
    evaluated_within state (make.Pick a b) = two_within a b pick
    evaluated_within state (make.PickTwo a b c) = three_within a b c pick_two
    evaluated_within state (make.Measure m a) = one_within a (measured m)
    evaluated_within state (make.Cast k a) = one_within a (cast_to k)
    evaluated_within state (make.Resize a r s) = one_within a (resized_to r s)
    evaluated_within state make.State = outcome_within (streamed state)

-- a layout that is told is that of a value that is given
pub left_within : (p : Place) (i : ℕ) (May : Tables → Tables → Type 0) (o : Outcome) (t u : Tables) (f : Layout) → Within p.width o → Left p i May o t (Ok f) u → within p.width f.r f.s ≡ true
left_within p i May (gives v) t u f w h = let q = h.0 in let e : v.layout ≡ f = cc in subst (λ (x : Layout). within p.width x.r x.s ≡ true) e w
left_within p i May (faults c element) t u f w h = let q = h.0 in cc
