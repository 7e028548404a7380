-- Rows that write nothing: a condition, and a return.
use Rattle.std.proofs.Common.{◌≡◌, ℕ, ◌+◌, ◌*◌, Bool, true, false, cond, ◌&&◌, List, get_or, Some, Ok, Err, Option, sym, ap, ◌∙◌}
use Rattle.std.proofs.lemmas.Bool.{cond-true, cond-false}
use Rattle.types.specs.declared.kinds.Kind.TheVariants.{Boolean}
use Rattle.types.specs.declared.typing.Typing.{Typing}
use Rattle.types.specs.Types.{same_shape}
use Rattle.types.specs.Typings.{alone, of, matches}
use Rattle.fault.specs.declared.causes.Cause.TheVariants.{SizesDiffer, NoRule}
use Rattle.fault.specs.declared.faults.Fault.{Fault}
use Rattle.meaning.specs.declared.after.After.TheVariants.{Row, Return}
use Rattle.meaning.specs.declared.layouts.Layout.{Layout}
use Rattle.meaning.specs.declared.places.Place.{Place}
use Rattle.meaning.specs.declared.slips.Slip.{Slip}
use Rattle.meaning.specs.Values.{Value, known, lawful, truth}
use Rattle.meaning.specs.States.{State, Tables, layout_at, value_from, holding}
use Rattle.meaning.specs.Acts.{step, branches, returns}
use Rattle.meaning.specs.Works.{fault_at, found}
use Rattle.statements.specs.Frames.{branching, returning}
use Rattle.statements.proofs.Operands.{is_there, truth_cell}

module _ (p : Place) (s : State) (slips : List Slip) (t : Tables) (a : ℕ) (x : Layout) (h : Ok x ≡ found p (layout_at p.width slips a)) where
  abbrev here : State
  here = holding s slips t

  abbrev v : Value
  v = value_from p.width t a x

  module _ (q : ℕ) where
    at_value : branching p a q here ≡ branches p.width p.row p.line here (Some v) q
    at_value = ap (λ (o : Option Value). branches p.width p.row p.line here o q) (is_there p t a slips x h)

    -- no boolean scalar
    pub branch_stuck : (f : Fault) → f ≡ fault_at p NoRule 0 → false ≡ alone Boolean (known x) → step (Err f) here ≡ branching p a q here
    branch_stuck f e bad = ap (λ (g : Fault). step (Err g) here) e ∙ sym (at_value ∙ cond-false (alone Boolean (known x)) _ _ (sym bad))

    module _ (law : lawful p.width x ≡ true) (lone : true ≡ alone Boolean (known x)) (at : ℕ) (start : at ≡ a * p.width) (b : Bool) (cell : get_or t.booleans at false ≡ b) where
      is_truth : truth v ≡ b
      is_truth = truth_cell p.width x law (sym lone) t a ∙ ap (λ (n : ℕ). get_or t.booleans n false) (sym start) ∙ cell

      pub branch_by : cond b (step (Ok (Row (p.row + 1))) here) (step (Ok (Row (q + 1))) here) ≡ branching p a q here
      branch_by =
          sym (at_value ∙ cond-true (alone Boolean (known x)) _ _ (sym lone) ∙ ap (λ (c : Bool). cond c (step (Ok (Row (p.row + 1))) here) (step (Ok (Row (q + 1))) here)) is_truth)

  module _ (head : Typing) where
    at_head : returning p head a here ≡ returns p.width p.row p.line here head (Some v)
    at_head = ap (returns p.width p.row p.line here head) (is_there p t a slips x h)

    abbrev typed : Bool
    typed = of head.kind (known x) && same_shape head.shape x.shape

    pub return_stuck : (f : Fault) → f ≡ fault_at p NoRule 0 → false ≡ typed → step (Err f) here ≡ returning p head a here
    return_stuck f e bad = ap (λ (g : Fault). step (Err g) here) e ∙ sym (at_head ∙ cond-false typed _ _ (sym bad))

    pub return_sizes : (f : Fault) → f ≡ fault_at p SizesDiffer 0 → true ≡ typed → false ≡ matches head (known x) → step (Err f) here ≡ returning p head a here
    return_sizes f e good bad = ap (λ (g : Fault). step (Err g) here) e ∙ sym (at_head ∙ cond-true typed _ _ (sym good) ∙ cond-false (matches head (known x)) _ _ (sym bad))

    pub return_value : true ≡ typed → true ≡ matches head (known x) → step (Ok Return) here ≡ returning p head a here
    return_value good fits = sym (at_head ∙ cond-true typed _ _ (sym good) ∙ cond-true (matches head (known x)) _ _ (sym fits))
