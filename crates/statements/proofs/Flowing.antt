-- Rows that print, and rows that read.
use Rattle.std.proofs.Common.{◌≡◌, ℕ, ◌+◌, ◌*◌, true, false, not, List, [], ◌∷◌, Some, Ok, Err, sym, ap, ◌∙◌}
use Rattle.std.proofs.lemmas.Bool.{cond-true, cond-false}
use Rattle.types.specs.declared.kinds.Shape.TheVariants.{Scalar, Interval}
use Rattle.types.specs.Typings.{is, flat}
use Rattle.source.specs.declared.state.StreamState.{StreamState}
use Rattle.source.specs.Taking.{counted, gone}
use Rattle.fault.specs.declared.causes.Cause.TheVariants.{NoRule}
use Rattle.fault.specs.declared.faults.Fault.{Fault}
use Rattle.element.specs.Cells.{put}
use Rattle.meaning.specs.declared.after.After.TheVariants.{Row}
use Rattle.meaning.specs.declared.layouts.Layout.{Layout}
use Rattle.meaning.specs.declared.places.Place.{Place}
use Rattle.meaning.specs.declared.slips.Slip.{Slip}
use Rattle.meaning.specs.Values.{Value, known}
use Rattle.meaning.specs.Reading as words
use Rattle.meaning.specs.States.{State, Tables, table_of, with_table, layout_at, value_from}
use Rattle.meaning.specs.Acts.{step, prints, reads}
use Rattle.meaning.specs.Works.{fault_at, found}
use Rattle.statements.specs.Frames.{showing, feeding, outputting, inputting}
use Rattle.statements.proofs.Operands.{is_there}

module _ (p : Place) (s : State) (slips : List Slip) (t : Tables) (a : ℕ) (x : Layout) (h : Ok x ≡ found p (layout_at p.width slips a)) where
  abbrev v : Value
  v = value_from p.width t a x

  -- ---- print
  module _ (output : List ℕ) (printed : ℕ) where
    abbrev shown : State
    shown = showing s slips t output printed

    at_value : outputting p a shown ≡ prints p.width p.row p.line shown (Some v)
    at_value = ap (prints p.width p.row p.line shown) (is_there p t a slips x h)

    pub print_stuck : (f : Fault) → f ≡ fault_at p NoRule 0 → true ≡ is Interval (known x) → step (Err f) shown ≡ outputting p a shown
    print_stuck f e bad = ap (λ (g : Fault). step (Err g) shown) e ∙ sym (at_value ∙ cond-false (flat (known x)) _ _ (ap not (sym bad)))

  -- ---- read
  module _ (taken : ℕ) (stream : StreamState) (waiting : List ℕ) where
    abbrev fed : State
    fed = feeding s taken stream slips t waiting

    at_variable : inputting p a fed ≡ reads p.width p.row p.line fed a (Some v)
    at_variable = ap (reads p.width p.row p.line fed a) (is_there p t a slips x h)

    pub read_stuck : (f : Fault) → f ≡ fault_at p NoRule 0 → false ≡ is Scalar (known x) → step (Err f) fed ≡ inputting p a fed
    read_stuck f e bad = ap (λ (g : Fault). step (Err g) fed) e ∙ sym (at_variable ∙ cond-false (is Scalar (known x)) _ _ (sym bad))

    pub read_value : true ≡ is Scalar (known x) → (to : ℕ) → to ≡ a * p.width → (lost : ℕ) (last : StreamState) (u : Tables) (left : List ℕ)
        → u ≡ with_table x.kind t (put (table_of x.kind t) to ((words.reading x.kind waiting).value ∷ [])) → last ≡ (words.reading x.kind waiting).state → left ≡ words.unread x.kind waiting
        → lost ≡ counted taken (gone waiting left) → step (Ok (Row (p.row + 1))) (feeding s lost last slips u left) ≡ inputting p a fed
    read_value good to start lost last u left eu es ew et =
        let cells : u ≡ with_table x.kind t (put (table_of x.kind t) (a * p.width) ((words.reading x.kind waiting).value ∷ [])) =
        eu ∙ ap (λ (n : ℕ). with_table x.kind t (put (table_of x.kind t) n ((words.reading x.kind waiting).value ∷ []))) start in
        let count : lost ≡ counted taken (gone waiting (words.unread x.kind waiting)) = et ∙ ap (λ (r : List ℕ). counted taken (gone waiting r)) ew in
        (λ i. step (Ok (Row (p.row + 1))) (feeding s (count i) (es i) slips (cells i) (ew i))) ∙ sym (at_variable ∙ cond-true (is Scalar (known x)) _ _ (sym good))
