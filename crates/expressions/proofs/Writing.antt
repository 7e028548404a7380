-- What a write into one table leaves of a row, and what an element's fault leaves.
use Rattle.std.proofs.Common.{◌≡◌, ℕ, ◌+◌, ◌*◌, ◌<◌, ◌≤◌, List, [], length, IsErrAnd, None, Ok, Err, Result, sym, refl, ap, ◌∙◌, subst, arith}
use Rattle.std.specs.Result.{result_map_both}
use Rattle.types.specs.declared.kinds.Kind.{Kind}
use Rattle.types.specs.declared.kinds.Kind.TheVariants.{Boolean, Character, Integer}
use Rattle.arithmetic.specs.declared.faults.ElementFault.{ElementFault}
use Rattle.arithmetic.specs.declared.faults.Located.{Located}
use Rattle.arithmetic.specs.Faults.{at_row}
use Rattle.fault.specs.declared.faults.Fault.{Fault}
use Rattle.fault.specs.Faults.{fault_of}
use Rattle.element.specs.Cells.{put}
use Rattle.elementwise.specs.Results.{Wrote}
use Rattle.meaning.specs.declared.layouts.Layout.{Layout}
use Rattle.meaning.specs.declared.places.Place.{Place}
use Rattle.meaning.specs.Values.{Cell}
use Rattle.meaning.specs.Plans.{Plan, outcome}
use Rattle.meaning.specs.States.{Tables, table_of, with_table, Elsewhere, FreeAt}
use Rattle.meaning.specs.Works.{guarded, Made, changed}
use Rattle.tables.specs.declared.lent.Tables.{Tables as Lent}
use Rattle.tables.specs.Lent.{held, Holds, Reach}
use Rattle.tables.proofs.Reaching.{reach}
use Rattle.meaning.proofs.Rows.{under_all}
use Rattle.meaning.proofs.Shells.{exits, left_value, left_element, free_elsewhere}

-- only the table of kind k changes, and there only the row's own cells
pub free_with : (W i : ℕ) (k : Kind) (t : Tables) (T : List (Cell k)) → Elsewhere W i (table_of k t) T → FreeAt W i t (with_table k t T)
free_with W i Boolean t T h Boolean = h
free_with W i Boolean t T h Character = record { long = refl; before = refl; after = refl }
free_with W i Boolean t T h Integer = record { long = refl; before = refl; after = refl }
free_with W i Character t T h Boolean = record { long = refl; before = refl; after = refl }
free_with W i Character t T h Character = h
free_with W i Character t T h Integer = record { long = refl; before = refl; after = refl }
free_with W i Integer t T h Boolean = record { long = refl; before = refl; after = refl }
free_with W i Integer t T h Character = record { long = refl; before = refl; after = refl }
free_with W i Integer t T h Integer = h

-- ---- a row that writes its elements
module _ (p : Place) (t : Tables) (q : Plan) (x : Layout) (h : Ok x ≡ guarded p q) (none : q.outside ≡ None) where
  abbrev kind : Kind
  kind = q.layout.kind

  pub value_made : (xs : List (Cell kind)) (to : ℕ) (T : List (Cell kind)) → q.elements ≡ Ok xs → to ≡ p.row * p.width → T ≡ put (table_of kind t) to xs → Made p (outcome p.width q) t (Ok x) (with_table kind t T)
  value_made xs to T all e w =
      left_value p p.row (FreeAt p.width p.row) t (with_table kind t T) q x (sym h) xs none all
      (ap (with_table kind t) (w ∙ ap (λ (n : ℕ). put (table_of kind t) n xs) e))

  -- elements that may fault, up to the first that does
  module _ (o : Result (List (Cell kind)) ElementFault) (all : q.elements ≡ o) (to n : ℕ) (e : to ≡ p.row * p.width) (T : List (Cell kind)) (s : Result (Unit {0}) ElementFault) (w : Wrote o (table_of kind t) to n s T) where
    written : (o : Result (List (Cell kind)) ElementFault) → q.elements ≡ o → Wrote o (table_of kind t) to n s T → Ok tt ≡ result_map_both (λ (z : Unit {0}). z) (at_row p.row p.line) s → Made p (outcome p.width q) t (Ok x) (with_table kind t T)
    written (Ok xs) all w m = value_made xs to T all e w.1
    written (Err f) all w m = let b = w.0 in let g = m ∙ ap (result_map_both (λ (z : Unit {0}). z) (at_row p.row p.line)) b in absurd (let z : ◌≡◌ {A = ℕ} 0 1 = cc in omega arith)

    pub wrote_value : Ok tt ≡ result_map_both (λ (z : Unit {0}). z) (at_row p.row p.line) s → Made p (outcome p.width q) t (Ok x) (with_table kind t T)
    wrote_value m = written o all w m

    module _ (few : n ≤ p.width) (long : length T ≡ length (table_of kind t)) (r : Result Layout Fault) (l : Located) where
      stopped : (o : Result (List (Cell kind)) ElementFault) → q.elements ≡ o → Wrote o (table_of kind t) to n s T → Err l ≡ result_map_both (λ (z : Unit {0}). z) (at_row p.row p.line) s → Made p (outcome p.width q) t (Err (fault_of l)) (with_table kind t T)
      stopped (Ok xs) all w m = let b = w.0 in let g = m ∙ ap (result_map_both (λ (z : Unit {0}). z) (at_row p.row p.line)) b in absurd (let z : ◌≡◌ {A = ℕ} 0 1 = cc in omega arith)
      stopped (Err f) all w m =
          let b = w.0 in
          let g = m ∙ ap (result_map_both (λ (z : Unit {0}). z) (at_row p.row p.line)) b in
          let same : l ≡ at_row p.row p.line f = cc in
          subst (λ (k : Located). Made p (outcome p.width q) t (Err (fault_of k)) (with_table kind t T)) (sym same)
          (left_element p p.row (FreeAt p.width p.row) t (with_table kind t T) q x (sym h) f none all
          (free_with p.width p.row kind t T (free_elsewhere p.width p.row to n (table_of kind t) T e few long w.1 w.2)))

      pub wrote_fault : IsErrAnd r (λ (y : Fault). y ≡ fault_of l) → Err l ≡ result_map_both (λ (z : Unit {0}). z) (at_row p.row p.line) s → Made p (outcome p.width q) t r (with_table kind t T)
      wrote_fault exit m = exits p [] t (with_table kind t T) r (λ (y : Result Layout Fault). Made p (outcome p.width q) t y (with_table kind t T)) (fault_of l) exit (stopped o all w m)

-- ---- a row that writes into the table of a kind
module _ (p : Place) (t u : Tables) (q : Plan) (x : Layout) (h : Ok x ≡ guarded p q) (none : q.outside ≡ None) where
  pub changed_made : (k : Kind) (to : ℕ) (f : (k : Kind) → List (Cell k) → List (Cell k)) → k ≡ q.layout.kind → q.elements ≡ Ok (f q.layout.kind (table_of q.layout.kind t)) → to ≡ p.row * p.width → u ≡ changed k t to f → Made p (outcome p.width q) t (Ok x) u
  changed_made k to f same all e w =
      left_value p p.row (FreeAt p.width p.row) t u q x (sym h) (f q.layout.kind (table_of q.layout.kind t)) none all
      (w ∙ (λ i. changed (same i) t (e i) f))

-- ---- the cells of an operand, and of the row
pub record Room (t : Lent) (at to n : ℕ) : Type 0 where
  pub below : at + n ≤ to
  pub source : Reach (at + n) (held t)
  pub within : Reach (to + n) (held t)

pub room : (p : Place) (t : Lent) (a at to n : ℕ) → Holds p t → a < p.row → at ≡ a * p.width → to ≡ p.row * p.width → n ≤ p.width → Room t at to n
room p t a at to n m lt ea et few =
    let u = under_all p.width a p.row lt in
    record { below = omega arith; source = reach t m (omega arith); within = reach t m (omega arith) }
