-- An each row and the element that it takes.
use Rattle.std.proofs.Common.{◌≡◌, ℕ, ◌+◌, ◌*◌, ◌<◌, ◌≤◌, Bool, true, false, cond, eqb, ltb, List, [], ◌∷◌, length, get_or, take, set, ℤ, pos, ◌+ℤ◌, Some, Ok, Err, Option, sym, refl, ap, ◌∙◌, subst, one-mul, arith, drop-cons}
use Rattle.std.proofs.lemmas.Bool.{and_parts, eqb-true, cond-true, cond-false, lt-ltb, le-ltb}
use Rattle.types.specs.declared.kinds.Kind.{Kind}
use Rattle.types.specs.declared.kinds.Kind.TheVariants.{Boolean, Character, Integer}
use Rattle.types.specs.declared.kinds.Shape.{Shape}
use Rattle.types.specs.declared.kinds.Shape.TheVariants.{Scalar, Vector, Matrix, Interval}
use Rattle.types.specs.Typings.{is}
use Rattle.fault.specs.declared.causes.Cause.TheVariants.{Disordered, NoRule}
use Rattle.fault.specs.declared.faults.Fault.{Fault}
use Rattle.element.specs.Cells.{cells, put}
use Rattle.element.proofs.Writes.{get_or_cells}
use Rattle.picks.specs.declared.indices.Index.{Index}
use Rattle.picks.specs.declared.indices.Index.TheVariants as list
use Rattle.picks.specs.Indices.{index_count}
use Rattle.meaning.specs.declared.after.After.TheVariants.{Row}
use Rattle.meaning.specs.declared.layouts.Layout.{Layout}
use Rattle.meaning.specs.declared.places.Place.{Place}
use Rattle.meaning.specs.declared.slips.Slip.{Slip}
use Rattle.meaning.specs.Values.{Value, known, lawful, fixed, layout_of, scalar_of}
use Rattle.meaning.specs.Expressions.{in_order, count}
use Rattle.meaning.specs.States.{State, Tables, table_of, with_table, layout_at, value_from, holding, placed_in, blank_slip, slip_of}
use Rattle.meaning.specs.Acts.{Step, step, nth, element_at, Turned, takes, over, turned, advances}
use Rattle.meaning.specs.Works.{fault_at, found}
use Rattle.meaning.proofs.Shells.{never}
use Rattle.meaning.proofs.Rows.{lawful_fixed, lawful_small, vector_one}
use Rattle.expressions.specs.Lists.{list_at, orderly}
use Rattle.expressions.proofs.Listing.{first_cell, list_count, list_order}
use Rattle.statements.specs.Domains.{ranged, ElementBelow, with_element}
use Rattle.statements.specs.Frames.{advancing}
use Rattle.statements.proofs.Operands.{is_there}

-- ---- the layout of a domain
-- it has one row, and so the width is no less
pub ranged_one : (W : ℕ) (x : Layout) → lawful W x ≡ true → ranged x ≡ true → x.r ≡ 1
ranged_one W x law good = go x.kind x.shape x.r x.s (lawful_fixed W x law) good
  where
    go : (k : Kind) (h : Shape) (r s : ℕ) → fixed (layout_of k h r s) ≡ true → ranged (layout_of k h r s) ≡ true → r ≡ 1
    go k Scalar r s f g = never g
    go k Vector r s f g = eqb-true r 1 f
    go k Matrix r s f g = never g
    go Boolean Interval r s f g = never f
    go Character Interval r s f g = never f
    go Integer Interval r s f g = eqb-true r 1 (and_parts (eqb r 1) (eqb s 2) f).0

pub ranged_wide : (W : ℕ) (x : Layout) → lawful W x ≡ true → ranged x ≡ true → 1 ≤ W
ranged_wide W x law good = omega (arith, ranged_one W x law good, (lawful_small W x law).rows)

-- ---- the element
-- a run of one cell
one_cell : {X : Type 0} (T : List X) (at m n : ℕ) (d : X) → n < m → at + n < length T → cells T (at + n) 1 ≡ get_or (cells T at m) n d ∷ []
one_cell T at m n d lt h = ap (take 1) (drop-cons T (at + n) d h) ∙ ap (λ y. y ∷ []) (sym (get_or_cells T at m n d lt))

module _ (W : ℕ) (t : Tables) (a n to : ℕ) where
  -- the cell that is written holds element n of the value
  pub element_placed : (x : Layout) → lawful W x ≡ true → ranged x ≡ true → n < index_count (list_at W t.integers a x) → ((k : Kind) → a * W + W ≤ length (table_of k t))
      → with_element x.kind (list_at W t.integers a x) n to t ≡ with_table x.kind t (put (table_of x.kind t) to (nth x.kind (value_from W t a x) n ∷ []))
  element_placed x law good lt long = go x.kind x.shape x.r x.s law good lt
    where
      few : (k : Kind) (r s : ℕ) → lawful W (layout_of k Vector r s) ≡ true → n < s → (n < r * s) × (n < W)
      few k r s law lt =
          let small = lawful_small W (layout_of k Vector r s) law in
          let one = vector_one (layout_of k Vector r s) (lawful_fixed W (layout_of k Vector r s) law) refl in
          let all : r * s ≡ s = ap (λ (m : ℕ). m * s) one ∙ one-mul s in
          (omega (arith, all), omega (arith, small.columns))

      go : (k : Kind) (h : Shape) (r s : ℕ) → lawful W (layout_of k h r s) ≡ true → ranged (layout_of k h r s) ≡ true → n < index_count (list_at W t.integers a (layout_of k h r s))
          → with_element k (list_at W t.integers a (layout_of k h r s)) n to t ≡ with_table k t (put (table_of k t) to (nth k (value_from W t a (layout_of k h r s)) n ∷ []))
      go k Scalar r s law good lt = never good
      go Boolean Vector r s law good lt =
          let f = few Boolean r s law lt in
          ap (λ (xs : List Bool). with_table Boolean t (put t.booleans to xs)) (one_cell t.booleans (a * W) (r * s) n false f.0 (omega (arith, f.1, long Boolean)))
      go Character Vector r s law good lt =
          let f = few Character r s law lt in
          ap (λ (xs : List ℤ). with_table Character t (put t.characters to xs)) (one_cell t.characters (a * W) (r * s) n (pos 0) f.0 (omega (arith, f.1, long Character)))
      go Integer Vector r s law good lt =
          let f = few Integer r s law lt in
          ap (λ (xs : List ℤ). with_table Integer t (put t.integers to xs)) (one_cell t.integers (a * W) (r * s) n (pos 0) f.0 (omega (arith, f.1, long Integer)))
      go k Matrix r s law good lt = never good
      go Boolean Interval r s law good lt = never (lawful_fixed W (layout_of Boolean Interval r s) law)
      go Character Interval r s law good lt = never (lawful_fixed W (layout_of Character Interval r s) law)
      go Integer Interval r s law good lt =
          let f = and_parts (eqb r 1) (eqb s 2) (lawful_fixed W (layout_of Integer Interval r s) law) in
          let two : r * s ≡ 2 = λ i. eqb-true r 1 f.0 i * eqb-true s 2 f.1 i in
          ap (λ (z : ℤ). with_table Integer t (put t.integers to ((z +ℤ pos n) ∷ []))) (sym (first_cell W t a (layout_of Integer Interval r s) refl (omega (arith, two))))

-- ---- what the code asks of element n
module _ (W : ℕ) (ints : List ℤ) (a n : ℕ) (x : Layout) (law : lawful W x ≡ true) (l : Index) (is-list : l ≡ list_at W ints a x) where
  below_by : (b : Bool) (low high : ℤ) (at s to : ℕ) → n < index_count (cond b (list.Interval low high) (list.Cells at s)) → at + s ≤ to → ElementBelow (cond b (list.Interval low high) (list.Cells at s)) n to
  below_by true low high at s to lt h = lt
  below_by false low high at s to lt h = omega arith

  pub element_below : (to : ℕ) → n < index_count l → a * W + W ≤ to → ElementBelow l n to
  element_below to lt h =
      let small = lawful_small W x law in
      subst (λ (j : Index). ElementBelow j n to) (sym is-list)
      (below_by (is Interval (known x)) (get_or ints (a * W) (pos 0)) (get_or ints (a * W + 1) (pos 0)) (a * W) x.s to (subst (λ (j : Index). n < index_count j) is-list lt) (omega (arith, small.columns)))

-- ---- the row
module _ (p : Place) (s : State) (slips : List Slip) (t : Tables) (i a e n : ℕ) (x : Layout) (h : Ok x ≡ found p (layout_at p.width slips a)) where
  abbrev here : State
  here = holding s slips t

  abbrev v : Value
  v = value_from p.width t a x

  abbrev does : Turned → Step
  does u = advances p.width p.row p.line here i e n u

  at_domain : advancing p i a e n here ≡ does (turned (Some v) n)
  at_domain = ap (λ (o : Option Value). does (turned o n)) (is_there p t a slips x h)

  pub each_stuck : (f : Fault) → f ≡ fault_at p NoRule 0 → false ≡ ranged x → step (Err f) here ≡ advancing p i a e n here
  each_stuck f told bad = ap (λ (g : Fault). step (Err g) here) told ∙ sym (at_domain ∙ ap does (cond-false (ranged x) _ _ (sym bad)))

  module _ (law : lawful p.width x ≡ true) (good : true ≡ ranged x) (l : Index) (is-list : l ≡ list_at p.width t.integers a x) where
    orders : in_order v ≡ orderly l
    orders = list_order p.width t a x law ∙ ap orderly (sym is-list)

    counts : count v ≡ index_count l
    counts = list_count p.width t a x law ∙ ap index_count (sym is-list)

    pub each_disordered : (f : Fault) → f ≡ fault_at p Disordered 0 → false ≡ orderly l → step (Err f) here ≡ advancing p i a e n here
    each_disordered f told bad =
        ap (λ (g : Fault). step (Err g) here) told ∙ sym (at_domain ∙ ap does (cond-true (ranged x) _ _ (sym good) ∙ cond-false (in_order v) _ _ (orders ∙ sym bad)))

    module _ (fine : true ≡ orderly l) where
      at_order : advancing p i a e n here ≡ does (cond (ltb n (count v)) (takes (element_at v n)) over)
      at_order = at_domain ∙ ap does (cond-true (ranged x) _ _ (sym good) ∙ cond-true (in_order v) _ _ (orders ∙ sym fine))

      pub each_over : index_count l ≤ n → (after : List Slip) → after ≡ set slips i blank_slip → step (Ok (Row (e + 1))) (holding s after t) ≡ advancing p i a e n here
      each_over past after es =
          ap (λ (ss : List Slip). step (Ok (Row (e + 1))) (holding s ss t)) es
          ∙ sym (at_order ∙ ap does (cond-false (ltb n (count v)) _ _ (le-ltb n (count v) (omega (arith, counts)))))

      pub each_takes : n < index_count l → ((k : Kind) → a * p.width + p.width ≤ length (table_of k t)) → (to : ℕ) → to ≡ i * p.width → (after : List Slip) → after ≡ set slips i (slip_of (scalar_of x.kind) n)
          → (u : Tables) → u ≡ with_element x.kind l n to t → step (Ok (Row (i + 1))) (holding s after u) ≡ advancing p i a e n here
      each_takes lt long to start after es u et =
          let placed : u ≡ placed_in p.width t i (element_at v n) =
          et ∙ (λ j. with_element x.kind (is-list j) n (start j) t) ∙ element_placed p.width t a n (i * p.width) x law (sym good) (subst (λ (j : Index). n < index_count j) is-list lt) long in
          (λ j. step (Ok (Row (i + 1))) (holding s (es j) (placed j))) ∙ sym (at_order ∙ ap does (cond-true (ltb n (count v)) _ _ (lt-ltb n (count v) (omega (arith, counts)))))
