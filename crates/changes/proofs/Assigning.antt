-- What a variable is given: where its cells and those of the value lie, and that the code writes what the rule names.
use Rattle.std.proofs.Common.{◌≡◌, ℕ, ◌+◌, ◌*◌, ◌≤◌, Bool, true, false, cond, not, ◌&&◌, ◌||◌, eqb, List, get_or, replicate, ℤ, pos, IsErrAnd, Some, None, Ok, Err, Result, sym, refl, ap, ◌∙◌, arith}
use Rattle.std.proofs.lemmas.Bool.{and_parts, eqb-true}
use Rattle.fault.specs.declared.faults.Fault.{Fault}
use Rattle.types.specs.declared.kinds.Kind.{Kind}
use Rattle.types.specs.declared.kinds.Kind.TheVariants.{Integer}
use Rattle.types.specs.declared.kinds.Shape.TheVariants.{Scalar, Matrix, Interval}
use Rattle.types.specs.Typings.{is, of, matches}
use Rattle.rules.specs.Rules.{takes}
use Rattle.element.specs.Cells.{cells, put}
use Rattle.picks.specs.declared.indices.Index.TheVariants as indices
use Rattle.picks.specs.Indices.{spanned, between, index_count, indices_of}
use Rattle.meaning.specs.declared.layouts.Layout.{Layout}
use Rattle.meaning.specs.declared.places.Place.{Place}
use Rattle.meaning.specs.Values.{Cell, null_of, area, known, lawful, elements_of}
use Rattle.meaning.specs.Plans.{Plan, outcome}
use Rattle.meaning.specs.Expressions.{listing}
use Rattle.meaning.specs.Changes.{assigned}
use Rattle.meaning.specs.States.{Tables, tables, table_of, value_from}
use Rattle.meaning.specs.Works.{guards, guarded, Filled, changed}
use Rattle.meaning.proofs.Shells.{tests}
use Rattle.meaning.proofs.Rows.{as_cells, lawful_fixed, lawful_small}
use Rattle.tables.proofs.Changing.{changed_integer}
use Rattle.expressions.specs.Lists.{list_at}
use Rattle.expressions.proofs.Listing.{list_count, list_order, list_elements}
use Rattle.changes.specs.Assigns.{alike, assign_guard, Given, giving}
use Rattle.changes.proofs.Filling.{refused, written}
use Rattle.changes.proofs.Reading.{scalar_cell}
use Rattle.changes.proofs.Taking.{taken_kind, taken_list, taken_interval, taken_integers, retold}

-- the list of an interval, by its bounds
interval_count : (b : Bool) (low high : ℤ) (at n : ℕ) → b ≡ true → index_count (cond b (indices.Interval low high) (indices.Cells at n)) ≡ spanned low high
interval_count b low high at n e = ap (λ (c : Bool). index_count (cond c (indices.Interval low high) (indices.Cells at n))) e

interval_indices : (b : Bool) (low high : ℤ) (at n : ℕ) (T : List ℤ) → b ≡ true → indices_of (cond b (indices.Interval low high) (indices.Cells at n)) T ≡ between low high
interval_indices b low high at n T e = ap (λ (c : Bool). indices_of (cond c (indices.Interval low high) (indices.Cells at n)) T) e

pub interval_span : (W : ℕ) (ints : List ℤ) (a from : ℕ) (y : Layout) → from ≡ a * W → is Interval (known y) ≡ true → index_count (list_at W ints a y) ≡ spanned (get_or ints from (pos 0)) (get_or ints (from + 1) (pos 0))
interval_span W ints a from y e h =
    interval_count (is Interval (known y)) (get_or ints (a * W) (pos 0)) (get_or ints (a * W + 1) (pos 0)) (a * W) y.s h
    ∙ (λ i. spanned (get_or ints (sym e i) (pos 0)) (get_or ints (sym e i + 1) (pos 0)))

pub interval_listing : (W : ℕ) (t : Tables) (a from : ℕ) (y : Layout) → lawful W y ≡ true → from ≡ a * W → of Integer (known y) ≡ true → not (is Matrix (known y)) ≡ true → is Interval (known y) ≡ true
    → listing Integer (value_from W t a y) ≡ between (get_or t.integers from (pos 0)) (get_or t.integers (from + 1) (pos 0))
interval_listing W t a from y law e kind flat h =
    list_elements W t a y law kind flat
    ∙ interval_indices (is Interval (known y)) (get_or t.integers (a * W) (pos 0)) (get_or t.integers (a * W + 1) (pos 0)) (a * W) y.s t.integers h
    ∙ (λ i. between (get_or t.integers (sym e i) (pos 0)) (get_or t.integers (sym e i + 1) (pos 0)))

-- ---- the tests
module _ (p : Place) (t : Tables) (v a : ℕ) (x y : Layout) (ly : lawful p.width y ≡ true) where
  abbrev plan : Plan
  plan = assigned (value_from p.width t v x) (value_from p.width t a y)

  assign_guarded : assign_guard p t.integers a x y ≡ guarded p plan
  assign_guarded =
      let o = sym (list_order p.width t a y ly) in
      let n = sym (list_count p.width t a y ly) in
      λ i. guards p (takes (known x) (known y)) (alike x y || o i) (cond (alike x y) None (Some (n i))) x (cond (alike x y) (matches (known x) (known y)) (is Scalar (known y) || eqb (n i) x.s))

  pub assign_refused : (r : Result Layout Fault) (e : Fault) → IsErrAnd r (λ (f : Fault). f ≡ e) → Err e ≡ assign_guard p t.integers a x y → Filled p v (outcome p.width plan) t r t
  assign_refused r e exit h = refused p v t r e exit plan (h ∙ assign_guarded)

  module _ (form : Layout) (h : Ok form ≡ assign_guard p t.integers a x y) (lx : lawful p.width x ≡ true) where
    pub assign_given : Given p.width t.integers a x y
    assign_given =
        let n = sym (list_count p.width t a y ly) in
        record {
          variable = lx;
          value = ly;
          taken = (tests p 0 (λ t u. Unit {0}) t t plan form (sym (h ∙ assign_guarded))).2;
          agree = ap (λ (m : ℕ). cond (alike x y) (matches (known x) (known y)) (is Scalar (known y) || eqb m x.s)) n ∙ (tests p 0 (λ t u. Unit {0}) t t plan form (sym (h ∙ assign_guarded))).5;
        }

    pub assign_filled : (u : Tables) → u ≡ changed x.kind t (v * p.width) (λ k T. giving k x (value_from p.width t a y)) → Filled p v (outcome p.width plan) t (Ok form) u
    assign_filled u w =
        written p v t u plan form (h ∙ assign_guarded) (v * p.width) refl (λ k T. giving k x (value_from p.width t a y)) refl refl
        (w ∙ ap (λ (f : Layout). changed f.kind t (v * p.width) (λ k T. giving k x (value_from p.width t a y))) (tests p 0 (λ t u. Unit {0}) t t plan form (sym (h ∙ assign_guarded))).1)

-- ---- what is written
module _ (W : ℕ) (t : Tables) (v a : ℕ) (x y : Layout) (g : Given W t.integers a x y) (from to n : ℕ) (ef : from ≡ a * W) (et : to ≡ v * W) (en : n ≡ area x) where
  abbrev all : (k : Kind) → List (Cell k) → List (Cell k)
  all k T = giving k x (value_from W t a y)

  kind_is : of x.kind (known y) ≡ true
  kind_is = taken_kind (known x) y g.taken

  same_area : alike x y ≡ true → area y ≡ area x
  same_area e =
      let m = ap (λ (b : Bool). cond b (matches (known x) (known y)) (is Scalar (known y) || eqb (index_count (list_at W t.integers a y)) x.s)) (sym e) ∙ g.agree in
      let q = and_parts (eqb x.r y.r) (eqb x.s y.s) m in
      let r = sym (eqb-true x.r y.r q.0) in
      let s = sym (eqb-true x.s y.s q.1) in
      λ i. r i * s i

  pub given_copy : (u : Tables) → alike x y ≡ true → u ≡ changed x.kind t to (λ k T. cells T from n) → u ≡ changed x.kind t (v * W) all
  given_copy u e w =
      let k = x.kind in
      let T = table_of x.kind t in
      let o = elements_of k (value_from W t a y) in
      let c : giving k x (value_from W t a y) ≡ o = ap (λ (b : Bool). cond (not b && is Scalar (known y)) (replicate (area x) (get_or o 0 (null_of k))) (cond b o (listing k (value_from W t a y)))) e in
      let d : o ≡ cells T (a * W) (area y) = as_cells k y.kind t (a * W) (area y) kind_is in
      let m : n ≡ area y = en ∙ sym (same_area e) in
      let b : cells T from n ≡ cells T (a * W) (area y) = λ i. cells T (ef i) (m i) in
      w ∙ retold k t to (v * W) (λ k T. cells T from n) all et (b ∙ sym (c ∙ d))

  pub given_spread : (u : Tables) → alike x y ≡ false → is Scalar (known y) ≡ true → u ≡ changed x.kind t to (λ k T. replicate n (get_or T from (null_of k))) → u ≡ changed x.kind t (v * W) all
  given_spread u e s w =
      let k = x.kind in
      let T = table_of x.kind t in
      let o = elements_of k (value_from W t a y) in
      let c : giving k x (value_from W t a y) ≡ replicate (area x) (get_or o 0 (null_of k)) = λ i. cond (not (e i) && s i) (replicate (area x) (get_or o 0 (null_of k))) (cond (e i) o (listing k (value_from W t a y))) in
      let d : get_or o 0 (null_of k) ≡ get_or T (a * W) (null_of k) = scalar_cell W t k a y g.value kind_is s in
      let b : replicate n (get_or T from (null_of k)) ≡ replicate (area x) (get_or o 0 (null_of k)) = λ i. replicate (en i) ((ap (λ (m : ℕ). get_or T m (null_of k)) ef ∙ sym d) i) in
      w ∙ retold k t to (v * W) (λ k T. replicate n (get_or T from (null_of k))) all et (b ∙ sym c)

  module _ (e : alike x y ≡ false) (s : is Scalar (known y) ≡ false) where
    abbrev ival : is Interval (known y) ≡ true
    ival = (taken_interval (known x) y g.taken e s).0

    kind : x.kind ≡ Integer
    kind = taken_integers (known x) y g.taken e s (lawful_fixed W y g.value)

    pub given_unfold : (ints : List ℤ) → ints ≡ put t.integers to (between (get_or t.integers from (pos 0)) (get_or t.integers (from + 1) (pos 0))) → tables t.booleans t.characters ints ≡ changed x.kind t (v * W) all
    given_unfold ints w =
        let o = elements_of Integer (value_from W t a y) in
        let c : giving Integer x (value_from W t a y) ≡ listing Integer (value_from W t a y) = λ i. cond (not (e i) && s i) (replicate (area x) (get_or o 0 (null_of Integer))) (cond (e i) o (listing Integer (value_from W t a y))) in
        let integer : of Integer (known y) ≡ true = ap (λ (k : Kind). of k (known y)) (sym kind) ∙ kind_is in
        let l = interval_listing W t a from y g.value ef integer (taken_list (known x) y g.taken e) ival in
        let b = sym (c ∙ l) in
        changed_integer x.kind t (v * W) all kind (w ∙ (λ i. put t.integers (et i) (b i)))

    pub unfold_count : spanned (get_or t.integers from (pos 0)) (get_or t.integers (from + 1) (pos 0)) ≤ W
    unfold_count =
        let m : eqb (index_count (list_at W t.integers a y)) x.s ≡ true = (λ i. cond (sym e i) (matches (known x) (known y)) (sym s i || eqb (index_count (list_at W t.integers a y)) x.s)) ∙ g.agree in
        let q = eqb-true (index_count (list_at W t.integers a y)) x.s m in
        let l = interval_span W t.integers a from y ef ival in
        let z = (lawful_small W x g.variable).columns in
        omega (arith, q, l, z)
