-- A store whose tests passed: where its cells lie, and that it writes what the rule names.
use Rattle.expressions.specs.Answers.{answered}
use Rattle.std.proofs.Common.{◌≡◌, ℕ, ◌+◌, ◌*◌, ◌<◌, ◌≤◌, Bool, true, false, cond, not, ◌&&◌, ◌||◌, eqb, leb, List, get_or, ℤ, pos, IsErrAnd, Some, Ok, Err, Result, sym, refl, ap, ◌∙◌, subst, one-mul, arith}
use Rattle.std.proofs.lemmas.Bool.{and_parts, eqb-true, leb-true}
use Rattle.types.specs.declared.kinds.Kind.{Kind}
use Rattle.types.specs.declared.kinds.Kind.TheVariants.{Integer}
use Rattle.types.specs.declared.kinds.Shape.TheVariants.{Scalar, Vector, Matrix, Interval}
use Rattle.types.specs.Typings.{is, of, index}
use Rattle.element.specs.Cells.{cells}
use Rattle.picks.specs.declared.indices.Index.{Index}
use Rattle.picks.specs.declared.indices.Index.TheVariants as indices
use Rattle.picks.specs.declared.indices.Outside.{Outside}
use Rattle.element.specs.declared.operands.Operand.{Operand}
use Rattle.picks.specs.Indices.{index_count, indices_of, IndexAbove, IndexBelow, first_outside}
use Rattle.element.specs.Operands.{start_of, along as along_table}
use Rattle.picks.specs.Stores.{stored}
use Rattle.fault.specs.declared.faults.Fault.{Fault}
use Rattle.meaning.specs.declared.layouts.Layout.{Layout}
use Rattle.meaning.specs.declared.places.Place.{Place}
use Rattle.meaning.specs.Values.{Cell, null_of, area, known, lawful}
use Rattle.meaning.specs.Elements.{along}
use Rattle.meaning.specs.Plans.{Plan, outcome}
use Rattle.meaning.specs.Expressions.{count}
use Rattle.meaning.specs.Changes.{stored_at}
use Rattle.meaning.specs.States.{Tables, table_of, value_from}
use Rattle.meaning.specs.Works.{guards, guarded, Filled, changed, Chosen}
use Rattle.meaning.proofs.Shells.{never, tests}
use Rattle.meaning.proofs.Rows.{lawful_fixed, lawful_small, vector_one, under_all}
use Rattle.expressions.specs.Lists.{list_at}
use Rattle.expressions.proofs.Listing.{list_count, list_order, list_elements, list_below}
use Rattle.changes.specs.Stores.{stores, store_guard}
use Rattle.expressions.specs.Pairs.{cells_of}
use Rattle.changes.proofs.Filling.{refused, chosen}
use Rattle.expressions.proofs.Pairing.{along_cells, start_cells}

-- the parts of the rule
module _ (x y z : Layout) (h : stores x y z ≡ true) where
  abbrev tail : (index (known y) && (of x.kind (known z) && (is Scalar (known z) || (is Vector (known z) && not (is Scalar (known y)))))) ≡ true
  tail = (and_parts (is Vector (known x)) _ h).1

  abbrev rest : (of x.kind (known z) && (is Scalar (known z) || (is Vector (known z) && not (is Scalar (known y))))) ≡ true
  rest = (and_parts (index (known y)) _ tail).1

  pub into_vector : is Vector (known x) ≡ true
  into_vector = (and_parts (is Vector (known x)) _ h).0

  pub by_integers : of Integer (known y) ≡ true
  by_integers = (and_parts (of Integer (known y)) _ (and_parts (index (known y)) _ tail).0).0

  pub by_list : not (is Matrix (known y)) ≡ true
  by_list = (and_parts (of Integer (known y)) _ (and_parts (index (known y)) _ tail).0).1

  pub of_kind : of x.kind (known z) ≡ true
  of_kind = (and_parts (of x.kind (known z)) _ rest).0

  pub or_vector : is Scalar (known z) ≡ false → is Vector (known z) ≡ true
  or_vector = go (is Scalar (known z)) (is Vector (known z)) (not (is Scalar (known y))) (and_parts (of x.kind (known z)) _ rest).1
    where
      go : (s v o : Bool) → (s || (v && o)) ≡ true → s ≡ false → v ≡ true
      go true v o h e = never (sym e)
      go false true o h e = refl
      go false false o h e = never h

length_by : (s : Bool) (n m : ℕ) → (s || eqb n m) ≡ true → s ≡ false → n ≡ m
length_by true n m h e = never (sym e)
length_by false n m h e = eqb-true n m h

list_above : (s : Bool) (l h : ℤ) (at n start : ℕ) → start ≤ at → IndexAbove (cond s (indices.Interval l h) (indices.Cells at n)) start
list_above true l h at n start le = tt
list_above false l h at n start le = le

module _ (p : Place) (t : Tables) (v b c : ℕ) (x y z : Layout) (ly : lawful p.width y ≡ true) where
  abbrev plan : Plan
  plan = stored_at (value_from p.width t v x) (value_from p.width t b y) (value_from p.width t c z)

  abbrev list : Index
  list = list_at p.width t.integers b y

  store_guarded : store_guard p t.integers b x y z ≡ guarded p plan
  store_guarded =
      let o = sym (list_order p.width t b y ly) in
      let n = sym (list_count p.width t b y ly) in
      λ i. guards p (stores x y z) (o i) (Some (n i)) x (is Scalar (known z) || eqb (n i) z.s)

  pub store_refused : (r : Result Layout Fault) (e : Fault) → IsErrAnd r (λ (f : Fault). f ≡ e) → Err e ≡ store_guard p t.integers b x y z → Filled p v (outcome p.width plan) t r t
  store_refused r e exit h = refused p v t r e exit plan (h ∙ store_guarded)

  module _ (form : Layout) (h : Ok form ≡ store_guard p t.integers b x y z) (lx : lawful p.width x ≡ true) (lz : lawful p.width z ≡ true) where
    pub ruled : stores x y z ≡ true
    ruled = (tests p 0 (λ t u. Unit {0}) t t plan form (sym (h ∙ store_guarded))).2

    same : x ≡ form
    same = (tests p 0 (λ t u. Unit {0}) t t plan form (sym (h ∙ store_guarded))).1

    agree : (is Scalar (known z) || eqb (index_count list) z.s) ≡ true
    agree = ap (λ (n : ℕ). is Scalar (known z) || eqb n z.s) (sym (list_count p.width t b y ly)) ∙ (tests p 0 (λ t u. Unit {0}) t t plan form (sym (h ∙ store_guarded))).5

    few : index_count list ≤ p.width
    few =
        let f = (and_parts (leb (count (value_from p.width t b y)) p.width) _ (tests p 0 (λ t u. Unit {0}) t t plan form (sym (h ∙ store_guarded))).4).0 in
        let e = list_count p.width t b y ly in
        let l = leb-true (count (value_from p.width t b y)) p.width f in
        omega (arith, l, e)

    rows : area x ≡ form.s
    rows = ap (λ (r : ℕ). r * x.s) (vector_one x (lawful_fixed p.width x lx) (into_vector x y z ruled)) ∙ one-mul x.s ∙ ap (λ (f : Layout). f.s) same

    all : is Scalar (known z) ≡ false → area z ≡ index_count list
    all s = ap (λ (r : ℕ). r * z.s) (vector_one z (lawful_fixed p.width z lz) (or_vector x y z ruled s)) ∙ one-mul z.s ∙ sym (length_by (is Scalar (known z)) (index_count list) z.s agree s)

    module _ (to : ℕ) (et : to ≡ v * p.width) (ix : Index) (ei : ix ≡ list) (vs : Operand) (ev : vs ≡ cells_of p.width c z) where
      store_outside : plan.outside ≡ first_outside 1 form.s (indices_of ix t.integers)
      store_outside =
          let l = list_elements p.width t b y ly (by_integers x y z ruled) (by_list x y z ruled) ∙ ap (λ (o : Index). indices_of o t.integers) (sym ei) in
          λ i. first_outside 1 (same i).s (l i)

      abbrev writes : (k : Kind) → List (Cell k) → List (Cell k)
      writes k T = stored (cells T to form.s) (indices_of ix t.integers) (along_table (null_of k) T vs (index_count ix))

      store_elements : plan.elements ≡ Ok (writes x.kind (table_of x.kind t))
      store_elements =
          let k = x.kind in
          let T = table_of x.kind t in
          let l = list_elements p.width t b y ly (by_integers x y z ruled) (by_list x y z ruled) ∙ ap (λ (o : Index). indices_of o t.integers) (sym ei) in
          let n = list_count p.width t b y ly in
          let w : along k (count (value_from p.width t b y)) (value_from p.width t c z) ≡ along_table (null_of k) T vs (index_count ix) =
          ap (λ (m : ℕ). along k m (value_from p.width t c z)) n
          ∙ along_cells p.width t k c z (index_count list) lz (of_kind x y z ruled) all
          ∙ (λ i. along_table (null_of k) T (sym ev i) (index_count (sym ei i))) in
          let at = sym et in
          λ i. Ok (stored (cells T (at i) (rows i)) (l i) (w i))

      pub store_filled : (u : Tables) (s : Result (Unit {0}) Outside) (r : Result Layout Fault) → Chosen (first_outside 1 form.s (indices_of ix t.integers)) t (changed form.kind t to writes) s u → r ≡ answered p form s → Filled p v (outcome p.width plan) t r u
      store_filled u s r w e = chosen p v t u plan form (h ∙ store_guarded) to et writes (first_outside 1 form.s (indices_of ix t.integers)) s r store_outside store_elements w e

      module _ (b-row : b < p.row) (c-row : c < p.row) (v-b : v < b) (v-c : v < c) where
        small : form.s ≤ p.width
        small = let s = lawful_small p.width x lx in omega (arith, s.columns, ap (λ (f : Layout). f.s) same)

        pub store_above : to + form.s ≤ start_of vs
        store_above = let u = under_all p.width v c v-c in let s = small in omega (arith, u, s, et, ap start_of ev ∙ start_cells p.width c z)

        pub store_under : IndexAbove ix (to + form.s)
        store_under =
            let u = under_all p.width v b v-b in
            let s = small in
            subst (λ (o : Index). IndexAbove o (to + form.s)) (sym ei) (list_above (is Interval (known y)) (get_or t.integers (b * p.width) (pos 0)) (get_or t.integers (b * p.width + 1) (pos 0)) (b * p.width) y.s (to + form.s) (omega (arith, u, s, et)))

        module _ (len : ℕ) (ample : p.row * p.width + p.width ≤ len) where
          pub store_seen : IndexBelow ix len
          store_seen =
              let u = under_all p.width b p.row b-row in
              subst (λ (o : Index). IndexBelow o len) (sym ei) (list_below p.width t b y ly len (lawful_small p.width y ly).columns (omega (arith, u)))

          pub store_fits : start_of vs + index_count ix ≤ len
          store_fits =
              let u = under_all p.width c p.row c-row in
              let f = few in
              omega (arith, u, f, ap start_of ev ∙ start_cells p.width c z, ap index_count ei)
