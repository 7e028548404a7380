-- What a variable begins with: where its cells and those of the value lie, and that the code writes what the rule names.
use Rattle.std.proofs.Common.{◌≡◌, ℕ, ◌+◌, ◌-◌, ◌*◌, ◌≤◌, Bool, true, false, cond, not, ◌&&◌, ◌||◌, List, ◌++◌, get_or, replicate, ℤ, pos, IsErrAnd, Some, None, Ok, Err, Result, sym, refl, ap, ◌∙◌, mul-le-mul_right, one-mul, arith}
use Rattle.std.proofs.lemmas.Bool.{and_parts, leb-true}
use Rattle.fault.specs.declared.faults.Fault.{Fault}
use Rattle.arithmetic.specs.declared.faults.ElementFault.{ElementFault}
use Rattle.types.specs.declared.kinds.Kind.{Kind}
use Rattle.types.specs.declared.kinds.Kind.TheVariants.{Integer}
use Rattle.types.specs.declared.kinds.Shape.TheVariants.{Scalar, Interval}
use Rattle.types.specs.Types.{Size}
use Rattle.types.specs.declared.typing.Typing.{Typing}
use Rattle.types.specs.Types.{fits_in, is_known}
use Rattle.types.specs.Typings.{is, of}
use Rattle.rules.specs.Rules.{takes}
use Rattle.element.specs.Cells.{cells, put, rows_of}
use Rattle.element.specs.Matrices.{resized}
use Rattle.picks.specs.Indices.{spanned, between, index_count}
use Rattle.meaning.specs.declared.layouts.Layout.{Layout}
use Rattle.meaning.specs.declared.places.Place.{Place}
use Rattle.meaning.specs.Values.{Cell, null_of, area, known, lawful, within, elements_of}
use Rattle.meaning.specs.Plans.{Plan, outcome}
use Rattle.meaning.specs.Expressions.{listing, count, size_or}
use Rattle.meaning.specs.Changes.{declared, columns_for, declared_layout}
use Rattle.meaning.specs.States.{Tables, tables, table_of, value_from}
use Rattle.meaning.specs.Works.{guards, guarded, Filled, changed}
use Rattle.meaning.proofs.Shells.{never, tests}
use Rattle.meaning.proofs.Rows.{as_cells, lawful_fixed}
use Rattle.tables.proofs.Changing.{changed_integer}
use Rattle.expressions.specs.Lists.{list_at}
use Rattle.expressions.proofs.Listing.{list_count, list_order}
use Rattle.changes.specs.Declares.{shaped, fills, begins, layout_for, room_for, columns_at, declare_guard, Begun, beginning}
use Rattle.changes.proofs.Filling.{refused, written}
use Rattle.changes.proofs.Reading.{one_row, scalar_cell}
use Rattle.changes.proofs.Taking.{taken_kind, taken_list, taken_interval, taken_integers, retold}
use Rattle.changes.proofs.Assigning.{interval_span, interval_listing}
use Rattle.changes.proofs.Padding.{line_padded, length_between}

-- what fits a written size is at most the size that comes of it
fits_or : (n : ℕ) (z : Size) → fits_in (Some n) z ≡ true → n ≤ size_or z n
fits_or n None h = omega arith
fits_or n (Some m) h = leb-true n m h

unless_fills : (f g : Bool) → (f || g) ≡ true → f ≡ false → g ≡ true
unless_fills true g h e = never (sym e)
unless_fills false g h e = h

-- ---- the tests
module _ (p : Place) (t : Tables) (w : Typing) (a : ℕ) (y : Layout) (ly : lawful p.width y ≡ true) where
  abbrev plan : Plan
  plan = declared w (value_from p.width t a y)

  abbrev columns : ℕ
  columns = columns_at p.width t.integers a w y

  columns_are : columns ≡ columns_for w (value_from p.width t a y)
  columns_are = ap (λ (m : ℕ). cond (shaped w y) y.s m) (sym (list_count p.width t a y ly))

  declare_guarded : declare_guard p t.integers a w y ≡ guarded p plan
  declare_guarded =
      let o = sym (list_order p.width t a y ly) in
      let n = sym (list_count p.width t a y ly) in
      let m = columns_are in
      λ i. guards p (begins w y) (shaped w y || o i) (cond (shaped w y) None (Some (n i))) (layout_for w y (m i)) (fills w y || room_for w y (m i))

  pub declare_refused : (r : Result Layout Fault) (e : Fault) → IsErrAnd r (λ (f : Fault). f ≡ e) → Err e ≡ declare_guard p t.integers a w y → Filled p p.row (outcome p.width plan) t r t
  declare_refused r e exit h = refused p p.row t r e exit plan (h ∙ declare_guarded)

  module _ (form : Layout) (h : Ok form ≡ declare_guard p t.integers a w y) where
    same : declared_layout w (value_from p.width t a y) ≡ form
    same = (tests p 0 (λ t u. Unit {0}) t t plan form (sym (h ∙ declare_guarded))).1

    is_layout : layout_for w y columns ≡ form
    is_layout = ap (layout_for w y) columns_are ∙ same

    agree : fills w y ≡ false → room_for w y columns ≡ true
    agree e = unless_fills (fills w y) (room_for w y columns) (ap (λ (m : ℕ). fills w y || room_for w y m) columns_are ∙ (tests p 0 (λ t u. Unit {0}) t t plan form (sym (h ∙ declare_guarded))).5) e

    pub declare_begun : within p.width form.r form.s ≡ true → Begun p.width t.integers a w y form
    declare_begun small =
        record {
          value = ly;
          taken = (and_parts (takes w (known y)) (not (fills w y) || (is_known w.r && is_known w.s)) (tests p 0 (λ t u. Unit {0}) t t plan form (sym (h ∙ declare_guarded))).2).0;
          small = small;
          rows = λ e. (let l = fits_or y.r w.r (and_parts (fits_in (Some y.r) w.r) (fits_in (Some columns) w.s) (agree e)).0 in let q = ap (λ (f : Layout). f.r) is_layout in omega (arith, l, q));
          columns = λ e. (let l = fits_or columns w.s (and_parts (fits_in (Some y.r) w.r) (fits_in (Some columns) w.s) (agree e)).1 in let q = ap (λ (f : Layout). f.s) is_layout in omega (arith, l, q));
        }

    pub declare_filled : (u : Tables) → u ≡ changed w.kind t (p.row * p.width) (λ k T. beginning k w form (value_from p.width t a y)) → Filled p p.row (outcome p.width plan) t (Ok form) u
    declare_filled u e =
        let ok : Layout → Result (List (Cell w.kind)) ElementFault = λ f. Ok (beginning w.kind w f (value_from p.width t a y)) in
        written p p.row t u plan form (h ∙ declare_guarded) (p.row * p.width) refl (λ k T. beginning k w form (value_from p.width t a y)) refl (ap ok same)
        (e ∙ ap (λ (f : Layout). changed f.kind t (p.row * p.width) (λ k T. beginning k w form (value_from p.width t a y))) same)

-- ---- what is written
module _ (W : ℕ) (t : Tables) (w : Typing) (a i : ℕ) (y f : Layout) (g : Begun W t.integers a w y f) (from to : ℕ) (ef : from ≡ a * W) (et : to ≡ i * W) where
  abbrev all : (k : Kind) → List (Cell k) → List (Cell k)
  all k T = beginning k w f (value_from W t a y)

  kind_is : of w.kind (known y) ≡ true
  kind_is = taken_kind w y g.taken

  pub begun_resize : (u : Tables) → shaped w y ≡ true → u ≡ changed w.kind t to (λ k T. resized (null_of k) f.r f.s (rows_of y.r y.s (cells T from (y.r * y.s)))) → u ≡ changed w.kind t (i * W) all
  begun_resize u e h =
      let k = w.kind in
      let T = table_of w.kind t in
      let v = value_from W t a y in
      let o = elements_of k v in
      let c : beginning k w f v ≡ resized (null_of k) f.r f.s (rows_of y.r y.s o) =
      λ j. cond (not (e j) && is Scalar (known y)) (replicate (area f) (get_or o 0 (null_of k))) (resized (null_of k) f.r f.s (rows_of y.r (cond (e j) y.s (count v)) (cond (e j) o (listing k v)))) in
      let d : o ≡ cells T from (y.r * y.s) = as_cells k y.kind t (a * W) (area y) kind_is ∙ ap (λ (m : ℕ). cells T m (y.r * y.s)) (sym ef) in
      h ∙ retold k t to (i * W) (λ k T. resized (null_of k) f.r f.s (rows_of y.r y.s (cells T from (y.r * y.s)))) all et (sym (c ∙ ap (λ (xs : List (Cell k)). resized (null_of k) f.r f.s (rows_of y.r y.s xs)) d))

  pub begun_spread : (u : Tables) → shaped w y ≡ false → is Scalar (known y) ≡ true → u ≡ changed w.kind t to (λ k T. replicate (f.r * f.s) (get_or T from (null_of k))) → u ≡ changed w.kind t (i * W) all
  begun_spread u e s h =
      let k = w.kind in
      let T = table_of w.kind t in
      let v = value_from W t a y in
      let o = elements_of k v in
      let c : beginning k w f v ≡ replicate (area f) (get_or o 0 (null_of k)) =
      λ j. cond (not (e j) && s j) (replicate (area f) (get_or o 0 (null_of k))) (resized (null_of k) f.r f.s (rows_of y.r (cond (e j) y.s (count v)) (cond (e j) o (listing k v)))) in
      let d : get_or o 0 (null_of k) ≡ get_or T from (null_of k) = scalar_cell W t k a y g.value kind_is s ∙ ap (λ (m : ℕ). get_or T m (null_of k)) (sym ef) in
      h ∙ retold k t to (i * W) (λ k T. replicate (f.r * f.s) (get_or T from (null_of k))) all et (sym (c ∙ ap (replicate (area f)) d))

  module _ (e : shaped w y ≡ false) (s : is Scalar (known y) ≡ false) where
    abbrev ival : is Interval (known y) ≡ true
    ival = (taken_interval w y g.taken e s).0

    abbrev low : ℤ
    low = get_or t.integers from (pos 0)

    abbrev high : ℤ
    high = get_or t.integers (from + 1) (pos 0)

    kind : w.kind ≡ Integer
    kind = taken_integers w y g.taken e s (lawful_fixed W y g.value)

    unfilled : fills w y ≡ false
    unfilled = λ j. not (e j) && s j

    one : y.r ≡ 1
    one = one_row y (lawful_fixed W y g.value) (taken_list w y g.taken e)

    rows : 1 ≤ f.r
    rows = let l = g.rows unfilled in let o = one in omega (arith, l, o)

    span : columns_at W t.integers a w y ≡ spanned low high
    span = ap (λ (b : Bool). cond b y.s (index_count (list_at W t.integers a y))) e ∙ interval_span W t.integers a from y ef ival

    short : spanned low high ≤ f.s
    short = let l = g.columns unfilled in let m = span in omega (arith, l, m)

    pub begun_few : spanned low high ≤ f.r * f.s
    begun_few =
        let l = short in
        let m : 1 * f.s ≤ f.r * f.s = mul-le-mul_right f.s rows in
        omega (arith, l, m, one-mul f.s)

    pub begun_unfold : (ints : List ℤ) → ints ≡ put t.integers to (between low high ++ replicate (f.r * f.s - spanned low high) (pos 0)) → tables t.booleans t.characters ints ≡ changed w.kind t (i * W) all
    begun_unfold ints h =
        let v = value_from W t a y in
        let o = elements_of Integer v in
        let null = null_of Integer in
        let c : beginning Integer w f v ≡ resized null f.r f.s (rows_of y.r (count v) (listing Integer v)) =
        λ j. cond (not (e j) && s j) (replicate (area f) (get_or o 0 null)) (resized null f.r f.s (rows_of y.r (cond (e j) y.s (count v)) (cond (e j) o (listing Integer v)))) in
        let integer : of Integer (known y) ≡ true = ap (λ (k : Kind). of k (known y)) (sym kind) ∙ kind_is in
        let l : listing Integer v ≡ between low high = interval_listing W t a from y g.value ef integer (taken_list w y g.taken e) ival in
        let n : count v ≡ spanned low high = list_count W t a y g.value ∙ interval_span W t.integers a from y ef ival in
        let r = one in
        let d : resized null f.r f.s (rows_of y.r (count v) (listing Integer v)) ≡ resized null f.r f.s (rows_of 1 (spanned low high) (between low high)) = λ j. resized null f.r f.s (rows_of (r j) (n j) (l j)) in
        let b = sym (c ∙ d ∙ line_padded null f.s (between low high) f.r (spanned low high) (length_between low high) rows short) in
        changed_integer w.kind t (i * W) all kind (h ∙ (λ j. put t.integers (et j) (b j)))
