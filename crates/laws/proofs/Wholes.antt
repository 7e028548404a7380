-- A row that gives a value gives as many elements as its layout says.
use Rattle.std.proofs.Common.{◌≡◌, ℕ, ◌+◌, ◌*◌, max, Bool, true, false, cond, not, ◌&&◌, ◌||◌, eqb, List, [], ◌∷◌, ◌++◌, map, reverse, length, get_or, set, replicate, ℤ, pos, Some, None, Ok, Err, Option, Result, sym, refl, ap, ◌∙◌, subst, one-mul, mul-one, arith}
use Rattle.std.proofs.lemmas.List.{length-append, length-replicate, length-map, length-reverse, length-set}
use Rattle.std.proofs.lemmas.Bool.{and_parts, eqb-true}
use Rattle.types.specs.declared.kinds.Kind.{Kind}
use Rattle.types.specs.declared.kinds.Kind.TheVariants.{Boolean, Character, Integer}
use Rattle.types.specs.declared.kinds.Shape.{Shape}
use Rattle.types.specs.declared.kinds.Shape.TheVariants.{Scalar, Vector, Matrix, Interval}
use Rattle.types.specs.declared.typing.Typing.{Typing}
use Rattle.types.specs.Types.{Size, same_kind, same_shape}
use Rattle.types.specs.Typings.{is, of, flat, alone, index, pairs, type_fits}
use Rattle.instruction.specs.declared.instructions.Prefix.{Prefix}
use Rattle.instruction.specs.declared.instructions.Prefix.TheVariants.{Minus, Not}
use Rattle.arithmetic.specs.declared.faults.ArithmeticFault.{ArithmeticFault}
use Rattle.arithmetic.specs.declared.faults.ElementFault.{ElementFault}
use Rattle.arithmetic.specs.Exact.{exact, negated}
use Rattle.arithmetic.specs.Truths.{ordered, decided}
use Rattle.source.specs.declared.state.StreamState.{StreamState}
use Rattle.source.specs.States.{state_number}
use Rattle.instruction.specs.declared.instructions.Equality.{Equality}
use Rattle.instruction.specs.declared.instructions.Infix.{Infix}
use Rattle.instruction.specs.declared.instructions.Infix.TheVariants as family
use Rattle.instruction.specs.declared.instructions.Measure.{Measure as Asked}
use Rattle.instruction.specs.declared.instructions.Measure.TheVariants.{Length, Rows, Columns, Reverse, Single}
use Rattle.instruction.specs.declared.instructions.Expression.{Expression as Make}
use Rattle.instruction.specs.declared.instructions.Expression.TheVariants as make
use Rattle.rules.specs.Rules.{joins}
use Rattle.element.specs.Cells.{rows_of, tabulate}
use Rattle.element.specs.Matrices.{resized, stacked}
use Rattle.element.specs.Steps.{step_count, stepped}
use Rattle.element.proofs.Lines.{length_resized_all}
use Rattle.picks.specs.Indices.{amount, spanned, between, place_of}
use Rattle.picks.specs.Picks.{picked, crossed}
use Rattle.picks.specs.Stores.{stored}
use Rattle.picks.proofs.Storing.{length_stored}
use Rattle.elementwise.specs.Results.{map2, collected}
use Rattle.elementwise.specs.Products.{dot, products, row_at, column_at}
use Rattle.fault.specs.declared.causes.Cause.{Cause}
use Rattle.fault.specs.declared.causes.Cause.TheVariants.{SizesDiffer, Beyond, Disordered, NoRule}
use Rattle.meaning.specs.declared.layouts.Layout.{Layout}
use Rattle.meaning.specs.Values.{Cell, null_of, area, fixed, within, lawful, Value, value_of, exactly, elements_as, elements_of, first, last}
use Rattle.meaning.specs.Elements.{cast, along}
use Rattle.meaning.specs.Plans.{Plan, Outcome, gives, outcome, unless, unless_outside, finished, fits, with}
use Rattle.meaning.specs.Expressions.{count, listing, pair_layout, pairwise, equated, says, all_equal, prefixed, cast_to, joined, multiplied, stepped_by, infixed, interval, stack, pick, pick_two, measured, size_or, resized_to, copied, literal, empty, streamed, by1, by2, by3, evaluated}
use Rattle.meaning.specs.Changes.{nulls, alike, columns_for, items_for, declared_layout, declared, assigned, stored_at, stored_at_two}
use Rattle.laws.specs.Laws.{Whole, WholeAt, AllWhole, Wholes}
use Rattle.laws.specs.Reads.{make_reads}
use Rattle.laws.proofs.Tables.{found}
use Rattle.laws.proofs.Lengths.{ok_length, length_collected, length_map2, length_tabulate, length_joined, length_crossed, length_stacked}

-- ---- once for every plan
abbrev WholePlan : Plan → Type 0
WholePlan p = p.ruled ≡ true → p.ordered ≡ true → p.agree ≡ true → (xs : List (Cell p.layout.kind)) → p.elements ≡ Ok xs → length xs ≡ area p.layout

unless_gives : (b : Bool) (c : Cause) (o : Outcome) (v : Value) → unless b c o ≡ gives v → (b ≡ true) × (o ≡ gives v)
unless_gives true c o v h = (refl, h)
unless_gives false c o v h = cc

outside_gives : (k : Option ℕ) (o : Outcome) (v : Value) → unless_outside k o ≡ gives v → o ≡ gives v
outside_gives None o v h = h
outside_gives (Some k) o v h = cc

finished_gives : (f : Layout) (r : Result (List (Cell f.kind)) ElementFault) (v : Value) → finished f r ≡ gives v → (xs : List (Cell f.kind)) × (r ≡ Ok xs) × (value_of f xs ≡ v)
finished_gives f (Ok xs) v h = (xs, refl, cc)
finished_gives f (Err e) v h = cc

-- what a plan that gives a value went through
pub record Given (W : ℕ) (p : Plan) (v : Value) : Type 0 where
  pub ruled : p.ruled ≡ true
  pub ordered : p.ordered ≡ true
  pub near : fits W p.counted p.layout ≡ true
  pub agree : p.agree ≡ true
  pub items : List (Cell p.layout.kind)
  pub elements : p.elements ≡ Ok items
  pub value : value_of p.layout items ≡ v

pub given : (W : ℕ) (p : Plan) (v : Value) → outcome W p ≡ gives v → Given W p v
given W p v h =
    let f = p.layout in
    let five = finished f p.elements in
    let four = unless_outside p.outside five in
    let three = unless p.agree SizesDiffer four in
    let two = unless (fits W p.counted f) Beyond three in
    let one = unless p.ordered Disordered two in
    let a = unless_gives p.ruled NoRule one v h in
    let b = unless_gives p.ordered Disordered two v a.1 in
    let c = unless_gives (fits W p.counted f) Beyond three v b.1 in
    let d = unless_gives p.agree SizesDiffer four v c.1 in
    let e = finished_gives f p.elements v (outside_gives p.outside five v d.1) in
    record { ruled = a.0; ordered = b.0; near = c.0; agree = d.0; items = e.0; elements = e.1; value = e.2 }

-- a plan's value has the plan's layout
pub layout_of : (W : ℕ) (p : Plan) (v : Value) → outcome W p ≡ gives v → v.layout ≡ p.layout
layout_of W p v h = sym (ap (λ (u : Value). u.layout) (given W p v h).value)

whole : (W : ℕ) (p : Plan) (v : Value) → WholePlan p → outcome W p ≡ gives v → Whole v
whole W p v w h = let g = given W p v h in subst Whole g.value (w g.ruled g.ordered g.agree g.items g.elements)

-- ---- an operand
record Good (v : Value) : Type 0 where
  fixed_sizes : fixed v.layout ≡ true
  long : Whole v

good : (W : ℕ) (v : Value) → lawful W v.layout ≡ true → Whole v → Good v
good W v law long = record { fixed_sizes = (and_parts (fixed v.layout) (within W v.layout.r v.layout.s) law).0; long = long }

length_as : (k l : Kind) (xs : List (Cell l)) → same_kind k l ≡ true → length (elements_as k l xs) ≡ length xs
length_as Boolean Boolean xs h = refl
length_as Boolean Character xs h = cc
length_as Boolean Integer xs h = cc
length_as Character Boolean xs h = cc
length_as Character Character xs h = refl
length_as Character Integer xs h = cc
length_as Integer Boolean xs h = cc
length_as Integer Character xs h = cc
length_as Integer Integer xs h = refl

kind_self : (k : Kind) → same_kind k k ≡ true
kind_self Boolean = refl
kind_self Character = refl
kind_self Integer = refl

length_of : (k : Kind) (v : Value) → same_kind k v.layout.kind ≡ true → Whole v → length (elements_of k v) ≡ area v.layout
length_of k v same long = length_as k v.layout.kind v.elements same ∙ long

-- all shapes but a matrix have one row
one_row : (k : Kind) (x : Shape) (r s : ℕ) → type_fits k x (Some r) (Some s) ≡ true → not (same_shape Matrix x) ≡ true → r * s ≡ s
one_row k Scalar r s h t = ap (λ (m : ℕ). m * s) (eqb-true r 1 (and_parts (eqb r 1) (eqb s 1) h).0) ∙ one-mul s
one_row k Vector r s h t = ap (λ (m : ℕ). m * s) (eqb-true r 1 h) ∙ one-mul s
one_row k Matrix r s h t = cc
one_row Boolean Interval r s h t = cc
one_row Character Interval r s h t = cc
one_row Integer Interval r s h t = ap (λ (m : ℕ). m * s) (eqb-true r 1 (and_parts (eqb r 1) (eqb s 2) h).0) ∙ one-mul s

-- what is no integer is no interval
no_interval : (k l : Kind) (x : Shape) (r s m : ℕ) → same_kind k l ≡ true → same_kind k Integer ≡ false → type_fits l x (Some r) (Some s) ≡ true → cond (same_shape Interval x) m s ≡ s
no_interval k l Scalar r s m e h f = refl
no_interval k l Vector r s m e h f = refl
no_interval k l Matrix r s m e h f = refl
no_interval k Boolean Interval r s m e h f = cc
no_interval k Character Interval r s m e h f = cc
no_interval k Integer Interval r s m e h f = cc

cond_length : {X : Type 0} (t : Bool) (xs ys : List X) (m n : ℕ) → length xs ≡ m → length ys ≡ n → length (cond t xs ys) ≡ cond t m n
cond_length true xs ys m n p q = p
cond_length false xs ys m n p q = q

length_listing : (k : Kind) (v : Value) → same_kind k v.layout.kind ≡ true → not (is Matrix (exactly v)) ≡ true → Good v → length (listing k v) ≡ count v
length_listing Boolean v same t g =
    length_of Boolean v same g.long ∙ one_row v.layout.kind v.layout.shape v.layout.r v.layout.s g.fixed_sizes t
    ∙ sym (no_interval Boolean v.layout.kind v.layout.shape v.layout.r v.layout.s (spanned (first v) (last v)) same refl g.fixed_sizes)
length_listing Character v same t g =
    length_of Character v same g.long ∙ one_row v.layout.kind v.layout.shape v.layout.r v.layout.s g.fixed_sizes t
    ∙ sym (no_interval Character v.layout.kind v.layout.shape v.layout.r v.layout.s (spanned (first v) (last v)) same refl g.fixed_sizes)
length_listing Integer v same t g =
    cond_length (is Interval (exactly v)) (between (first v) (last v)) (elements_of Integer v) (spanned (first v) (last v)) v.layout.s (length_tabulate (spanned (first v) (last v)) _)
    (length_of Integer v same g.long ∙ one_row v.layout.kind v.layout.shape v.layout.r v.layout.s g.fixed_sizes t)

-- an index: an integer scalar, vector or interval
length_index : (v : Value) → index (exactly v) ≡ true → Good v → length (listing Integer v) ≡ count v
length_index v h g = let p = and_parts (of Integer (exactly v)) (not (is Matrix (exactly v))) h in length_listing Integer v p.0 p.1 g

scalar_count : (k : Kind) (y : Shape) (r s m : ℕ) → type_fits k y (Some r) (Some s) ≡ true → same_shape Scalar y ≡ true → cond (same_shape Interval y) m s ≡ 1
scalar_count k Scalar r s m h t = eqb-true s 1 (and_parts (eqb r 1) (eqb s 1) h).1
scalar_count k Vector r s m h t = cc
scalar_count k Matrix r s m h t = cc
scalar_count k Interval r s m h t = cc

scalar_area : (k : Kind) (x : Shape) (r s : ℕ) → type_fits k x (Some r) (Some s) ≡ true → same_shape Scalar x ≡ true → r * s ≡ 1
scalar_area k Scalar r s h t = let p = and_parts (eqb r 1) (eqb s 1) h in λ i. eqb-true r 1 p.0 i * eqb-true s 1 p.1 i
scalar_area k Vector r s h t = cc
scalar_area k Matrix r s h t = cc
scalar_area k Interval r s h t = cc

-- ---- two operands, element by element
length_along : (k : Kind) (n : ℕ) (v : Value) → same_kind k v.layout.kind ≡ true → Whole v → (is Scalar (exactly v) ≡ false → area v.layout ≡ n) → length (along k n v) ≡ n
length_along k n v same long h = by (is Scalar (exactly v)) h
  where
    by : (t : Bool) → (t ≡ false → area v.layout ≡ n) → length (cond t (replicate n (get_or (elements_of k v) 0 (null_of k))) (elements_of k v)) ≡ n
    by true h = length-replicate n (get_or (elements_of k v) 0 (null_of k))
    by false h = length_of k v same long ∙ h refl

left_area : (t u e : Bool) (i j p q : ℕ) → (t || (u || e)) ≡ true → t ≡ false → i * p ≡ cond t j i * cond t q p
left_area true u e i j p q g f = cc
left_area false u e i j p q g f = refl

right_area : (t u e : Bool) (i j p q : ℕ) → (e ≡ true → (i ≡ j) × (p ≡ q)) → (t || (u || e)) ≡ true → u ≡ false → j * q ≡ cond t j i * cond t q p
right_area true u e i j p q h g f = refl
right_area false true e i j p q h g f = cc
right_area false false true i j p q h g f = let b = h refl in λ m. sym b.0 m * sym b.1 m
right_area false false false i j p q h g f = cc

pub same_sizes : (i j p q : ℕ) → (eqb i j && eqb p q) ≡ true → (i ≡ j) × (p ≡ q)
same_sizes i j p q h = let b = and_parts (eqb i j) (eqb p q) h in (eqb-true i j b.0, eqb-true p q b.1)

whole_pair : (k l : Kind) (f : List (Cell k) → List (Cell k) → Result (List (Cell l)) ElementFault) (a b : Value)
    → ((n : ℕ) (xs ys : List (Cell k)) (zs : List (Cell l)) → length xs ≡ n → length ys ≡ n → f xs ys ≡ Ok zs → length zs ≡ n) → Whole a → Whole b → WholePlan (pairwise k l f a b)
whole_pair k l f a b len wa wb ruled ordered agree zs e =
    let x = a.layout in
    let y = b.layout in
    let n = area (pair_layout l a b) in
    let ka = and_parts (of k (exactly a)) (of k (exactly b) && pairs (exactly a) (exactly b)) ruled in
    let kb = and_parts (of k (exactly b)) (pairs (exactly a) (exactly b)) ka.1 in
    let eq = eqb x.r y.r && eqb x.s y.s in
    len n (along k n a) (along k n b) zs
    (length_along k n a ka.0 wa (left_area (is Scalar (exactly a)) (is Scalar (exactly b)) eq x.r y.r x.s y.s agree))
    (length_along k n b kb.0 wb (right_area (is Scalar (exactly a)) (is Scalar (exactly b)) eq x.r y.r x.s y.s (same_sizes x.r y.r x.s y.s) agree)) e

-- ---- one operand
module _ (a : Value) (g : Good a) where
  whole_prefix : (op : Prefix) → WholePlan (prefixed op a)
  whole_prefix Minus ruled _ _ xs e =
      length_collected 1 (map negated (elements_of Integer a)) xs e ∙ length-map (elements_of Integer a) negated ∙ length_of Integer a (and_parts (of Integer (exactly a)) (flat (exactly a)) ruled).0 g.long
  whole_prefix Not ruled _ _ xs e =
      ok_length (map not (elements_of Boolean a)) (area a.layout) (length-map (elements_of Boolean a) not ∙ length_of Boolean a (and_parts (of Boolean (exactly a)) (flat (exactly a)) ruled).0 g.long) xs e

  whole_cast : (k : Kind) → WholePlan (cast_to k a)
  whole_cast k _ _ _ xs e = ok_length (map (cast a.layout.kind k) a.elements) (area a.layout) (length-map a.elements (cast a.layout.kind k) ∙ g.long) xs e

  whole_measured : (m : Asked) → WholePlan (measured m a)
  whole_measured Length _ _ _ xs e = ok_length (pos a.layout.s ∷ []) 1 refl xs e
  whole_measured Rows _ _ _ xs e = ok_length (pos a.layout.r ∷ []) 1 refl xs e
  whole_measured Columns _ _ _ xs e = ok_length (pos a.layout.s ∷ []) 1 refl xs e
  whole_measured Reverse _ _ _ xs e = ok_length (reverse a.elements) (area a.layout) (length-reverse a.elements ∙ g.long) xs e
  whole_measured Single ruled _ _ xs e = ok_length a.elements 1 (g.long ∙ scalar_area a.layout.kind a.layout.shape a.layout.r a.layout.s g.fixed_sizes ruled) xs e

  whole_copied : WholePlan (copied a)
  whole_copied _ _ _ xs e = ok_length a.elements (area a.layout) g.long xs e

  whole_resized : (r s : Size) → WholePlan (resized_to r s a)
  whole_resized r s _ _ _ xs e =
      let k = a.layout.kind in
      let rows = rows_of a.layout.r a.layout.s a.elements in
      ok_length (resized (null_of k) (size_or r 0) (size_or s 0) rows) (size_or r 0 * size_or s 0) (length_resized_all (null_of k) (size_or r 0) (size_or s 0) rows) xs e

-- ---- two operands
joins_row : (x : Shape) → (same_shape Scalar x || same_shape Vector x) ≡ true → not (same_shape Matrix x) ≡ true
joins_row Scalar h = refl
joins_row Vector h = refl
joins_row Matrix h = cc
joins_row Interval h = refl

listed_row : (x : Shape) → (same_shape Vector x || same_shape Interval x) ≡ true → not (same_shape Matrix x) ≡ true
listed_row Scalar h = refl
listed_row Vector h = refl
listed_row Matrix h = cc
listed_row Interval h = refl

product_long : (v : Bool) (x y : List (Result ℤ ArithmeticFault)) (r s : ℕ) → length x ≡ 1 → length y ≡ r * s → length (cond v x y) ≡ cond v 1 r * cond v 1 s
product_long true x y r s p q = p
product_long false x y r s p q = q

module _ (a b : Value) (ga : Good a) (gb : Good b) where
  whole_equated : (op : Equality) → WholePlan (equated op a b)
  whole_equated op _ _ _ xs e = ok_length (says op (all_equal a b) ∷ []) 1 refl xs e

  whole_joined : WholePlan (joined a b)
  whole_joined ruled _ _ xs e =
      let x = a.layout in
      let y = b.layout in
      let p = and_parts (of x.kind (exactly b)) (joins (exactly a) && joins (exactly b)) ruled in
      let q = and_parts (joins (exactly a)) (joins (exactly b)) p.1 in
      let la = ga.long ∙ one_row x.kind x.shape x.r x.s ga.fixed_sizes (joins_row x.shape q.0) in
      let lb = length_of x.kind b p.0 gb.long ∙ one_row y.kind y.shape y.r y.s gb.fixed_sizes (joins_row y.shape q.1) in
      ok_length (a.elements ++ elements_of x.kind b) (1 * (x.s + y.s)) (length-append a.elements (elements_of x.kind b) ∙ omega arith) xs e

  whole_multiplied : WholePlan (multiplied a b)
  whole_multiplied _ _ _ xs e =
      let v = is Vector (exactly a) in
      let xa = elements_of Integer a in
      let xb = elements_of Integer b in
      let r = a.layout.r in
      let m = a.layout.s in
      let s = b.layout.s in
      let one = dot xa xb ∷ [] in
      length_collected 1 (cond v one (products r m s xa xb)) xs e
      ∙ product_long v one (products r m s xa xb) r s refl
      (length_joined r s (λ i. tabulate s (λ j. dot (row_at xa m i) (column_at xb m s j))) (λ i. length_tabulate s (λ j. dot (row_at xa m i) (column_at xb m s j))))

  whole_stepped : WholePlan (stepped_by a b)
  whole_stepped ruled _ _ xs e =
      let k = a.layout.kind in
      let p = and_parts (is Vector (exactly a) || is Interval (exactly a)) (alone Integer (exactly b)) ruled in
      let n = amount (first b) in
      let l = length_listing k a (kind_self k) (listed_row a.layout.shape p.0) ga in
      ok_length (stepped (null_of k) n (listing k a)) (1 * step_count (count a) n)
      (length_tabulate (step_count (length (listing k a)) n) _ ∙ ap (λ (m : ℕ). step_count m n) l ∙ sym (one-mul (step_count (count a) n))) xs e

  whole_infixed : (op : Infix) → WholePlan (infixed op a b)
  whole_infixed (family.Arithmetic op) = whole_pair Integer Integer (λ xs ys. collected 1 (map2 (exact op) xs ys)) a b (λ n xs ys zs p q e. length_collected 1 (map2 (exact op) xs ys) zs e ∙ length_map2 (exact op) xs ys n p q) ga.long gb.long
  whole_infixed (family.Order op) = whole_pair Integer Boolean (λ xs ys. Ok (map2 (ordered op) xs ys)) a b (λ n xs ys zs p q e. ok_length (map2 (ordered op) xs ys) n (length_map2 (ordered op) xs ys n p q) zs e) ga.long gb.long
  whole_infixed (family.Logic op) = whole_pair Boolean Boolean (λ xs ys. Ok (map2 (decided op) xs ys)) a b (λ n xs ys zs p q e. ok_length (map2 (decided op) xs ys) n (length_map2 (decided op) xs ys n p q) zs e) ga.long gb.long
  whole_infixed (family.Equality op) = whole_equated op
  whole_infixed family.Join = whole_joined
  whole_infixed family.Product = whole_multiplied
  whole_infixed family.By = whole_stepped

  whole_interval : WholePlan (interval a b)
  whole_interval _ _ _ xs e = ok_length (first a ∷ first b ∷ []) 2 refl xs e

  whole_stack : WholePlan (stack a b)
  whole_stack _ _ _ xs e =
      let k = a.layout.kind in
      let n = max a.layout.s b.layout.s in
      ok_length (stacked (null_of k) n (rows_of a.layout.r a.layout.s a.elements) (elements_of k b)) ((a.layout.r + 1) * n)
      (length_stacked (null_of k) a.layout.r a.layout.s n a.elements (elements_of k b)) xs e

  whole_pick : WholePlan (pick a b)
  whole_pick ruled _ _ xs e =
      let p = and_parts (is Vector (exactly a)) (index (exactly b)) ruled in
      let js = listing Integer b in
      ok_length (picked (null_of a.layout.kind) a.elements js) (1 * count b) (length-map js _ ∙ length_index b p.1 gb ∙ sym (one-mul (count b))) xs e

pick_long : (t : Bool) (b c : ℕ) → (t ≡ true → c ≡ 1) → b * c ≡ cond t 1 b * cond t b c
pick_long true b c e = ap (λ (m : ℕ). b * m) (e refl) ∙ mul-one b ∙ sym (one-mul b)
pick_long false b c e = refl

whole_pick_two : (a b c : Value) → Good b → Good c → WholePlan (pick_two a b c)
whole_pick_two a b c gb gc ruled _ _ xs e =
    let p = (and_parts (is Matrix (exactly a)) (index (exactly b) && index (exactly c)) ruled).1 in
    let q = and_parts (index (exactly b)) (index (exactly c)) p in
    let is' = listing Integer b in
    let js = listing Integer c in
    let t = is Scalar (exactly c) in
    let lb = length_index b q.0 gb in
    let lc = length_index c q.1 gc in
    ok_length (crossed (null_of a.layout.kind) a.layout.s a.elements is' js) (cond t 1 (count b) * cond t (count b) (count c))
    (length_crossed (null_of a.layout.kind) a.layout.s a.elements is' js ∙ (λ i. lb i * lc i)
    ∙ pick_long t (count b) (count c) (λ h. scalar_count c.layout.kind c.layout.shape c.layout.r c.layout.s (spanned (first c) (last c)) gc.fixed_sizes h)) xs e

-- ---- rows that change a variable
whole_nulls : (w : Typing) → WholePlan (nulls w)
whole_nulls w _ _ _ xs e = ok_length (replicate (size_or w.r 0 * size_or w.s 0) (null_of w.kind)) _ (length-replicate (size_or w.r 0 * size_or w.s 0) (null_of w.kind)) xs e

either_long : {X : Type 0} (t : Bool) (xs ys : List X) (n : ℕ) → length xs ≡ n → length ys ≡ n → length (cond t xs ys) ≡ n
either_long true xs ys n p q = p
either_long false xs ys n p q = q

whole_declared : (w : Typing) (v : Value) → WholePlan (declared w v)
whole_declared w v _ _ _ xs e =
    let k = w.kind in
    let f = declared_layout w v in
    let fill = not (alike w v) && is Scalar (exactly v) in
    let one = replicate (area f) (get_or (elements_of k v) 0 (null_of k)) in
    let rows = rows_of v.layout.r (columns_for w v) (items_for w v) in
    ok_length (cond fill one (resized (null_of k) f.r f.s rows)) (area f)
    (either_long fill one (resized (null_of k) f.r f.s rows) (area f) (length-replicate (area f) _) (length_resized_all (null_of k) f.r f.s rows)) xs e

-- a value of the variable's shape, a scalar that is spread, or an interval that is taken apart
three_long : {X : Type 0} (al sc : Bool) (xs ys zs : List X) (n : ℕ) → (al ≡ true → length xs ≡ n) → length ys ≡ n → (al ≡ false → sc ≡ false → length zs ≡ n) → length (cond (not al && sc) ys (cond al xs zs)) ≡ n
three_long true sc xs ys zs n p q r = p refl
three_long false true xs ys zs n p q r = q
three_long false false xs ys zs n p q r = r refl refl

apart_long : (al sc iv ve ma : Bool) → (al || ((sc && (ve || ma)) || (iv && ve))) ≡ true → al ≡ false → sc ≡ false → (iv ≡ true) × (ve ≡ true)
apart_long true sc iv ve ma h p q = cc
apart_long false true iv ve ma h p q = cc
apart_long false false iv ve ma h p q = and_parts iv ve h

interval_row : (x : Shape) → same_shape Interval x ≡ true → not (same_shape Matrix x) ≡ true
interval_row Scalar h = cc
interval_row Vector h = cc
interval_row Matrix h = cc
interval_row Interval h = refl

vector_row : (k : Kind) (x : Shape) (r s : ℕ) → type_fits k x (Some r) (Some s) ≡ true → same_shape Vector x ≡ true → r * s ≡ s
vector_row k Scalar r s h t = cc
vector_row k Vector r s h t = one_row k Vector r s h refl
vector_row k Matrix r s h t = cc
vector_row k Interval r s h t = cc

agree_alike : (al m n : Bool) → cond al m n ≡ true → al ≡ true → m ≡ true
agree_alike true m n h t = h
agree_alike false m n h t = cc

agree_apart : (al sc m e : Bool) → cond al m (sc || e) ≡ true → al ≡ false → sc ≡ false → e ≡ true
agree_apart true sc m e h p q = cc
agree_apart false true m e h p q = cc
agree_apart false false m e h p q = h

whole_assigned : (a v : Value) → Good a → Good v → WholePlan (assigned a v)
whole_assigned a v ga gv ruled _ agree xs e =
    let x = a.layout in
    let y = v.layout in
    let k = x.kind in
    let w = exactly a in
    let al = alike w v in
    let sc = is Scalar (exactly v) in
    let p = and_parts (of k (exactly v)) (al || ((sc && (is Vector w || is Matrix w)) || (is Interval (exactly v) && is Vector w))) ruled in
    let m = eqb x.r y.r && eqb x.s y.s in
    let one = replicate (area x) (get_or (elements_of k v) 0 (null_of k)) in
    ok_length (cond (not al && sc) one (items_for w v)) (area x)
    (three_long al sc (elements_of k v) one (listing k v) (area x)
    (λ yes. let eq = same_sizes x.r y.r x.s y.s (agree_alike al m (sc || eqb (count v) x.s) agree yes) in length_of k v p.0 gv.long ∙ (λ i. sym eq.0 i * sym eq.1 i))
    (length-replicate (area x) _)
    (λ no' more.
    let both = apart_long al sc (is Interval (exactly v)) (is Vector w) (is Matrix w) p.1 no' more in
    length_listing k v p.0 (interval_row y.shape both.0) gv ∙ eqb-true (count v) x.s (agree_apart al sc m (eqb (count v) x.s) agree no' more)
    ∙ sym (vector_row k x.shape x.r x.s ga.fixed_sizes both.1))) xs e

whole_stored : (a b c : Value) → Whole a → WholePlan (stored_at a b c)
whole_stored a b c wa _ _ _ xs e =
    let k = a.layout.kind in
    ok_length (stored a.elements (listing Integer b) (along k (count b) c)) (area a.layout) (length_stored a.elements (listing Integer b) (along k (count b) c) ∙ wa) xs e

whole_stored_two : (a b c d : Value) → Whole a → WholePlan (stored_at_two a b c d)
whole_stored_two a b c d wa _ _ _ xs e =
    let k = a.layout.kind in
    let place = place_of (first b) * a.layout.s + place_of (first c) in
    let x = get_or (elements_of k d) 0 (null_of k) in
    ok_length (set a.elements place x) (area a.layout) (length-set a.elements place x ∙ wa) xs e

-- ---- every expression row
with_gives : (o : Option Value) (f : Value → Outcome) (v : Value) → with o f ≡ gives v → (u : Value) × (o ≡ Some u) × (f u ≡ gives v)
with_gives None f v h = cc
with_gives (Some u) f v h = (u, refl, h)

module _ (W : ℕ) (at : ℕ → Option Value) where
  good_at : (i : ℕ) (u : Value) → WholeAt W at i → at i ≡ Some u → Good u
  good_at i u all e = good W u (all u e).0 (all u e).1

  one_whole : (a : ℕ) (p : Value → Plan) (v : Value) → WholeAt W at a → ((u : Value) → Good u → WholePlan (p u)) → by1 W at a p ≡ gives v → Whole v
  one_whole a p v wa w h =
      let r = with_gives (at a) (λ u. outcome W (p u)) v h in
      whole W (p r.0) v (w r.0 (good_at a r.0 wa r.1)) r.2

  two_whole : (a b : ℕ) (p : Value → Value → Plan) (v : Value) → WholeAt W at a → WholeAt W at b → ((t u : Value) → Good t → Good u → WholePlan (p t u)) → by2 W at a b p ≡ gives v → Whole v
  two_whole a b p v wa wb w h =
      let r = with_gives (at a) (λ t. by1 W at b (p t)) v h in
      one_whole b (p r.0) v wb (λ u g. w r.0 u (good_at a r.0 wa r.1) g) r.2

  three_whole : (a b c : ℕ) (p : Value → Value → Value → Plan) (v : Value) → WholeAt W at a → WholeAt W at b → WholeAt W at c → ((s t u : Value) → Good s → Good t → Good u → WholePlan (p s t u)) → by3 W at a b c p ≡ gives v → Whole v
  three_whole a b c p v wa wb wc w h =
      let r = with_gives (at a) (λ s. by2 W at b c (p s)) v h in
      two_whole b c (p r.0) v wb wc (λ t u g. w r.0 t u (good_at a r.0 wa r.1) g) r.2

  whole_row : (stream : StreamState) (e : Make) (v : Value) → AllWhole W at (make_reads e) → evaluated W at stream e ≡ gives v → Whole v
  whole_row stream (make.Literal k z) v r h = whole W (literal k z) v (λ _ _ _ xs e. ok_length (cast Integer k z ∷ []) 1 refl xs e) h
  whole_row stream (make.Empty k) v r h = whole W (empty k) v (λ _ _ _ xs e. ok_length [] 0 refl xs e) h
  whole_row stream (make.Variable a) v r h = one_whole a copied v r.0 whole_copied h
  whole_row stream (make.Prefix op a) v r h = one_whole a (prefixed op) v r.0 (λ u g. whole_prefix u g op) h
  whole_row stream (make.Infix op a b) v r h = two_whole a b (infixed op) v r.0 r.1.0 (λ t u g k. whole_infixed t u g k op) h
  whole_row stream (make.Interval a b) v r h = two_whole a b interval v r.0 r.1.0 whole_interval h
  whole_row stream (make.Stack a b) v r h = two_whole a b stack v r.0 r.1.0 whole_stack h
  whole_row stream (make.Pick a b) v r h = two_whole a b pick v r.0 r.1.0 whole_pick h
  whole_row stream (make.PickTwo a b c) v r h = three_whole a b c pick_two v r.0 r.1.0 r.1.1.0 (λ s t u g k l. whole_pick_two s t u k l) h
  whole_row stream (make.Measure m a) v r h = one_whole a (measured m) v r.0 (λ u g. whole_measured u g m) h
  whole_row stream (make.Cast k a) v r h = one_whole a (cast_to k) v r.0 (λ u g. whole_cast u g k) h
  whole_row stream (make.Resize a x y) v r h = one_whole a (resized_to x y) v r.0 (λ u g. whole_resized u g x y) h
  whole_row stream make.State v r h = whole W (streamed stream) v (λ _ _ _ xs e. ok_length (pos (state_number stream) ∷ []) 1 refl xs e) h

pub wholes : Wholes
wholes = record {
  expressions = λ W stream at e v all h. whole_row W at stream e v all h;
  nulls = λ W w v h. whole W (nulls w) v (whole_nulls w) h;
  declares = λ W w a v h. whole W (declared w a) v (whole_declared w a) h;
  assigns = λ W a b v la wa lb wb h. whole W (assigned a b) v (whole_assigned a b (good W a la wa) (good W b lb wb)) h;
  stores = λ W a b c v wa h. whole W (stored_at a b c) v (whole_stored a b c wa) h;
  stores_two_whole = λ W a b c d v wa h. whole W (stored_at_two a b c d) v (whole_stored_two a b c d wa) h;
  found = λ W rows s i v roomy inside h. found W rows s roomy i v inside h;
}
