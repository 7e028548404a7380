-- The plan of each row is as check noted the row: of expressions, and of rows that declare, assign and store.
use Rattle.std.proofs.Common.{◌≡◌, ℕ, ◌+◌, max, Bool, true, false, cond, not, ◌&&◌, ◌||◌, eqb, List, [], Some, Ok, Option, Result, sym, refl, ap, ◌∙◌, subst, None}
use Rattle.std.proofs.lemmas.Bool.{and_parts, and_from, eqb-true, eq-eqb}
use Rattle.types.specs.declared.kinds.Kind.{Kind}
use Rattle.types.specs.declared.kinds.Kind.TheVariants.{Boolean, Character, Integer}
use Rattle.types.specs.declared.kinds.Shape.{Shape}
use Rattle.types.specs.declared.kinds.Shape.TheVariants.{Scalar, Vector, Matrix, Interval}
use Rattle.types.specs.declared.typing.Typing.{Typing}
use Rattle.types.specs.Types.{Size, same_shape, is_known, exactly as exact_size, agree, or_else, plus, larger, fits_in}
use Rattle.types.specs.Typings.{typing, scalar, vector, matrix, interval as interval_typing, is, of, flat, alone, index, pairs, type_fits, span, matches, matches_spread, spread}
use Rattle.instruction.specs.declared.instructions.Prefix.{Prefix}
use Rattle.instruction.specs.declared.instructions.Prefix.TheVariants.{Minus, Not}
use Rattle.arithmetic.specs.declared.faults.ElementFault.{ElementFault}
use Rattle.arithmetic.specs.Exact.{exact}
use Rattle.arithmetic.specs.Truths.{ordered, decided}
use Rattle.source.specs.declared.state.StreamState.{StreamState}
use Rattle.instruction.specs.declared.instructions.Equality.{Equality}
use Rattle.instruction.specs.declared.instructions.Infix.{Infix}
use Rattle.instruction.specs.declared.instructions.Infix.TheVariants as family
use Rattle.instruction.specs.declared.instructions.Measure.{Measure as Asked}
use Rattle.instruction.specs.declared.instructions.Measure.TheVariants.{Length, Rows, Columns, Reverse, Single}
use Rattle.instruction.specs.declared.instructions.Expression.{Expression as Make}
use Rattle.instruction.specs.declared.instructions.Expression.TheVariants as make
use Rattle.rules.specs.declared.refusal.Refusal.TheVariants.{Unfit, Sizes}
use Rattle.rules.specs.Rules.{Judged, unless, value, nothing, sized, prefix_rule, elementwise, equality_rule, joins, join_rule, dot_rule, matrix_rule, product_rule, by_rule, infix_rule, interval_rule, stack_rule, pick_rule, picked, pick_two_rule, measure_rule, cast_rule, resize_rule, takes, begins, filled, nulls_rule, declare_rule, assign_rule, store_rule, store_two_rule, make_rule}
use Rattle.checker.specs.Blocks.{typing_of}
use Rattle.checker.proofs.Passes.{unless_ok}
use Rattle.picks.specs.Indices.{spanned}
use Rattle.elementwise.specs.Results.{map2, collected}
use Rattle.meaning.specs.declared.layouts.Layout.{Layout}
use Rattle.meaning.specs.Values.{Cell, layout_of, fixed, within, Value, exactly, first, last}
use Rattle.meaning.specs.Plans.{Plan, Outcome, outcome, simple, with}
use Rattle.meaning.specs.Expressions.{count, pairwise, equated, prefixed, cast_to, joined, multiplied, stepped_by, infixed, interval, stack, pick, pick_two, measured, size_or, resized_to, copied, literal, empty, streamed, by1, by2, by3, evaluated}
use Rattle.meaning.specs.Changes.{nulls, alike, columns_for, declared, assigned, stored_at, stored_at_two}
use Rattle.laws.specs.Fitting.{SizeFits, Held, Ready, AllReady}
use Rattle.laws.specs.Reads.{make_reads}
use Rattle.laws.proofs.Guards.{Safe, Matched, Met, safe, Meets, meets_value, meets_unless, meets_sized, meets_cond}
use Rattle.laws.proofs.Sizes.{fits_either, fits_plus, fits_larger, fits_cond, fits_written, fits_given}
use Rattle.meaning.proofs.Rows.{kinds_equal}
use Rattle.laws.proofs.Wholes.{same_sizes}

-- ---- an operand that is as noted: its note has its own kind and shape
abbrev pub note_of : Value → Size → Size → Typing
note_of v R S = typing v.layout.kind v.layout.shape R S

pub record Operand (v : Value) (R S : Size) : Type 0 where
  pub r : SizeFits R v.layout.r
  pub s : SizeFits S v.layout.s
  pub exists : fixed v.layout ≡ true

pub as_noted : (W : ℕ) (n : Typing) (v : Value) (P : Typing → Type 0) → Held W n v → ((R S : Size) → Operand v R S → P (note_of v R S)) → P n
as_noted W n v P h f =
    let e : note_of v n.r n.s ≡ n = λ i. record { kind = h.fits.kind i; shape = h.fits.shape i; r = n.r; s = n.s } in
    subst P e (f n.r n.s (record { r = h.fits.r; s = h.fits.s; exists = (and_parts (fixed v.layout) (within W v.layout.r v.layout.s) h.exists).0 }))

-- ---- sizes that a shape fixes
fixed_flat : (k l : Kind) (x : Shape) (r s : ℕ) → not (same_shape Interval x) ≡ true → fixed (layout_of k x r s) ≡ true → fixed (layout_of l x r s) ≡ true
fixed_flat k l Scalar r s p h = h
fixed_flat k l Vector r s p h = h
fixed_flat k l Matrix r s p h = h
fixed_flat k l Interval r s p h = cc

fixed_cond : (t : Bool) (k : Kind) (x y : Shape) (r q s p : ℕ) → fixed (layout_of k x r s) ≡ true → fixed (layout_of k y q p) ≡ true → fixed (layout_of k (cond t x y) (cond t r q) (cond t s p)) ≡ true
fixed_cond true k x y r q s p h g = h
fixed_cond false k x y r q s p h g = g

-- a layout with the sizes of its note
matched_known : (k : Kind) (x : Shape) (R S : Size) (r s : ℕ) (b : Bool) → SizeFits R r → SizeFits S s → Matched (typing k x R S) (layout_of k x r s) b
matched_known k x R S r s b p q = record { kind = refl; shape = refl; r = λ _. p; s = λ _. q }

-- ---- two operands, element by element
matched_spread : (x y eq : Bool) (k : Kind) (xa xb : Shape) (Ra Sa Rb Sb : Size) (ra sa rb sb : ℕ) → (eq ≡ true → (ra ≡ rb) × (sa ≡ sb))
    → SizeFits Ra ra → SizeFits Sa sa → SizeFits Rb rb → SizeFits Sb sb
    → Matched (cond x (typing k xb Rb Sb) (cond y (typing k xa Ra Sa) (typing k xa (or_else Ra Rb) (or_else Sa Sb)))) (layout_of k (cond x xb xa) (cond x rb ra) (cond x sb sa)) (x || (y || eq))
matched_spread true y eq k xa xb Ra Sa Rb Sb ra sa rb sb e p q u v = matched_known k xb Rb Sb rb sb true u v
matched_spread false true eq k xa xb Ra Sa Rb Sb ra sa rb sb e p q u v = matched_known k xa Ra Sa ra sa true p q
matched_spread false false eq k xa xb Ra Sa Rb Sb ra sa rb sb e p q u v =
    record { kind = refl; shape = refl; r = λ h. fits_either Ra Rb ra rb p u (e h).0; s = λ h. fits_either Sa Sb sa sb q v (e h).1 }

-- ---- one operand
resize_fixed : (k : Kind) (x : Shape) (R S : Size) → (same_shape Vector x || same_shape Matrix x) ≡ true → (same_shape Matrix x || exact_size 1 R) ≡ true → fixed (layout_of k x (size_or R 0) (size_or S 0)) ≡ true
resize_fixed k Scalar R S h g = cc
resize_fixed k Vector None S h g = cc
resize_fixed k Vector (Some r) S h g = g
resize_fixed k Matrix R S h g = refl
resize_fixed k Interval R S h g = cc

module _ (W : ℕ) (a : Value) (Ra Sa : Size) (oa : Operand a Ra Sa) where
  meets_prefix : (op : Prefix) → Meets (prefix_rule op (note_of a Ra Sa)) (prefixed op a)
  meets_prefix Minus = meets_unless (of Integer (exactly a) && flat (exactly a)) Unfit (value (note_of a Ra Sa)) (prefixed Minus a) (λ ok.
      let p = and_parts (of Integer (exactly a)) (flat (exactly a)) ok in
      meets_value (note_of a Ra Sa) (prefixed Minus a) (record {
        ruled = ok;
        exists = fixed_flat a.layout.kind Integer a.layout.shape a.layout.r a.layout.s p.1 oa.exists;
        matched = record { kind = kinds_equal Integer a.layout.kind p.0; shape = refl; r = λ _. oa.r; s = λ _. oa.s };
      }))
  meets_prefix Not = meets_unless (of Boolean (exactly a) && flat (exactly a)) Unfit (value (note_of a Ra Sa)) (prefixed Not a) (λ ok.
      let p = and_parts (of Boolean (exactly a)) (flat (exactly a)) ok in
      meets_value (note_of a Ra Sa) (prefixed Not a) (record {
        ruled = ok;
        exists = fixed_flat a.layout.kind Boolean a.layout.shape a.layout.r a.layout.s p.1 oa.exists;
        matched = record { kind = kinds_equal Boolean a.layout.kind p.0; shape = refl; r = λ _. oa.r; s = λ _. oa.s };
      }))

  meets_cast : (k : Kind) → Meets (cast_rule k (note_of a Ra Sa)) (cast_to k a)
  meets_cast k = meets_unless (flat (exactly a)) Unfit (value (typing k a.layout.shape Ra Sa)) (cast_to k a) (λ ok.
      meets_value (typing k a.layout.shape Ra Sa) (cast_to k a) (record {
        ruled = ok;
        exists = fixed_flat a.layout.kind k a.layout.shape a.layout.r a.layout.s ok oa.exists;
        matched = matched_known k a.layout.shape Ra Sa a.layout.r a.layout.s true oa.r oa.s;
      }))

  meets_measured : (m : Asked) → Meets (measure_rule m (note_of a Ra Sa)) (measured m a)
  meets_measured Length = meets_unless (is Vector (exactly a)) Unfit (value (scalar Integer)) (measured Length a) (λ ok. meets_value (scalar Integer) (measured Length a) (record { ruled = ok; exists = refl; matched = matched_known Integer Scalar (Some 1) (Some 1) 1 1 true refl refl }))
  meets_measured Rows = meets_unless (is Matrix (exactly a)) Unfit (value (scalar Integer)) (measured Rows a) (λ ok. meets_value (scalar Integer) (measured Rows a) (record { ruled = ok; exists = refl; matched = matched_known Integer Scalar (Some 1) (Some 1) 1 1 true refl refl }))
  meets_measured Columns = meets_unless (is Matrix (exactly a)) Unfit (value (scalar Integer)) (measured Columns a) (λ ok. meets_value (scalar Integer) (measured Columns a) (record { ruled = ok; exists = refl; matched = matched_known Integer Scalar (Some 1) (Some 1) 1 1 true refl refl }))
  meets_measured Reverse = meets_unless (is Vector (exactly a)) Unfit (value (note_of a Ra Sa)) (measured Reverse a) (λ ok.
      meets_value (note_of a Ra Sa) (measured Reverse a) (record { ruled = ok; exists = oa.exists; matched = record { kind = refl; shape = refl; r = λ _. oa.r; s = λ _. oa.s } }))
  meets_measured Single = meets_unless (is Scalar (exactly a)) Unfit (value (vector a.layout.kind (Some 1))) (measured Single a) (λ ok.
      meets_value (vector a.layout.kind (Some 1)) (measured Single a) (record { ruled = ok; exists = refl; matched = matched_known a.layout.kind Vector (Some 1) (Some 1) 1 1 true refl refl }))

  meets_copied : Meets (value (note_of a Ra Sa)) (copied a)
  meets_copied = meets_value (note_of a Ra Sa) (copied a) (record { ruled = refl; exists = oa.exists; matched = record { kind = refl; shape = refl; r = λ _. oa.r; s = λ _. oa.s } })

  meets_resized : (R S : Size) → Meets (resize_rule W R S (note_of a Ra Sa)) (resized_to R S a)
  meets_resized R S =
      let t = exactly a in
      let k = a.layout.kind in
      let x = a.layout.shape in
      let asked = is_known R && (is_known S && (is Matrix t || exact_size 1 R)) in
      meets_unless (is Vector t || is Matrix t) Unfit (unless asked Sizes (sized W (typing k x R S))) (resized_to R S a) (λ ok.
      meets_unless asked Sizes (sized W (typing k x R S)) (resized_to R S a) (λ more.
      let one = and_parts (is_known S) (is Matrix t || exact_size 1 R) (and_parts (is_known R) (is_known S && (is Matrix t || exact_size 1 R)) more).1 in
      meets_sized W (typing k x R S) (resized_to R S a) (record {
        ruled = and_from (is Vector t || is Matrix t) asked ok more;
        exists = resize_fixed k x R S ok one.1;
        matched = matched_known k x R S (size_or R 0) (size_or S 0) true (fits_given R 0) (fits_given S 0);
      })))

-- ---- two operands
one_count : (k : Kind) (y : Shape) (r s m : ℕ) → fixed (layout_of k y r s) ≡ true → same_shape Scalar y ≡ true → cond (same_shape Interval y) m s ≡ 1
one_count k Scalar r s m h t = eqb-true s 1 (and_parts (eqb r 1) (eqb s 1) h).1
one_count k Vector r s m h t = cc
one_count k Matrix r s m h t = cc
one_count k Interval r s m h t = cc

pick_fixed : (t : Bool) (k : Kind) (c : ℕ) → (t ≡ true → c ≡ 1) → fixed (layout_of k (cond t Scalar Vector) 1 c) ≡ true
pick_fixed true k c e = eq-eqb c 1 (e refl)
pick_fixed false k c e = refl

pick_matched : (t : Bool) (k : Kind) (S : Size) (c : ℕ) → (t ≡ true → c ≡ 1) → SizeFits S c → Matched (cond t (scalar k) (vector k S)) (layout_of k (cond t Scalar Vector) 1 c) true
pick_matched true k S c e p = matched_known k Scalar (Some 1) (Some 1) 1 c true refl (sym (e refl))
pick_matched false k S c e p = matched_known k Vector (Some 1) S 1 c true refl p

pick_two_fixed : (t u : Bool) (k : Kind) (b c : ℕ) → (t ≡ true → b ≡ 1) → fixed (layout_of k (cond t (cond u Scalar Vector) (cond u Vector Matrix)) (cond u 1 b) (cond u b c)) ≡ true
pick_two_fixed true true k b c e = eq-eqb b 1 (e refl)
pick_two_fixed true false k b c e = eq-eqb b 1 (e refl)
pick_two_fixed false true k b c e = refl
pick_two_fixed false false k b c e = refl

pick_two_matched : (t u : Bool) (k : Kind) (S T : Size) (b c : ℕ) → (t ≡ true → b ≡ 1) → SizeFits S b → SizeFits T c
    → Matched (cond t (cond u (scalar k) (vector k T)) (cond u (vector k S) (matrix k S T))) (layout_of k (cond t (cond u Scalar Vector) (cond u Vector Matrix)) (cond u 1 b) (cond u b c)) true
pick_two_matched true true k S T b c e p q = matched_known k Scalar (Some 1) (Some 1) 1 b true refl (sym (e refl))
pick_two_matched true false k S T b c e p q = matched_known k Vector (Some 1) T b c true (sym (e refl)) q
pick_two_matched false true k S T b c e p q = matched_known k Vector (Some 1) S 1 b true refl p
pick_two_matched false false k S T b c e p q = matched_known k Matrix S T b c true p q

product_dot : (v : Bool) (r s : ℕ) (b : Bool) → v ≡ true → Matched (scalar Integer) (layout_of Integer (cond v Scalar Matrix) (cond v 1 r) (cond v 1 s)) b
product_dot true r s b h = matched_known Integer Scalar (Some 1) (Some 1) 1 1 b refl refl
product_dot false r s b h = cc

product_matrix : (v : Bool) (R S : Size) (r s : ℕ) (b : Bool) → v ≡ false → SizeFits R r → SizeFits S s → Matched (matrix Integer R S) (layout_of Integer (cond v Scalar Matrix) (cond v 1 r) (cond v 1 s)) b
product_matrix true R S r s b h p q = cc
product_matrix false R S r s b h p q = matched_known Integer Matrix R S r s b p q

fits_count : (b : Value) (R S : Size) → Operand b R S → SizeFits (span (note_of b R S)) (count b)
fits_count b R S ob = fits_cond (is Interval (exactly b)) None S (spanned (first b) (last b)) b.layout.s tt ob.s

count_one : (b : Value) (R S : Size) → Operand b R S → is Scalar (exactly b) ≡ true → count b ≡ 1
count_one b R S ob t = one_count b.layout.kind b.layout.shape b.layout.r b.layout.s (spanned (first b) (last b)) ob.exists t

module _ (W : ℕ) (a b : Value) (Ra Sa Rb Sb : Size) (oa : Operand a Ra Sa) (ob : Operand b Rb Sb) where
  meets_pair : (k l : Kind) (f : List (Cell k) → List (Cell k) → Result (List (Cell l)) ElementFault) → Meets (elementwise W k l (note_of a Ra Sa) (note_of b Rb Sb)) (pairwise k l f a b)
  meets_pair k l f =
      let t = note_of a Ra Sa in
      let u = note_of b Rb Sb in
      let x = a.layout in
      let y = b.layout in
      let rest = is Scalar t || (is Scalar u || same_shape x.shape y.shape) in
      let eq = eqb x.r y.r && eqb x.s y.s in
      meets_unless (of k t && (of k u && pairs t u)) Unfit (unless (matches_spread t u) Sizes (sized W (spread l t u))) (pairwise k l f a b) (λ ok.
      meets_unless (matches_spread t u) Sizes (sized W (spread l t u)) (pairwise k l f a b) (λ _.
      let two = (and_parts (of k u) (pairs t u) (and_parts (of k t) (of k u && pairs t u) ok).1).1 in
      let px = and_parts (flat t) (flat u && rest) two in
      let py = and_parts (flat u) rest px.1 in
      meets_sized W (spread l t u) (pairwise k l f a b) (record {
        ruled = ok;
        exists = fixed_cond (is Scalar t) l y.shape x.shape y.r x.r y.s x.s
            (fixed_flat y.kind l y.shape y.r y.s py.0 ob.exists) (fixed_flat x.kind l x.shape x.r x.s px.0 oa.exists);
        matched = matched_spread (is Scalar t) (is Scalar u) eq l x.shape y.shape Ra Sa Rb Sb x.r x.s y.r y.s (same_sizes x.r y.r x.s y.s) oa.r oa.s ob.r ob.s;
      })))

  meets_equated : (op : Equality) → Meets (equality_rule (note_of a Ra Sa) (note_of b Rb Sb)) (equated op a b)
  meets_equated op =
      let t = note_of a Ra Sa in
      let u = note_of b Rb Sb in
      meets_unless (of t.kind u && (pairs t u || (is Interval t && is Interval u))) Unfit (unless (matches_spread t u) Sizes (value (scalar Boolean))) (equated op a b) (λ ok.
      meets_unless (matches_spread t u) Sizes (value (scalar Boolean)) (equated op a b) (λ _.
      meets_value (scalar Boolean) (equated op a b) (record { ruled = ok; exists = refl; matched = matched_known Boolean Scalar (Some 1) (Some 1) 1 1 (matches_spread (exactly a) (exactly b)) refl refl })))

  meets_joined : Meets (join_rule W (note_of a Ra Sa) (note_of b Rb Sb)) (joined a b)
  meets_joined =
      let t = note_of a Ra Sa in
      let u = note_of b Rb Sb in
      let k = a.layout.kind in
      meets_unless (of t.kind u && (joins t && joins u)) Unfit (sized W (vector k (plus Sa Sb))) (joined a b) (λ ok.
      meets_sized W (vector k (plus Sa Sb)) (joined a b) (record {
        ruled = ok;
        exists = refl;
        matched = matched_known k Vector (Some 1) (plus Sa Sb) 1 (a.layout.s + b.layout.s) true refl (fits_plus Sa Sb a.layout.s b.layout.s oa.s ob.s);
      }))

  meets_multiplied : Meets (product_rule W (note_of a Ra Sa) (note_of b Rb Sb)) (multiplied a b)
  meets_multiplied =
      let t = note_of a Ra Sa in
      let u = note_of b Rb Sb in
      let v = is Vector t in
      let p = multiplied a b in
      meets_unless (of Integer t && (of Integer u && ((is Vector t && is Vector u) || (is Matrix t && is Matrix u)))) Unfit (cond v (dot_rule t u) (matrix_rule W t u)) p (λ ok.
      let exists = fixed_cond v Integer Scalar Matrix 1 a.layout.r 1 b.layout.s refl refl in
      meets_cond v (dot_rule t u) (matrix_rule W t u) p
      (λ yes. meets_unless (agree Sa Sb) Sizes (value (scalar Integer)) p (λ _. meets_value (scalar Integer) p (record {
        ruled = ok;
        exists = exists;
        matched = product_dot v a.layout.r b.layout.s p.agree yes;
      })))
      (λ no'. meets_unless (agree Sa Rb) Sizes (sized W (matrix Integer Ra Sb)) p (λ _. meets_sized W (matrix Integer Ra Sb) p (record {
        ruled = ok;
        exists = exists;
        matched = product_matrix v Ra Sb a.layout.r b.layout.s p.agree no' oa.r ob.s;
      }))))

  meets_stepped : Meets (by_rule (note_of a Ra Sa) (note_of b Rb Sb)) (stepped_by a b)
  meets_stepped =
      let t = note_of a Ra Sa in
      let k = a.layout.kind in
      meets_unless ((is Vector t || is Interval t) && alone Integer (note_of b Rb Sb)) Unfit (value (vector k None)) (stepped_by a b) (λ ok.
      meets_value (vector k None) (stepped_by a b) (record { ruled = ok; exists = refl; matched = matched_known k Vector (Some 1) None 1 (stepped_by a b).layout.s true refl tt }))

  meets_infixed : (op : Infix) → Meets (infix_rule W op (note_of a Ra Sa) (note_of b Rb Sb)) (infixed op a b)
  meets_infixed (family.Arithmetic op) = meets_pair Integer Integer (λ xs ys. collected 1 (map2 (exact op) xs ys))
  meets_infixed (family.Order op) = meets_pair Integer Boolean (λ xs ys. Ok (map2 (ordered op) xs ys))
  meets_infixed (family.Logic op) = meets_pair Boolean Boolean (λ xs ys. Ok (map2 (decided op) xs ys))
  meets_infixed (family.Equality op) = meets_equated op
  meets_infixed family.Join = meets_joined
  meets_infixed family.Product = meets_multiplied
  meets_infixed family.By = meets_stepped

  meets_interval : Meets (interval_rule (note_of a Ra Sa) (note_of b Rb Sb)) (interval a b)
  meets_interval = meets_unless (alone Integer (note_of a Ra Sa) && alone Integer (note_of b Rb Sb)) Unfit (value interval_typing) (interval a b) (λ ok.
      meets_value interval_typing (interval a b) (record { ruled = ok; exists = refl; matched = matched_known Integer Interval (Some 1) (Some 2) 1 2 true refl refl }))

  meets_stack : Meets (stack_rule W (note_of a Ra Sa) (note_of b Rb Sb)) (stack a b)
  meets_stack =
      let t = note_of a Ra Sa in
      let u = note_of b Rb Sb in
      let k = a.layout.kind in
      let n = matrix k (plus Ra (Some 1)) (larger Sa Sb) in
      meets_unless (of t.kind u && ((is Vector t || is Matrix t) && is Vector u)) Unfit (sized W n) (stack a b) (λ ok.
      meets_sized W n (stack a b) (record {
        ruled = ok;
        exists = refl;
        matched = matched_known k Matrix (plus Ra (Some 1)) (larger Sa Sb) (a.layout.r + 1) (max a.layout.s b.layout.s) true
            (fits_plus Ra (Some 1) a.layout.r 1 oa.r refl) (fits_larger Sa Sb a.layout.s b.layout.s oa.s ob.s);
      }))

  meets_pick : Meets (pick_rule (note_of a Ra Sa) (note_of b Rb Sb)) (pick a b)
  meets_pick =
      let u = note_of b Rb Sb in
      let k = a.layout.kind in
      let n = cond (is Scalar u) (scalar k) (vector k (span u)) in
      meets_unless (is Vector (note_of a Ra Sa) && index u) Unfit (value n) (pick a b) (λ ok.
      meets_value n (pick a b) (record {
        ruled = ok;
        exists = pick_fixed (is Scalar u) k (count b) (count_one b Rb Sb ob);
        matched = pick_matched (is Scalar u) k (span u) (count b) (count_one b Rb Sb ob) (fits_count b Rb Sb ob);
      }))

-- ---- three operands
meets_pick_two : (W : ℕ) (a b c : Value) (Ra Sa Rb Sb Rc Sc : Size) → Operand b Rb Sb → Operand c Rc Sc → Meets (pick_two_rule W (note_of a Ra Sa) (note_of b Rb Sb) (note_of c Rc Sc)) (pick_two a b c)
meets_pick_two W a b c Ra Sa Rb Sb Rc Sc ob oc =
    let u = note_of b Rb Sb in
    let v = note_of c Rc Sc in
    let k = a.layout.kind in
    meets_unless (is Matrix (note_of a Ra Sa) && (index u && index v)) Unfit (sized W (picked k u v)) (pick_two a b c) (λ ok.
    meets_sized W (picked k u v) (pick_two a b c) (record {
      ruled = ok;
      exists = pick_two_fixed (is Scalar u) (is Scalar v) k (count b) (count c) (count_one b Rb Sb ob);
      matched = pick_two_matched (is Scalar u) (is Scalar v) k (span u) (span v) (count b) (count c) (count_one b Rb Sb ob) (fits_count b Rb Sb ob) (fits_count c Rc Sc oc);
    }))

-- ---- no operand
meets_constant : (k : Kind) (x : Shape) (r s : ℕ) (xs : Result (List (Cell k)) ElementFault) → fixed (layout_of k x r s) ≡ true → Meets (value (typing k x (Some r) (Some s))) (simple true (layout_of k x r s) xs)
meets_constant k x r s xs h = meets_value (typing k x (Some r) (Some s)) (simple true (layout_of k x r s) xs) (record { ruled = refl; exists = h; matched = matched_known k x (Some r) (Some s) r s true refl refl })

-- ---- every expression row
safe_with : (W : ℕ) (n : Typing) (o : Option Value) (f : Value → Outcome) (v : Value) → o ≡ Some v → Safe W n (f v) → Safe W n (with o f)
safe_with W n o f v e h = subst (λ (p : Option Value). Safe W n (with p f)) (sym e) h

module _ (W : ℕ) (at : ℕ → Option Value) (notes : ℕ → Typing) where
  one_safe : (a : ℕ) (j : Typing → Judged) (p : Value → Plan) → ((v : Value) (R S : Size) → Operand v R S → Meets (j (note_of v R S)) (p v))
      → (m : Option Typing) → Ready W notes at a → j (notes a) ≡ Ok m → Safe W (typing_of m) (by1 W at a p)
  one_safe a j p meets m ra h =
      let v = ra.0 in
      safe_with W (typing_of m) (at a) (λ v. outcome W (p v)) v ra.1
      (as_noted W (notes a) v (λ (t : Typing). j t ≡ Ok m → Safe W (typing_of m) (outcome W (p v))) ra.2 (λ R S o g. safe W (typing_of m) (p v) (meets v R S o m g)) h)

  two_safe : (a b : ℕ) (j : Typing → Typing → Judged) (p : Value → Value → Plan)
      → ((v w : Value) (R S Q T : Size) → Operand v R S → Operand w Q T → Meets (j (note_of v R S) (note_of w Q T)) (p v w))
      → (m : Option Typing) → Ready W notes at a → Ready W notes at b → j (notes a) (notes b) ≡ Ok m → Safe W (typing_of m) (by2 W at a b p)
  two_safe a b j p meets m ra rb h =
      let v = ra.0 in
      safe_with W (typing_of m) (at a) (λ v. by1 W at b (p v)) v ra.1
      (as_noted W (notes a) v (λ (t : Typing). j t (notes b) ≡ Ok m → Safe W (typing_of m) (by1 W at b (p v))) ra.2
      (λ R S o. one_safe b (j (note_of v R S)) (p v) (λ w Q T. meets v w R S Q T o) m rb) h)

  three_safe : (a b c : ℕ) (j : Typing → Typing → Typing → Judged) (p : Value → Value → Value → Plan)
      → ((u v w : Value) (R S Q T X Y : Size) → Operand u R S → Operand v Q T → Operand w X Y → Meets (j (note_of u R S) (note_of v Q T) (note_of w X Y)) (p u v w))
      → (m : Option Typing) → Ready W notes at a → Ready W notes at b → Ready W notes at c → j (notes a) (notes b) (notes c) ≡ Ok m → Safe W (typing_of m) (by3 W at a b c p)
  three_safe a b c j p meets m ra rb rc h =
      let u = ra.0 in
      safe_with W (typing_of m) (at a) (λ u. by2 W at b c (p u)) u ra.1
      (as_noted W (notes a) u (λ (t : Typing). j t (notes b) (notes c) ≡ Ok m → Safe W (typing_of m) (by2 W at b c (p u))) ra.2
      (λ R S o. two_safe b c (j (note_of u R S)) (p u) (λ v w Q T X Y. meets u v w R S Q T X Y o) m rb rc) h)

  pub expression_safe : (head : Typing) (stream : StreamState) (e : Make) (m : Option Typing) → AllReady W notes at (make_reads e) → make_rule W head notes e ≡ Ok m → Safe W (typing_of m) (evaluated W at stream e)
  expression_safe head stream (make.Literal k z) m r h = safe W (typing_of m) (literal k z) (meets_constant k Scalar 1 1 (literal k z).elements refl m h)
  expression_safe head stream (make.Empty k) m r h = safe W (typing_of m) (empty k) (meets_constant k Vector 1 0 (Ok []) refl m h)
  expression_safe head stream (make.Variable a) m r h = one_safe a value copied (meets_copied W) m r.0 h
  expression_safe head stream (make.Prefix op a) m r h = one_safe a (prefix_rule op) (prefixed op) (λ v R S o. meets_prefix W v R S o op) m r.0 h
  expression_safe head stream (make.Infix op a b) m r h = two_safe a b (infix_rule W op) (infixed op) (λ v w R S Q T o q. meets_infixed W v w R S Q T o q op) m r.0 r.1.0 h
  expression_safe head stream (make.Interval a b) m r h = two_safe a b interval_rule interval (meets_interval W) m r.0 r.1.0 h
  expression_safe head stream (make.Stack a b) m r h = two_safe a b (stack_rule W) stack (meets_stack W) m r.0 r.1.0 h
  expression_safe head stream (make.Pick a b) m r h = two_safe a b pick_rule pick (meets_pick W) m r.0 r.1.0 h
  expression_safe head stream (make.PickTwo a b c) m r h = three_safe a b c (pick_two_rule W) pick_two (λ u v w R S Q T X Y o p q. meets_pick_two W u v w R S Q T X Y p q) m r.0 r.1.0 r.1.1.0 h
  expression_safe head stream (make.Measure k a) m r h = one_safe a (measure_rule k) (measured k) (λ v R S o. meets_measured W v R S o k) m r.0 h
  expression_safe head stream (make.Cast k a) m r h = one_safe a (cast_rule k) (cast_to k) (λ v R S o. meets_cast W v R S o k) m r.0 h
  expression_safe head stream (make.Resize a x y) m r h = one_safe a (resize_rule W x y) (resized_to x y) (λ v R S o. meets_resized W v R S o x y) m r.0 h
  expression_safe head stream make.State m r h = safe W (typing_of m) (streamed stream) (meets_constant Integer Scalar 1 1 (streamed stream).elements refl m h)

-- ---- rows that declare
size_written : (n : ℕ) (w : Size) (m : ℕ) → exact_size n w ≡ true → eqb (size_or w m) n ≡ true
size_written n (Some x) m h = h
size_written n None m h = cc

written_fixed : (k : Kind) (x : Shape) (R S : Size) (r s : ℕ) → type_fits k x R S ≡ true → fixed (layout_of k x (size_or R r) (size_or S s)) ≡ true
written_fixed k Scalar R S r s h =
    let p = and_parts (exact_size 1 R) (exact_size 1 S) h in
    and_from (eqb (size_or R r) 1) (eqb (size_or S s) 1) (size_written 1 R r p.0) (size_written 1 S s p.1)
written_fixed k Vector R S r s h = size_written 1 R r h
written_fixed k Matrix R S r s h = refl
written_fixed Boolean Interval R S r s h = cc
written_fixed Character Interval R S r s h = cc
written_fixed Integer Interval R S r s h =
    let p = and_parts (exact_size 1 R) (exact_size 2 S) h in
    and_from (eqb (size_or R r) 1) (eqb (size_or S s) 2) (size_written 1 R r p.0) (size_written 2 S s p.1)

abbrev pub Writes : Typing → Type 0
Writes w = type_fits w.kind w.shape w.r w.s ≡ true

meets_nulls : (W : ℕ) (w : Typing) → Writes w → Meets (nulls_rule W w) (nulls w)
meets_nulls W w law =
    meets_unless (is_known w.r && is_known w.s) Sizes (sized W w) (nulls w) (λ ok. meets_sized W w (nulls w) (record {
      ruled = ok;
      exists = written_fixed w.kind w.shape w.r w.s 0 0 law;
      matched = record { kind = refl; shape = refl; r = λ _. fits_given w.r 0; s = λ _. fits_given w.s 0 };
    }))

filled_known : (al sc fit known : Bool) → cond al fit (cond sc known true) ≡ true → (not (not al && sc) || known) ≡ true
filled_known true sc fit known h = refl
filled_known false true fit known h = h
filled_known false false fit known h = refl

filled_matched : (al b : Bool) (w : Typing) (R S : Size) (r s c : ℕ) → SizeFits R r → SizeFits S s
    → Matched (cond al (typing w.kind w.shape (or_else w.r R) (or_else w.s S)) w) (layout_of w.kind w.shape (size_or w.r r) (size_or w.s (cond al s c))) b
filled_matched true b w R S r s c p q = matched_known w.kind w.shape (or_else w.r R) (or_else w.s S) (size_or w.r r) (size_or w.s s) b (fits_written w.r R r p) (fits_written w.s S s q)
filled_matched false b w R S r s c p q = record { kind = refl; shape = refl; r = λ _. fits_given w.r r; s = λ _. fits_given w.s c }

meets_declared : (W : ℕ) (w : Typing) → Writes w → (v : Value) (R S : Size) → Operand v R S → Meets (declare_rule W w (note_of v R S)) (declared w v)
meets_declared W w law v R S o =
    let u = note_of v R S in
    let p = declared w v in
    let al = alike w v in
    let sc = is Scalar u in
    let known = is_known w.r && is_known w.s in
    meets_unless (takes w u) Unfit (unless (begins w u) Sizes (sized W (filled w u))) p (λ ok.
    meets_unless (begins w u) Sizes (sized W (filled w u)) p (λ more.
    meets_sized W (filled w u) p (record {
      ruled = and_from (takes w u) (not (not al && sc) || known) ok (filled_known al sc (fits_in R w.r && fits_in S w.s) known more);
      exists = written_fixed w.kind w.shape w.r w.s v.layout.r (columns_for w v) law;
      matched = filled_matched al p.agree w R S v.layout.r v.layout.s (count v) o.r o.s;
    })))

-- ---- rows that assign and store: the variable's layout stays
kept : (a : Value) (R S : Size) (p : Plan) → Operand a R S → p.ruled ≡ true → p.layout ≡ a.layout → Met (note_of a R S) p
kept a R S p o ruled same = record {
  ruled = ruled;
  exists = ap fixed same ∙ o.exists;
  matched = record {
    kind = ap (λ (f : Layout). f.kind) same;
    shape = ap (λ (f : Layout). f.shape) same;
    r = λ _. subst (λ (f : Layout). SizeFits R f.r) (sym same) o.r;
    s = λ _. subst (λ (f : Layout). SizeFits S f.s) (sym same) o.s;
  };
}

module _ (W : ℕ) where
  pub nulls_safe : (w : Typing) (m : Option Typing) → Writes w → nulls_rule W w ≡ Ok m → Safe W (typing_of m) (outcome W (nulls w))
  nulls_safe w m law h = safe W (typing_of m) (nulls w) (meets_nulls W w law m h)

  pub declare_safe : (w : Typing) (v : Value) (n : Typing) (m : Option Typing) → Writes w → Held W n v → declare_rule W w n ≡ Ok m → Safe W (typing_of m) (outcome W (declared w v))
  declare_safe w v n m law held h =
      as_noted W n v (λ (t : Typing). declare_rule W w t ≡ Ok m → Safe W (typing_of m) (outcome W (declared w v))) held (λ R S o g. safe W (typing_of m) (declared w v) (meets_declared W w law v R S o m g)) h

  pub assign_safe : (a v : Value) (k n : Typing) (m : Option Typing) → Held W k a → Held W n v → assign_rule k n ≡ Ok m → Safe W k (outcome W (assigned a v))
  assign_safe a v k n m ha hv h =
      as_noted W k a (λ (x : Typing). assign_rule x n ≡ Ok m → Safe W x (outcome W (assigned a v))) ha (λ R S o.
      as_noted W n v (λ (y : Typing). assign_rule (note_of a R S) y ≡ Ok m → Safe W (note_of a R S) (outcome W (assigned a v))) hv (λ Q T q g.
      let t = note_of a R S in
      let u = note_of v Q T in
      let rest = unless (not (same_shape t.shape u.shape) || matches t u) Sizes nothing in
      safe W t (assigned a v) (kept a R S (assigned a v) o (unless_ok (takes t u) Unfit rest m g).0 refl))) h

  pub store_safe : (a b c : Value) (k l n : Typing) (m : Option Typing) → Held W k a → Held W l b → Held W n c → store_rule k l n ≡ Ok m → Safe W k (outcome W (stored_at a b c))
  store_safe a b c k l n m ha hb hc h =
      as_noted W k a (λ (x : Typing). store_rule x l n ≡ Ok m → Safe W x (outcome W (stored_at a b c))) ha (λ R S o.
      as_noted W l b (λ (y : Typing). store_rule (note_of a R S) y n ≡ Ok m → Safe W (note_of a R S) (outcome W (stored_at a b c))) hb (λ Q T q.
      as_noted W n c (λ (z : Typing). store_rule (note_of a R S) (note_of b Q T) z ≡ Ok m → Safe W (note_of a R S) (outcome W (stored_at a b c))) hc (λ X Y p g.
      let t = note_of a R S in
      let u = note_of b Q T in
      let v = note_of c X Y in
      let test = is Vector t && (index u && (of t.kind v && (is Scalar v || (is Vector v && not (is Scalar u))))) in
      let rest = unless (is Scalar v || agree (span u) v.s) Sizes nothing in
      safe W t (stored_at a b c) (kept a R S (stored_at a b c) o (unless_ok test Unfit rest m g).0 refl)))) h

  pub store_two_safe : (a b c d : Value) (k l n q : Typing) (m : Option Typing) → Held W k a → Held W l b → Held W n c → Held W q d → store_two_rule k l n q ≡ Ok m → Safe W k (outcome W (stored_at_two a b c d))
  store_two_safe a b c d k l n q m ha hb hc hd h =
      as_noted W k a (λ (w : Typing). store_two_rule w l n q ≡ Ok m → Safe W w (outcome W (stored_at_two a b c d))) ha (λ R S o.
      as_noted W l b (λ (x : Typing). store_two_rule (note_of a R S) x n q ≡ Ok m → Safe W (note_of a R S) (outcome W (stored_at_two a b c d))) hb (λ Q T _.
      as_noted W n c (λ (y : Typing). store_two_rule (note_of a R S) (note_of b Q T) y q ≡ Ok m → Safe W (note_of a R S) (outcome W (stored_at_two a b c d))) hc (λ X Y _.
      as_noted W q d (λ (z : Typing). store_two_rule (note_of a R S) (note_of b Q T) (note_of c X Y) z ≡ Ok m → Safe W (note_of a R S) (outcome W (stored_at_two a b c d))) hd (λ U V _ g.
      let t = note_of a R S in
      let u = note_of b Q T in
      let v = note_of c X Y in
      let test = is Matrix t && (alone Integer u && (alone Integer v && alone t.kind (note_of d U V))) in
      safe W t (stored_at_two a b c d) (kept a R S (stored_at_two a b c d) o (unless_ok test Unfit nothing m g).0 refl))))) h
