-- What each expression row gives.
use Rattle.std.specs.Prelude.{ℕ, ◌+◌, max, Bool, true, cond, not, ◌&&◌, ◌||◌, List, [], ◌∷◌, ◌++◌, map, reverse, ℤ, pos, None, Ok, Option, Result, ◌==◌, int_le, Some}
use Rattle.types.specs.declared.kinds.Kind.{Kind}
use Rattle.types.specs.declared.kinds.Kind.TheVariants.{Boolean, Character, Integer}
use Rattle.types.specs.declared.kinds.Shape.{Shape}
use Rattle.types.specs.declared.kinds.Shape.TheVariants.{Scalar, Vector, Matrix, Interval}
use Rattle.types.specs.Types.{Size, is_known, exactly as exact_size}
use Rattle.types.specs.Typings.{is, of, flat, alone, index, pairs, matches_spread}
use Rattle.instruction.specs.declared.instructions.Prefix.{Prefix}
use Rattle.instruction.specs.declared.instructions.Prefix.TheVariants.{Minus, Not}
use Rattle.arithmetic.specs.declared.integers.Arithmetic.{Arithmetic}
use Rattle.arithmetic.specs.declared.truths.Order.{Order}
use Rattle.arithmetic.specs.declared.truths.Logic.{Logic}
use Rattle.arithmetic.specs.declared.faults.ElementFault.{ElementFault}
use Rattle.arithmetic.specs.Exact.{exact, negated}
use Rattle.arithmetic.specs.Truths.{ordered, decided}
use Rattle.source.specs.declared.state.StreamState.{StreamState}
use Rattle.source.specs.States.{state_number}
use Rattle.instruction.specs.declared.instructions.Equality.{Equality}
use Rattle.instruction.specs.declared.instructions.Equality.TheVariants.{Equal, Unequal}
use Rattle.instruction.specs.declared.instructions.Infix.{Infix}
use Rattle.instruction.specs.declared.instructions.Infix.TheVariants as family
use Rattle.instruction.specs.declared.instructions.Measure.{Measure as Asked}
use Rattle.instruction.specs.declared.instructions.Measure.TheVariants.{Length, Rows, Columns, Reverse, Single}
use Rattle.instruction.specs.declared.instructions.Expression.{Expression as Make}
use Rattle.instruction.specs.declared.instructions.Expression.TheVariants as make
use Rattle.rules.specs.Rules.{joins}
use Rattle.element.specs.Cells.{rows_of}
use Rattle.element.specs.Matrices.{resized, stacked}
use Rattle.element.specs.Steps.{step_count, stepped}
use Rattle.picks.specs.Indices.{amount, spanned, between, first_outside, first_outside2}
use Rattle.picks.specs.Picks.{picked, crossed}
use Rattle.elementwise.specs.Results.{map2, collected}
use Rattle.elementwise.specs.Products.{dot, products}
use Rattle.meaning.specs.declared.layouts.Layout.{Layout}
use Rattle.meaning.specs.Values.{Cell, null_of, layout_of, scalar_of, vector_of, area, Value, exactly, elements_of, first, last}
use Rattle.meaning.specs.Elements.{same_cells, cast, along}
use Rattle.meaning.specs.Plans.{Plan, Outcome, outcome, simple, with}

-- ---- a vector, or an interval that stands for one
-- where it is an interval, its upper bound is not under its lower one
abbrev pub in_order : Value → Bool
in_order v = not (is Interval (exactly v)) || int_le (first v) (last v)

-- how many elements it has as a vector
abbrev pub count : Value → ℕ
count v = cond (is Interval (exactly v)) (spanned (first v) (last v)) v.layout.s

-- its elements as a vector
abbrev pub listing : (k : Kind) → Value → List (Cell k)
listing Boolean v = elements_of Boolean v
listing Character v = elements_of Character v
listing Integer v = cond (is Interval (exactly v)) (between (first v) (last v)) (elements_of Integer v)

-- ---- two operands, element by element
-- of two values the one that is no scalar; the second where the first is one
abbrev pub wider : {X : Type 0} → Value → X → X → X
wider a x y = cond (is Scalar (exactly a)) y x

abbrev pub pair_layout : Kind → Value → Value → Layout
pair_layout k a b = layout_of k (wider a a.layout.shape b.layout.shape) (wider a a.layout.r b.layout.r) (wider a a.layout.s b.layout.s)

-- two operands of kind k give elements of kind l
abbrev pub pairwise : (k l : Kind) → (List (Cell k) → List (Cell k) → Result (List (Cell l)) ElementFault) → Value → Value → Plan
pairwise k l f a b =
    record {
      ruled = of k (exactly a) && (of k (exactly b) && pairs (exactly a) (exactly b));
      ordered = true;
      counted = None;
      layout = pair_layout l a b;
      agree = matches_spread (exactly a) (exactly b);
      outside = None;
      elements = (let n = area (pair_layout l a b) in f (along k n a) (along k n b));
    }

abbrev pub calculated : Arithmetic → Value → Value → Plan
calculated op a b = pairwise Integer Integer (λ xs ys. collected 1 (map2 (exact op) xs ys)) a b

abbrev pub compared : Order → Value → Value → Plan
compared op a b = pairwise Integer Boolean (λ xs ys. Ok (map2 (ordered op) xs ys)) a b

-- both sides are always worked
abbrev pub decided_by : Logic → Value → Value → Plan
decided_by op a b = pairwise Boolean Boolean (λ xs ys. Ok (map2 (decided op) xs ys)) a b

-- whether all elements are equal
abbrev pub all_equal : Value → Value → Bool
all_equal a b =
    let n = area (pair_layout Boolean a b) in
    let k = a.layout.kind in
    same_cells k (along k n a) (along k n b)

abbrev pub says : Equality → Bool → Bool
says Equal b = b
says Unequal b = not b

-- one boolean; the size of what is compared is not judged against the width
abbrev pub equated : Equality → Value → Value → Plan
equated op a b =
    record {
      ruled = of a.layout.kind (exactly b) && (pairs (exactly a) (exactly b) || (is Interval (exactly a) && is Interval (exactly b)));
      ordered = true;
      counted = None;
      layout = scalar_of Boolean;
      agree = matches_spread (exactly a) (exactly b);
      outside = None;
      elements = Ok (says op (all_equal a b) ∷ []);
    }

-- ---- one operand, element by element
abbrev pub alike : Kind → Value → Layout
alike k a = layout_of k a.layout.shape a.layout.r a.layout.s

abbrev pub prefixed : Prefix → Value → Plan
prefixed Minus a = simple (of Integer (exactly a) && flat (exactly a)) (alike Integer a) (collected 1 (map negated (elements_of Integer a)))
prefixed Not a = simple (of Boolean (exactly a) && flat (exactly a)) (alike Boolean a) (Ok (map not (elements_of Boolean a)))

abbrev pub cast_to : Kind → Value → Plan
cast_to k a = simple (flat (exactly a)) (alike k a) (Ok (map (cast a.layout.kind k) a.elements))

-- ---- vectors and matrices
abbrev pub joined : Value → Value → Plan
joined a b =
    simple (of a.layout.kind (exactly b) && (joins (exactly a) && joins (exactly b)))
    (vector_of a.layout.kind (a.layout.s + b.layout.s))
    (Ok (a.elements ++ elements_of a.layout.kind b))

-- the dot product of vectors, or the product of matrices; what it multiplies has equal sizes
abbrev pub multiplied : Value → Value → Plan
multiplied a b =
    let v = is Vector (exactly a) in
    record {
      ruled = of Integer (exactly a) && (of Integer (exactly b) && ((is Vector (exactly a) && is Vector (exactly b)) || (is Matrix (exactly a) && is Matrix (exactly b))));
      ordered = true;
      counted = None;
      layout = layout_of Integer (cond v Scalar Matrix) (cond v 1 a.layout.r) (cond v 1 b.layout.s);
      agree = (a.layout.s == cond v b.layout.s b.layout.r);
      outside = None;
      elements = collected 1 (cond v (dot (elements_of Integer a) (elements_of Integer b) ∷ []) (products a.layout.r a.layout.s b.layout.s (elements_of Integer a) (elements_of Integer b)));
    }

-- the first element and every b-th after it
abbrev pub stepped_by : Value → Value → Plan
stepped_by a b =
    record {
      ruled = (is Vector (exactly a) || is Interval (exactly a)) && alone Integer (exactly b);
      ordered = in_order a && int_le (pos 1) (first b);
      counted = None;
      layout = vector_of a.layout.kind (step_count (count a) (amount (first b)));
      agree = true;
      outside = None;
      elements = Ok (stepped (null_of a.layout.kind) (amount (first b)) (listing a.layout.kind a));
    }

abbrev pub infixed : Infix → Value → Value → Plan
infixed (family.Arithmetic op) a b = calculated op a b
infixed (family.Order op) a b = compared op a b
infixed (family.Logic op) a b = decided_by op a b
infixed (family.Equality op) a b = equated op a b
infixed family.Join a b = joined a b
infixed family.Product a b = multiplied a b
infixed family.By a b = stepped_by a b

abbrev pub interval : Value → Value → Plan
interval a b =
    record {
      ruled = alone Integer (exactly a) && alone Integer (exactly b);
      ordered = int_le (first a) (first b);
      counted = None;
      layout = layout_of Integer Interval 1 2;
      agree = true;
      outside = None;
      elements = Ok (first a ∷ first b ∷ []);
    }

-- the rows of a, then b, padded to the wider
abbrev pub stack : Value → Value → Plan
stack a b =
    let k = a.layout.kind in
    simple (of a.layout.kind (exactly b) && ((is Vector (exactly a) || is Matrix (exactly a)) && is Vector (exactly b)))
    (layout_of a.layout.kind Matrix (a.layout.r + 1) (max a.layout.s b.layout.s))
    (Ok (stacked (null_of k) (max a.layout.s b.layout.s) (rows_of a.layout.r a.layout.s a.elements) (elements_of k b)))

-- ---- indices, from 1; a scalar index drops a dimension
abbrev pub pick : Value → Value → Plan
pick a b =
    record {
      ruled = is Vector (exactly a) && index (exactly b);
      ordered = in_order b;
      counted = None;
      layout = layout_of a.layout.kind (cond (is Scalar (exactly b)) Scalar Vector) 1 (count b);
      agree = true;
      outside = first_outside 1 a.layout.s (listing Integer b);
      elements = Ok (picked (null_of a.layout.kind) a.elements (listing Integer b));
    }

abbrev pub cross_shape : Bool → Bool → Shape
cross_shape row column = cond row (cond column Scalar Vector) (cond column Vector Matrix)

abbrev pub pick_two : Value → Value → Value → Plan
pick_two a b c =
    let row = is Scalar (exactly b) in
    let column = is Scalar (exactly c) in
    record {
      ruled = is Matrix (exactly a) && (index (exactly b) && index (exactly c));
      ordered = in_order b && in_order c;
      counted = None;
      layout = layout_of a.layout.kind (cross_shape row column) (cond column 1 (count b)) (cond column (count b) (count c));
      agree = true;
      outside = first_outside2 a.layout.r a.layout.s (listing Integer b) (listing Integer c);
      elements = Ok (crossed (null_of a.layout.kind) a.layout.s a.elements (listing Integer b) (listing Integer c));
    }

-- ---- one operand
abbrev pub measured : Asked → Value → Plan
measured Length a = simple (is Vector (exactly a)) (scalar_of Integer) (Ok (pos a.layout.s ∷ []))
measured Rows a = simple (is Matrix (exactly a)) (scalar_of Integer) (Ok (pos a.layout.r ∷ []))
measured Columns a = simple (is Matrix (exactly a)) (scalar_of Integer) (Ok (pos a.layout.s ∷ []))
measured Reverse a = simple (is Vector (exactly a)) a.layout (Ok (reverse a.elements))
measured Single a = simple (is Scalar (exactly a)) (vector_of a.layout.kind 1) (Ok a.elements)

-- a written size, or else n
abbrev pub size_or : Size → ℕ → ℕ
size_or None n = n
size_or (Some m) n = m

-- sizes are written, and a vector stays one row
abbrev pub resized_to : Size → Size → Value → Plan
resized_to r s a =
    simple ((is Vector (exactly a) || is Matrix (exactly a)) && (is_known r && (is_known s && (is Matrix (exactly a) || exact_size 1 r))))
    (layout_of a.layout.kind a.layout.shape (size_or r 0) (size_or s 0))
    (Ok (resized (null_of a.layout.kind) (size_or r 0) (size_or s 0) (rows_of a.layout.r a.layout.s a.elements)))

abbrev pub copied : Value → Plan
copied v = simple true v.layout (Ok v.elements)

-- ---- no operand
-- a literal is an element of its kind, as its number is cast to it
abbrev pub literal : Kind → ℤ → Plan
literal k z = simple true (scalar_of k) (Ok (cast Integer k z ∷ []))

abbrev pub empty : Kind → Plan
empty k = simple true (vector_of k 0) (Ok [])

abbrev pub streamed : StreamState → Plan
streamed state = simple true (scalar_of Integer) (Ok (pos (state_number state) ∷ []))

-- ---- the rows; `at` tells the value that a row holds now
module _ (W : ℕ) (at : ℕ → Option Value) where
  abbrev pub by1 : ℕ → (Value → Plan) → Outcome
  by1 a f = with (at a) (λ v. outcome W (f v))

  abbrev pub by2 : ℕ → ℕ → (Value → Value → Plan) → Outcome
  by2 a b f = with (at a) (λ v. by1 b (f v))

  abbrev pub by3 : ℕ → ℕ → ℕ → (Value → Value → Value → Plan) → Outcome
  by3 a b c f = with (at a) (λ v. by2 b c (f v))

  -- an expression row, in a state of the stream
  abbrev pub evaluated : StreamState → Make → Outcome
  evaluated state (make.Literal k n) = outcome W (literal k n)
  evaluated state (make.Empty k) = outcome W (empty k)
  evaluated state (make.Variable v) = by1 v copied
  evaluated state (make.Prefix op a) = by1 a (prefixed op)
  evaluated state (make.Infix op a b) = by2 a b (infixed op)
  evaluated state (make.Interval a b) = by2 a b interval
  evaluated state (make.Stack a b) = by2 a b stack
  evaluated state (make.Pick a b) = by2 a b pick
  evaluated state (make.PickTwo a b c) = by3 a b c pick_two
  evaluated state (make.Measure m a) = by1 a (measured m)
  evaluated state (make.Cast k a) = by1 a (cast_to k)
  evaluated state (make.Resize a r s) = by1 a (resized_to r s)
  evaluated state make.State = outcome W (streamed state)
