-- The list that the code reads is the one that the value stands for.
use Rattle.std.proofs.Common.{◌≡◌, ℕ, ◌+◌, ◌*◌, ◌<◌, ◌≤◌, Bool, true, false, cond, not, ◌||◌, eqb, List, get_or, ℤ, pos, refl, ap, ◌∙◌, add-zero, one-mul, arith}
use lib.Signed.{le_z}
use Rattle.std.proofs.lemmas.Bool.{and_parts, eqb-true}
use Rattle.types.specs.declared.kinds.Kind.{Kind}
use Rattle.types.specs.declared.kinds.Kind.TheVariants.{Boolean, Character, Integer}
use Rattle.types.specs.declared.kinds.Shape.{Shape}
use Rattle.types.specs.declared.kinds.Shape.TheVariants.{Scalar, Vector, Matrix, Interval}
use Rattle.types.specs.Types.{same_kind, same_shape}
use Rattle.types.specs.Typings.{is, of}
use Rattle.element.specs.Cells.{cells}
use Rattle.element.proofs.Writes.{get_or_cells}
use Rattle.picks.specs.declared.indices.Index.TheVariants as list
use Rattle.picks.specs.Indices.{spanned, between, index_count, indices_of, IndexBelow}
use Rattle.meaning.specs.declared.layouts.Layout.{Layout}
use Rattle.meaning.specs.Values.{area, known, fixed, lawful, layout_of, elements_of, first, last}
use Rattle.meaning.specs.Expressions.{in_order, count, listing}
use Rattle.meaning.specs.States.{Tables, value_from}
use Rattle.meaning.proofs.Shells.{never}
use Rattle.meaning.proofs.Rows.{as_cells, lawful_fixed}
use Rattle.expressions.specs.Lists.{list_at, orderly}

-- ---- bounds
-- an interval is of integers, and has two of them
interval_two : (f : Layout) → fixed f ≡ true → same_shape Interval f.shape ≡ true → (same_kind Integer f.kind ≡ true) × (f.r ≡ 1) × (f.s ≡ 2)
interval_two f h t = go f.kind f.shape f.r f.s h t
  where
    go : (k : Kind) (x : Shape) (r s : ℕ) → fixed (layout_of k x r s) ≡ true → same_shape Interval x ≡ true → (same_kind Integer k ≡ true) × (r ≡ 1) × (s ≡ 2)
    go k Scalar r s h t = never t
    go k Vector r s h t = never t
    go k Matrix r s h t = never t
    go Boolean Interval r s h t = never h
    go Character Interval r s h t = never h
    go Integer Interval r s h t = let p = and_parts (eqb r 1) (eqb s 2) h in (refl, eqb-true r 1 p.0, eqb-true s 2 p.1)

-- one row, where it is no matrix
one_row : (f : Layout) → fixed f ≡ true → not (same_shape Matrix f.shape) ≡ true → f.r ≡ 1
one_row f h t = go f.kind f.shape f.r f.s h t
  where
    go : (k : Kind) (x : Shape) (r s : ℕ) → fixed (layout_of k x r s) ≡ true → not (same_shape Matrix x) ≡ true → r ≡ 1
    go k Scalar r s h t = eqb-true r 1 (and_parts (eqb r 1) (eqb s 1) h).0
    go k Vector r s h t = eqb-true r 1 h
    go k Matrix r s h t = never t
    go Boolean Interval r s h t = never h
    go Character Interval r s h t = never h
    go Integer Interval r s h t = eqb-true r 1 (and_parts (eqb r 1) (eqb s 2) h).0

module _ (W : ℕ) (t : Tables) (a : ℕ) (x : Layout) where
  pub nth_integer : (n : ℕ) → of Integer (known x) ≡ true → n < area x → get_or (elements_of Integer (value_from W t a x)) n (pos 0) ≡ get_or t.integers (a * W + n) (pos 0)
  nth_integer n kind lt = ap (λ (xs : List ℤ). get_or xs n (pos 0)) (as_cells Integer x.kind t (a * W) (area x) kind) ∙ get_or_cells t.integers (a * W) (area x) n (pos 0) lt

  pub first_cell : of Integer (known x) ≡ true → 0 < area x → first (value_from W t a x) ≡ get_or t.integers (a * W) (pos 0)
  first_cell kind lt = nth_integer 0 kind lt ∙ ap (λ (m : ℕ). get_or t.integers m (pos 0)) (add-zero (a * W))

  module _ (law : lawful W x ≡ true) where
    abbrev two : is Interval (known x) ≡ true → (same_kind Integer x.kind ≡ true) × (x.r ≡ 1) × (x.s ≡ 2)
    two s = interval_two x (lawful_fixed W x law) s

    two_area : is Interval (known x) ≡ true → area x ≡ 2
    two_area s = let b = two s in λ i. b.1 i * b.2 i

    low : is Interval (known x) ≡ true → first (value_from W t a x) ≡ get_or t.integers (a * W) (pos 0)
    low s = first_cell (two s).0 (let e = two_area s in omega (arith, e))

    high : is Interval (known x) ≡ true → last (value_from W t a x) ≡ get_or t.integers (a * W + 1) (pos 0)
    high s = nth_integer 1 (two s).0 (let e = two_area s in omega (arith, e))

    pub list_count : count (value_from W t a x) ≡ index_count (list_at W t.integers a x)
    list_count = by (is Interval (known x)) low high
      where
        by : (s : Bool) → (s ≡ true → first (value_from W t a x) ≡ get_or t.integers (a * W) (pos 0)) → (s ≡ true → last (value_from W t a x) ≡ get_or t.integers (a * W + 1) (pos 0))
            → cond s (spanned (first (value_from W t a x)) (last (value_from W t a x))) x.s ≡ index_count (cond s (list.Interval (get_or t.integers (a * W) (pos 0)) (get_or t.integers (a * W + 1) (pos 0))) (list.Cells (a * W) x.s))
        by true l h = λ i. spanned (l refl i) (h refl i)
        by false l h = refl

    pub list_order : in_order (value_from W t a x) ≡ orderly (list_at W t.integers a x)
    list_order = by (is Interval (known x)) low high
      where
        by : (s : Bool) → (s ≡ true → first (value_from W t a x) ≡ get_or t.integers (a * W) (pos 0)) → (s ≡ true → last (value_from W t a x) ≡ get_or t.integers (a * W + 1) (pos 0))
            → (not s || le_z (first (value_from W t a x)) (last (value_from W t a x))) ≡ orderly (cond s (list.Interval (get_or t.integers (a * W) (pos 0)) (get_or t.integers (a * W + 1) (pos 0))) (list.Cells (a * W) x.s))
        by true l h = λ i. le_z (l refl i) (h refl i)
        by false l h = refl

    -- of an integer scalar or vector, and of an interval
    pub list_elements : of Integer (known x) ≡ true → not (is Matrix (known x)) ≡ true → listing Integer (value_from W t a x) ≡ indices_of (list_at W t.integers a x) t.integers
    list_elements kind flat = by (is Interval (known x)) low high (as_cells Integer x.kind t (a * W) (area x) kind ∙ ap (cells t.integers (a * W)) (ap (λ (r : ℕ). r * x.s) (one_row x (lawful_fixed W x law) flat) ∙ one-mul x.s))
      where
        by : (s : Bool) → (s ≡ true → first (value_from W t a x) ≡ get_or t.integers (a * W) (pos 0)) → (s ≡ true → last (value_from W t a x) ≡ get_or t.integers (a * W + 1) (pos 0)) → elements_of Integer (value_from W t a x) ≡ cells t.integers (a * W) x.s
            → cond s (between (first (value_from W t a x)) (last (value_from W t a x))) (elements_of Integer (value_from W t a x)) ≡ indices_of (cond s (list.Interval (get_or t.integers (a * W) (pos 0)) (get_or t.integers (a * W + 1) (pos 0))) (list.Cells (a * W) x.s)) t.integers
        by true l h e = λ i. between (l refl i) (h refl i)
        by false l h e = e

    -- its cells lie before `end`
    pub list_below : (end : ℕ) → x.s ≤ W → a * W + W ≤ end → IndexBelow (list_at W t.integers a x) end
    list_below end few h = by (is Interval (known x))
      where
        by : (s : Bool) → IndexBelow (cond s (list.Interval (get_or t.integers (a * W) (pos 0)) (get_or t.integers (a * W + 1) (pos 0))) (list.Cells (a * W) x.s)) end
        by true = tt
        by false = omega arith
