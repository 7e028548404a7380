-- Every so many elements of a vector or an interval: the tests and the elements are those of the rule.
use Rattle.std.proofs.Common.{◌≡◌, ℕ, ◌*◌, ◌<◌, ◌≤◌, Bool, true, false, cond, ◌&&◌, ◌||◌, leb, List, get_or, ℤ, pos, negsuc, None, Ok, sym, refl, ap, ◌∙◌, one-mul, arith}
use lib.Signed.{le_z}
use Rattle.std.proofs.lemmas.Bool.{and_parts, leb-true}
use Rattle.types.specs.declared.kinds.Kind.{Kind}
use Rattle.types.specs.declared.kinds.Kind.TheVariants.{Boolean, Character, Integer}
use Rattle.types.specs.declared.kinds.Shape.{Shape}
use Rattle.types.specs.declared.kinds.Shape.TheVariants.{Scalar, Vector, Matrix, Interval}
use Rattle.types.specs.Types.{same_shape}
use Rattle.types.specs.Typings.{is, alone}
use Rattle.element.specs.Cells.{cells, put}
use Rattle.element.specs.Steps.{step_count, stepped}
use Rattle.picks.specs.declared.indices.Index.{Index}
use Rattle.picks.specs.declared.indices.Index.TheVariants as list
use Rattle.picks.specs.Indices.{amount, index_count, indices_of}
use Rattle.meaning.specs.declared.layouts.Layout.{Layout}
use Rattle.meaning.specs.declared.places.Place.{Place}
use Rattle.meaning.specs.Values.{null_of, layout_of, vector_of, known, lawful, first}
use Rattle.meaning.specs.Expressions.{in_order, listing, stepped_by}
use Rattle.meaning.specs.Plans.{Plan}
use Rattle.meaning.specs.States.{Tables, table_of, with_table, value_from}
use Rattle.meaning.specs.Works.{guards, guarded}
use Rattle.meaning.proofs.Shells.{never, tests, guards_same}
use Rattle.meaning.proofs.Rows.{lawful_fixed, vector_one}
use Rattle.expressions.specs.Lists.{list_at, orderly}
use Rattle.expressions.proofs.Listing.{list_elements}
use Rattle.expressions.proofs.Bounding.{scalar_cell}
use Rattle.selections.specs.Strides.{step_guard, stepped_in}
use Rattle.selections.proofs.Choosing.{read_order, read_count}

-- a step is at least 1 where its amount is
step_order : (z : ℤ) → leb 1 (amount z) ≡ le_z (pos 1) z
step_order (pos n) = refl
step_order (negsuc n) = refl

-- what a step under 1 would meet does not matter
unmet : (p : Place) (k : Kind) (o s : Bool) (n : ℕ) → guards p true (o && s) None (vector_of k (cond s n 0)) true ≡ guards p true (o && s) None (vector_of k n) true
unmet p k false s n = refl
unmet p k true false n = refl
unmet p k true true n = refl

-- a list of integers, stepped through
step_integers : (t : Tables) (to : ℕ) (l : Index) (b : ℕ) → stepped_in Integer t to l b ≡ with_table Integer t (put t.integers to (stepped (pos 0) b (indices_of l t.integers)))
step_integers t to (list.Cells at n) b = refl
step_integers t to (list.Interval low high) b = refl

-- ---- the tables with the steps of the value of layout x at row a
module _ (W : ℕ) (t : Tables) (a to b : ℕ) where
  abbrev Written : Layout → Type 0
  Written x = stepped_in x.kind t to (list_at W t.integers a x) b ≡ with_table x.kind t (put (table_of x.kind t) to (stepped (null_of x.kind) b (listing x.kind (value_from W t a x))))

  one_more : (r s : ℕ) → r ≡ 1 → s ≡ r * s
  one_more r s e = sym (one-mul s) ∙ ap (λ (m : ℕ). m * s) (sym e)

  written_by : (k : Kind) (x : Shape) (r s : ℕ) → lawful W (layout_of k x r s) ≡ true → (same_shape Vector x || same_shape Interval x) ≡ true → Written (layout_of k x r s)
  written_by k Scalar r s law h = never h
  written_by k Matrix r s law h = never h
  written_by Boolean Vector r s law h = ap (λ (n : ℕ). with_table Boolean t (put t.booleans to (stepped false b (cells t.booleans (a * W) n)))) (one_more r s (vector_one (layout_of Boolean Vector r s) (lawful_fixed W (layout_of Boolean Vector r s) law) refl))
  written_by Character Vector r s law h = ap (λ (n : ℕ). with_table Character t (put t.characters to (stepped (pos 0) b (cells t.characters (a * W) n)))) (one_more r s (vector_one (layout_of Character Vector r s) (lawful_fixed W (layout_of Character Vector r s) law) refl))
  written_by Integer Vector r s law h = ap (λ (n : ℕ). with_table Integer t (put t.integers to (stepped (pos 0) b (cells t.integers (a * W) n)))) (one_more r s (vector_one (layout_of Integer Vector r s) (lawful_fixed W (layout_of Integer Vector r s) law) refl))
  written_by Boolean Interval r s law h = never (lawful_fixed W (layout_of Boolean Interval r s) law)
  written_by Character Interval r s law h = never (lawful_fixed W (layout_of Character Interval r s) law)
  written_by Integer Interval r s law h =
      let x = layout_of Integer Interval r s in
      step_integers t to (list_at W t.integers a x) b ∙ ap (λ (zs : List ℤ). with_table Integer t (put t.integers to (stepped (pos 0) b zs))) (sym (list_elements W t a x law refl refl))

  pub steps_written : (x : Layout) → lawful W x ≡ true → (is Vector (known x) || is Interval (known x)) ≡ true → Written x
  steps_written x law h = written_by x.kind x.shape x.r x.s law h

-- ---- the row
module _ (p : Place) (t : Tables) (a b : ℕ) (x y : Layout) (lx : lawful p.width x ≡ true) (ly : lawful p.width y ≡ true)
    (l : Index) (el : l ≡ list_at p.width t.integers a x) (n step : ℕ) (en : n ≡ b * p.width) (es : step ≡ amount (get_or t.integers n (pos 0))) where
  abbrev pub step_at : Plan
  step_at = stepped_by (value_from p.width t a x) (value_from p.width t b y)

  abbrev ruled : Bool
  ruled = (is Vector (known x) || is Interval (known x)) && alone Integer (known y)

  step_cell : ruled ≡ true → step ≡ amount (first (value_from p.width t b y))
  step_cell h = es ∙ ap amount (ap (λ (m : ℕ). get_or t.integers m (pos 0)) en ∙ sym (scalar_cell p.width t b y ly (and_parts (is Vector (known x) || is Interval (known x)) (alone Integer (known y)) h).1))

  pub step_guarded : step_guard p x y l step ≡ guarded p step_at
  step_guarded =
      guards_same p ruled _ _ None None _ _ true true
      (λ h. unmet p x.kind (orderly l) (leb 1 step) (step_count (index_count l) step)
      ∙ (λ i. guards p true (read_order p.width t a x lx l el i && (ap (leb 1) (step_cell h) ∙ step_order (first (value_from p.width t b y))) i) None (vector_of x.kind (step_count (read_count p.width t a x lx l el i) (step_cell h i))) true))

  module _ (form : Layout) (g : Ok form ≡ step_guard p x y l step) where
    abbrev passes : ruled ≡ true
    passes = (tests p 0 (λ t u. Unit {0}) t t step_at form (sym (g ∙ step_guarded))).2

    pub step_some : 0 < step
    step_some =
        let o = (tests p 0 (λ t u. Unit {0}) t t step_at form (sym (g ∙ step_guarded))).3 in
        let z = (and_parts (in_order (value_from p.width t a x)) (le_z (pos 1) (first (value_from p.width t b y))) o).1 in
        let h : 1 ≤ step = leb-true 1 step (ap (leb 1) (step_cell passes) ∙ step_order (first (value_from p.width t b y)) ∙ z) in
        omega arith

    pub step_many : step_count (index_count l) step ≡ form.s
    step_many =
        (λ i. step_count (read_count p.width t a x lx l el i) (step_cell passes i)) ∙ ap (λ (f : Layout). f.s) (tests p 0 (λ t u. Unit {0}) t t step_at form (sym (g ∙ step_guarded))).1

    -- what is written is the value of the row
    pub step_written : (to : ℕ) → to ≡ p.row * p.width → stepped_in x.kind t to l step ≡ with_table x.kind t (put (table_of x.kind t) (p.row * p.width) (stepped (null_of x.kind) (amount (first (value_from p.width t b y))) (listing x.kind (value_from p.width t a x))))
    step_written to et =
        (λ i. stepped_in x.kind t (et i) (el i) (step_cell passes i))
        ∙ steps_written p.width t a (p.row * p.width) (amount (first (value_from p.width t b y))) x lx (and_parts (is Vector (known x) || is Interval (known x)) (alone Integer (known y)) passes).0
