-- Products of two values: what the code writes is what the rule names.
use Rattle.std.proofs.Common.{◌≡◌, ℕ, ◌+◌, ◌*◌, ◌<◌, ◌≤◌, Bool, true, false, cond, ◌&&◌, ◌||◌, eqb, List, [], ◌∷◌, length, set, ℤ, Ok, Err, Result, sym, refl, ap, ◌∙◌, one-mul, arith}
use Rattle.std.proofs.lemmas.Bool.{and_parts, eqb-true}
use Rattle.std.specs.Result.{result_map_both}
use Rattle.types.specs.declared.kinds.Kind.TheVariants.{Integer}
use Rattle.types.specs.declared.kinds.Shape.{Shape}
use Rattle.types.specs.declared.kinds.Shape.TheVariants.{Scalar, Vector, Matrix, Interval}
use Rattle.types.specs.Types.{same_shape}
use Rattle.types.specs.Typings.{is, of}
use Rattle.arithmetic.specs.declared.faults.ArithmeticFault.{ArithmeticFault}
use Rattle.arithmetic.specs.Faults.{at_element}
use Rattle.element.specs.Cells.{cells, put}
use Rattle.element.proofs.Writes.{put_one}
use Rattle.elementwise.specs.Products.{dot, products}
use Rattle.elementwise.specs.Results.{collected, Wrote}
use Rattle.meaning.specs.declared.layouts.Layout.{Layout}
use Rattle.meaning.specs.declared.places.Place.{Place}
use Rattle.meaning.specs.Values.{area, known, lawful, elements_of}
use Rattle.meaning.specs.Expressions.{multiplied}
use Rattle.meaning.specs.Plans.{Plan}
use Rattle.meaning.specs.States.{Tables, value_from}
use Rattle.meaning.proofs.Shells.{never, tests}
use Rattle.meaning.proofs.Rows.{as_cells, vector_one, lawful_fixed, lawful_small, under_all}
use Rattle.expressions.specs.Products.{product_layout, multiplies, product_guard, product_cells}

pub dot_written : (d : Result ℤ ArithmeticFault) (T : List ℤ) (to : ℕ) (z : ℤ) → to < length T → Ok z ≡ result_map_both (λ (z : ℤ). z) (at_element 1) d → Wrote (collected 1 (d ∷ [])) T to 1 (Ok tt) (set T to z)
dot_written (Ok w) T to z inside h = let same : z ≡ w = cc in (refl, put_one T to z inside ∙ ap (λ (v : ℤ). put T to (v ∷ [])) same)
dot_written (Err f) T to z inside h = absurd (let q : ◌≡◌ {A = ℕ} 0 1 = cc in omega arith)

module _ (p : Place) (t : Tables) (a b : ℕ) (x y form : Layout) (h : Ok form ≡ product_guard p x y) (lx : lawful p.width x ≡ true) (ly : lawful p.width y ≡ true) where
  abbrev plan : Plan
  plan = multiplied (value_from p.width t a x) (value_from p.width t b y)

  abbrev v : Bool
  v = is Vector (known x)

  ruled : multiplies x y ≡ true
  ruled = (tests p 0 (λ t u. Unit {0}) t t plan form (sym h)).2

  agree : eqb x.s (cond v y.s y.r) ≡ true
  agree = (tests p 0 (λ t u. Unit {0}) t t plan form (sym h)).5

  kinds : (of Integer (known x) ≡ true) × (of Integer (known y) ≡ true) × (((v && is Vector (known y)) || (is Matrix (known x) && is Matrix (known y))) ≡ true)
  kinds =
      let one = and_parts (of Integer (known x)) (of Integer (known y) && ((v && is Vector (known y)) || (is Matrix (known x) && is Matrix (known y)))) ruled in
      let two = and_parts (of Integer (known y)) ((v && is Vector (known y)) || (is Matrix (known x) && is Matrix (known y))) one.1 in
      (one.0, two.0, two.1)

  both_vectors : (v w m n : Bool) → ((v && w) || (m && n)) ≡ true → v ≡ true → (v ≡ true → m ≡ false) → w ≡ true
  both_vectors true true m n h e off = refl
  both_vectors true false m n h e off = let z = off refl in never (sym (ap (λ (q : Bool). q && n) z) ∙ h)
  both_vectors false w m n h e off = never e

  no_matrix : v ≡ true → is Matrix (known x) ≡ false
  no_matrix e = go x.shape e
    where
      go : (s : Shape) → same_shape Vector s ≡ true → same_shape Matrix s ≡ false
      go Scalar e = never e
      go Vector e = refl
      go Matrix e = never e
      go Interval e = never e

  -- the sizes of the operands, as the code takes them
  left_area : area x ≡ cond v x.s (x.r * x.s)
  left_area = by v (λ e. vector_one x (lawful_fixed p.width x lx) e)
    where
      by : (v : Bool) → (v ≡ true → x.r ≡ 1) → x.r * x.s ≡ cond v x.s (x.r * x.s)
      by true one = ap (λ (r : ℕ). r * x.s) (one refl) ∙ one-mul x.s
      by false one = refl

  right_area : area y ≡ cond v x.s (x.s * y.s)
  right_area = by v (λ e. vector_one y (lawful_fixed p.width y ly) (both_vectors v (is Vector (known y)) (is Matrix (known x)) (is Matrix (known y)) kinds.2 e no_matrix)) (eqb-true x.s (cond v y.s y.r) agree)
    where
      by : (v : Bool) → (v ≡ true → y.r ≡ 1) → x.s ≡ cond v y.s y.r → y.r * y.s ≡ cond v x.s (x.s * y.s)
      by true one e = ap (λ (r : ℕ). r * y.s) (one refl) ∙ one-mul y.s ∙ sym e
      by false one e = ap (λ (r : ℕ). r * y.s) (sym e)

  module _ (la lb : ℕ) (ea : la ≡ a * p.width) (eb : lb ≡ b * p.width) where
    left_cells : elements_of Integer (value_from p.width t a x) ≡ cells t.integers la (cond v x.s (x.r * x.s))
    left_cells = as_cells Integer x.kind t (a * p.width) (area x) kinds.0 ∙ (λ i. cells t.integers (sym ea i) (left_area i))

    right_cells : elements_of Integer (value_from p.width t b y) ≡ cells t.integers lb (cond v x.s (x.s * y.s))
    right_cells = as_cells Integer y.kind t (b * p.width) (area y) kinds.1 ∙ (λ i. cells t.integers (sym eb i) (right_area i))

    pub product_elements : plan.elements ≡ collected 1 (product_cells x y t.integers la lb)
    product_elements = ap (collected 1) ((λ i. cond v (dot (left_cells i) (right_cells i) ∷ []) (products x.r x.s y.s (left_cells i) (right_cells i))) ∙ by v)
      where
        by : (v : Bool) → cond v (dot (cells t.integers la (cond v x.s (x.r * x.s))) (cells t.integers lb (cond v x.s (x.s * y.s))) ∷ []) (products x.r x.s y.s (cells t.integers la (cond v x.s (x.r * x.s))) (cells t.integers lb (cond v x.s (x.s * y.s))))
            ≡ cond v (dot (cells t.integers la x.s) (cells t.integers lb x.s) ∷ []) (products x.r x.s y.s (cells t.integers la (x.r * x.s)) (cells t.integers lb (x.s * y.s)))
        by true = refl
        by false = refl

    module _ (to : ℕ) (et : to ≡ p.row * p.width) where
      pub left_below : a < p.row → la + cond v x.s (x.r * x.s) ≤ to
      left_below lt = let u = under_all p.width a p.row lt in let s = (lawful_small p.width x lx).elements in let e = left_area in omega arith

      pub right_below : b < p.row → lb + cond v x.s (x.s * y.s) ≤ to
      right_below lt = let u = under_all p.width b p.row lt in let s = (lawful_small p.width y ly).elements in let e = right_area in omega arith

  pub same_area : area (product_layout x y) ≡ form.r * form.s
  same_area = ap area (tests p 0 (λ t u. Unit {0}) t t plan form (sym h)).1
