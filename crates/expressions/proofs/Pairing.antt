-- Two operands element by element: the cells that the code reads are the elements that the rule names.
use Rattle.std.proofs.Common.{◌≡◌, ℕ, ◌+◌, ◌*◌, ◌<◌, ◌≤◌, Bool, true, false, cond, ◌&&◌, ◌||◌, eqb, List, get_or, replicate, None, Ok, Result, sym, refl, ap, ◌∙◌, add-zero, arith}
use Rattle.std.proofs.lemmas.Bool.{and_parts, eqb-true}
use Rattle.arithmetic.specs.declared.faults.ElementFault.{ElementFault}
use Rattle.types.specs.declared.kinds.Kind.{Kind}
use Rattle.types.specs.declared.kinds.Shape.TheVariants.{Scalar}
use Rattle.types.specs.Typings.{is, of, pairs, matches_spread}
use Rattle.element.specs.Cells.{cells}
use Rattle.element.proofs.Writes.{get_or_cells}
use Rattle.element.specs.declared.operands.Operand.{Operand}
use Rattle.element.specs.declared.operands.Operand.TheVariants as operand
use Rattle.element.specs.Operands.{start_of, end_of, along as along_table}
use Rattle.meaning.specs.declared.layouts.Layout.{Layout}
use Rattle.meaning.specs.declared.places.Place.{Place}
use Rattle.meaning.specs.Values.{Cell, null_of, area, known, lawful}
use Rattle.meaning.specs.Elements.{along}
use Rattle.meaning.specs.Plans.{Plan, outcome, unless_outside, finished, fits}
use Rattle.meaning.specs.Expressions.{pairwise}
use Rattle.meaning.specs.States.{Tables, table_of, value_from}
use Rattle.meaning.proofs.Shells.{never, tests}
use Rattle.meaning.proofs.Rows.{as_cells, scalar_one, lawful_fixed, lawful_small, under_all}
use Rattle.expressions.specs.Pairs.{cells_of, pair_layout, pair_guard}

-- n elements of an operand, by whether it is a scalar
along_by : {X : Type 0} (s : Bool) (null : X) (T : List X) (at n : ℕ) → cond s (replicate n (get_or T at null)) (cells T at n) ≡ along_table null T (cond s (operand.Scalar at) (operand.Run at)) n
along_by true null T at n = refl
along_by false null T at n = refl

-- the first of the cells is that of the row
start_by : (s : Bool) (at : ℕ) → start_of (cond s (operand.Scalar at) (operand.Run at)) ≡ at
start_by true at = refl
start_by false at = refl

pub start_cells : (W a : ℕ) (x : Layout) → start_of (cells_of W a x) ≡ a * W
start_cells W a x = start_by (is Scalar (known x)) (a * W)

-- n elements of an operand, as its cells have them
pub along_cells : (W : ℕ) (t : Tables) (k : Kind) (a : ℕ) (x : Layout) (n : ℕ) → lawful W x ≡ true → of k (known x) ≡ true → (is Scalar (known x) ≡ false → area x ≡ n)
    → along k n (value_from W t a x) ≡ along_table (null_of k) (table_of k t) (cells_of W a x) n
along_cells W t k a x n law kind same =
    ap (λ (xs : List (Cell k)). cond (is Scalar (known x)) (replicate n (get_or xs 0 (null_of k))) xs) (as_cells k x.kind t (a * W) (area x) kind)
    ∙ by (is Scalar (known x)) (λ s. let one = scalar_one x (lawful_fixed W x law) s in λ i. one.0 i * one.1 i) same
    ∙ along_by (is Scalar (known x)) (null_of k) (table_of k t) (a * W) n
  where
    by : (s : Bool) → (s ≡ true → area x ≡ 1) → (s ≡ false → area x ≡ n)
        → cond s (replicate n (get_or (cells (table_of k t) (a * W) (area x)) 0 (null_of k))) (cells (table_of k t) (a * W) (area x)) ≡ cond s (replicate n (get_or (table_of k t) (a * W) (null_of k))) (cells (table_of k t) (a * W) n)
    by true one other =
        ap (replicate n) (ap (λ (m : ℕ). get_or (cells (table_of k t) (a * W) m) 0 (null_of k)) (one refl) ∙ get_or_cells (table_of k t) (a * W) 1 0 (null_of k) (omega arith) ∙ ap (λ (m : ℕ). get_or (table_of k t) m (null_of k)) (add-zero (a * W)))
    by false one other = ap (cells (table_of k t) (a * W)) (other refl)

-- ---- sizes of two that match, a scalar spread
left_area : (t : Bool) (i j p q : ℕ) → t ≡ false → i * p ≡ cond t j i * cond t q p
left_area true i j p q f = never (sym f)
left_area false i j p q f = refl

right_area : (t u e : Bool) (i j p q : ℕ) → (e ≡ true → (i ≡ j) × (p ≡ q)) → (t || (u || e)) ≡ true → u ≡ false → j * q ≡ cond t j i * cond t q p
right_area true u e i j p q h g f = refl
right_area false true e i j p q h g f = never (sym f)
right_area false false true i j p q h g f = let b = h refl in λ m. sym b.0 m * sym b.1 m
right_area false false false i j p q h g f = never g

both : (i j p q : ℕ) → (eqb i j && eqb p q) ≡ true → (i ≡ j) × (p ≡ q)
both i j p q h = let b = and_parts (eqb i j) (eqb p q) h in (eqb-true i j b.0, eqb-true p q b.1)

module _ (k l : Kind) (x y : Layout) (ruled : (of k (known x) && (of k (known y) && pairs (known x) (known y))) ≡ true) (agree : matches_spread (known x) (known y) ≡ true) where
  pub left_kind : of k (known x) ≡ true
  left_kind = (and_parts (of k (known x)) (of k (known y) && pairs (known x) (known y)) ruled).0

  pub right_kind : of k (known y) ≡ true
  right_kind = (and_parts (of k (known y)) (pairs (known x) (known y)) (and_parts (of k (known x)) (of k (known y) && pairs (known x) (known y)) ruled).1).0

  module _ (W : ℕ) (t : Tables) (a b : ℕ) (lx : lawful W x ≡ true) (ly : lawful W y ≡ true) where
    pub left_cells : along k (area (pair_layout l x y)) (value_from W t a x) ≡ along_table (null_of k) (table_of k t) (cells_of W a x) (area (pair_layout l x y))
    left_cells = along_cells W t k a x (area (pair_layout l x y)) lx left_kind (left_area (is Scalar (known x)) x.r y.r x.s y.s)

    pub right_cells : along k (area (pair_layout l x y)) (value_from W t b y) ≡ along_table (null_of k) (table_of k t) (cells_of W b y) (area (pair_layout l x y))
    right_cells = along_cells W t k b y (area (pair_layout l x y)) ly right_kind (right_area (is Scalar (known x)) (is Scalar (known y)) (eqb x.r y.r && eqb x.s y.s) x.r y.r x.s y.s (both x.r y.r x.s y.s) agree)

-- ---- the cells of an operand lie before the row at work
end_by : (s : Bool) (at n W end : ℕ) → (s ≡ true → 1 ≤ W) → n ≤ W → at + W ≤ end → end_of (cond s (operand.Scalar at) (operand.Run at)) n ≤ end
end_by true at n W end one few h = let o = one refl in omega arith
end_by false at n W end one few h = omega arith

pub end_below : (W a i n : ℕ) (x : Layout) → a < i → lawful W x ≡ true → n ≤ W → end_of (cells_of W a x) n ≤ i * W
end_below W a i n x lt law few =
    end_by (is Scalar (known x)) (a * W) n W (i * W) (λ s. let one = scalar_one x (lawful_fixed W x law) s in let r = (lawful_small W x law).rows in omega (arith, one.0)) few (under_all W a i lt)

-- ---- a row whose tests passed
module _ (p : Place) (k l : Kind) (f : List (Cell k) → List (Cell k) → Result (List (Cell l)) ElementFault) (t : Tables) (a b : ℕ) (x y form : Layout) (h : Ok form ≡ pair_guard p k l x y)
    (lx : lawful p.width x ≡ true) (ly : lawful p.width y ≡ true) (left right : Operand) (el : left ≡ cells_of p.width a x) (er : right ≡ cells_of p.width b y) where
  abbrev plan : Plan
  plan = pairwise k l f (value_from p.width t a x) (value_from p.width t b y)

  abbrev passed : (outcome p.width plan ≡ unless_outside None (finished plan.layout plan.elements)) × (plan.layout ≡ form) × (plan.ruled ≡ true) × (plan.ordered ≡ true) × (fits p.width None plan.layout ≡ true) × (plan.agree ≡ true)
  passed = tests p 0 (λ t u. Unit {0}) t t plan form (sym h)

  pub pair_elements : plan.elements ≡ f (along_table (null_of k) (table_of k t) left (form.r * form.s)) (along_table (null_of k) (table_of k t) right (form.r * form.s))
  pair_elements =
      let n = area (pair_layout l x y) in
      let lc = left_cells k l x y passed.2 passed.5 p.width t a b lx ly in
      let rc = right_cells k l x y passed.2 passed.5 p.width t a b lx ly in
      let e : n ≡ form.r * form.s = ap area passed.1 in
      (λ i. f (lc i) (rc i)) ∙ (λ i. f (along_table (null_of k) (table_of k t) (sym el i) (e i)) (along_table (null_of k) (table_of k t) (sym er i) (e i)))

  module _ (to : ℕ) (e : to ≡ p.row * p.width) (few : form.r * form.s ≤ p.width) where
    pub left_end : a < p.row → end_of left (form.r * form.s) ≤ to
    left_end lt = let m = end_below p.width a p.row (form.r * form.s) x lt lx few in omega (arith, ap (λ (o : Operand). end_of o (form.r * form.s)) el)

    pub right_end : b < p.row → end_of right (form.r * form.s) ≤ to
    right_end lt = let m = end_below p.width b p.row (form.r * form.s) y lt ly few in omega (arith, ap (λ (o : Operand). end_of o (form.r * form.s)) er)
