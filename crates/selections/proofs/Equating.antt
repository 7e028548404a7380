-- Two values compared as wholes: the cells that the code compares are the elements that the rule names.
use Rattle.std.proofs.Common.{◌≡◌, ℕ, ◌+◌, ◌*◌, ◌<◌, ◌≤◌, Bool, true, false, cond, ◌&&◌, ◌||◌, eqb, List, length, get_or, replicate, Ok, sym, refl, ap, ◌∙◌, add-zero, arith}
use Rattle.std.proofs.lemmas.Bool.{and_parts, eqb-true}
use Rattle.types.specs.declared.kinds.Kind.{Kind}
use Rattle.types.specs.declared.kinds.Kind.TheVariants.{Boolean, Character, Integer}
use Rattle.types.specs.declared.kinds.Shape.TheVariants.{Scalar, Interval}
use Rattle.types.specs.Types.{same_kind}
use Rattle.types.specs.Typings.{is, of, pairs, matches_spread}
use Rattle.instruction.specs.declared.instructions.Equality.{Equality}
use Rattle.element.specs.Cells.{cells}
use Rattle.element.proofs.Writes.{get_or_cells}
use Rattle.meaning.specs.declared.layouts.Layout.{Layout}
use Rattle.meaning.specs.declared.places.Place.{Place}
use Rattle.meaning.specs.Values.{Cell, null_of, area, known, lawful}
use Rattle.meaning.specs.Elements.{same_cells, along}
use Rattle.meaning.specs.Expressions.{all_equal, equated}
use Rattle.meaning.specs.Plans.{Plan}
use Rattle.meaning.specs.States.{Tables, table_of, value_from}
use Rattle.meaning.specs.Works.{Ample}
use Rattle.meaning.proofs.Shells.{never, tests}
use Rattle.meaning.proofs.Rows.{as_cells, scalar_one, lawful_fixed, under_all}
use Rattle.expressions.proofs.Bounding.{cells_one}
use Rattle.tables.proofs.Same.{same_cells_sym}
use Rattle.selections.specs.Equalities.{equate_guard, same_at}

own_kind : (k : Kind) → same_kind k k ≡ true
own_kind Boolean = refl
own_kind Character = refl
own_kind Integer = refl

long_in : (p : Place) (t : Tables) (k : Kind) → Ample p (length t.booleans) (length t.characters) (length t.integers) → p.row * p.width + p.width ≤ length (table_of k t)
long_in p t Boolean h = h.booleans
long_in p t Character h = h.characters
long_in p t Integer h = h.integers

-- ---- n elements of the value of layout x at row a, by its cells
module _ (W : ℕ) (t : Tables) (k : Kind) (a : ℕ) (x : Layout) (law : lawful W x ≡ true) (kind : of k (known x) ≡ true) where
  one_area : is Scalar (known x) ≡ true → area x ≡ 1
  one_area s = let one = scalar_one x (lawful_fixed W x law) s in λ i. one.0 i * one.1 i

  along_at : (n : ℕ) → along k n (value_from W t a x) ≡ cond (is Scalar (known x)) (replicate n (get_or (table_of k t) (a * W) (null_of k))) (cells (table_of k t) (a * W) (area x))
  along_at n = ap (λ (xs : List (Cell k)). cond (is Scalar (known x)) (replicate n (get_or xs 0 (null_of k))) xs) (as_cells k x.kind t (a * W) (area x) kind) ∙ by (is Scalar (known x)) one_area
    where
      by : (s : Bool) → (s ≡ true → area x ≡ 1)
          → cond s (replicate n (get_or (cells (table_of k t) (a * W) (area x)) 0 (null_of k))) (cells (table_of k t) (a * W) (area x)) ≡ cond s (replicate n (get_or (table_of k t) (a * W) (null_of k))) (cells (table_of k t) (a * W) (area x))
      by true one = ap (replicate n) (ap (λ (m : ℕ). get_or (cells (table_of k t) (a * W) m) 0 (null_of k)) (one refl) ∙ get_or_cells (table_of k t) (a * W) 1 0 (null_of k) (omega arith) ∙ ap (λ (m : ℕ). get_or (table_of k t) m (null_of k)) (add-zero (a * W)))
      by false one = refl

-- ---- cells a of one value and b of another, of which either may be a scalar
module _ (k : Kind) (T : List (Cell k)) (a b : ℕ) where
  same_by : (u v : Bool) (i j q r : ℕ) → a < length T → (u ≡ true → i * q ≡ 1) → (v ≡ true → j * r ≡ 1) → (u ≡ false → v ≡ false → j * r ≡ i * q)
      → same_cells k (cond u (replicate (cond u j i * cond u r q) (get_or T a (null_of k))) (cells T a (i * q))) (cond v (replicate (cond u j i * cond u r q) (get_or T b (null_of k))) (cells T b (j * r)))
      ≡ cond v (same_cells k (cells T a (i * q)) (replicate (i * q) (get_or T b (null_of k)))) (cond u (same_cells k (cells T b (j * r)) (replicate (j * r) (get_or T a (null_of k)))) (same_cells k (cells T a (i * q)) (cells T b (i * q))))
  same_by true true i j q r inside one two both =
      (λ m. same_cells k (replicate (two refl m) (get_or T a (null_of k))) (replicate (two refl m) (get_or T b (null_of k))))
      ∙ (λ m. same_cells k (sym (cells_one T a (null_of k) inside) m) (replicate 1 (get_or T b (null_of k))))
      ∙ sym (λ m. same_cells k (cells T a (one refl m)) (replicate (one refl m) (get_or T b (null_of k))))
  same_by true false i j q r inside one two both = same_cells_sym k (replicate (j * r) (get_or T a (null_of k))) (cells T b (j * r))
  same_by false true i j q r inside one two both = refl
  same_by false false i j q r inside one two both = ap (λ (n : ℕ). same_cells k (cells T a (i * q)) (cells T b n)) (both refl refl)

-- sizes that match, where neither is a scalar
match_area : (u v : Bool) (i j q r : ℕ) → (u || (v || (eqb i j && eqb q r))) ≡ true → u ≡ false → v ≡ false → j * r ≡ i * q
match_area true v i j q r h f g = never (sym f)
match_area false true i j q r h f g = never (sym g)
match_area false false i j q r h f g = let b = and_parts (eqb i j) (eqb q r) h in let e = eqb-true i j b.0 in let d = eqb-true q r b.1 in λ m. sym e m * sym d m

module _ (p : Place) (op : Equality) (t : Tables) (a b : ℕ) (x y form : Layout) (g : Ok form ≡ equate_guard p x y) (lx : lawful p.width x ≡ true) (ly : lawful p.width y ≡ true) where
  abbrev pub equate_at : Plan
  equate_at = equated op (value_from p.width t a x) (value_from p.width t b y)

  kinds : of x.kind (known y) ≡ true
  kinds = (and_parts (of x.kind (known y)) (pairs (known x) (known y) || (is Interval (known x) && is Interval (known y))) (tests p 0 (λ t u. Unit {0}) t t equate_at form (sym g)).2).0

  sizes : matches_spread (known x) (known y) ≡ true
  sizes = (tests p 0 (λ t u. Unit {0}) t t equate_at form (sym g)).5

  pub equal_cells : 1 < p.width → a < p.row → Ample p (length t.booleans) (length t.characters) (length t.integers)
      → all_equal (value_from p.width t a x) (value_from p.width t b y) ≡ same_at t x y (a * p.width) (b * p.width)
  equal_cells wide lt ample =
      let k = x.kind in
      let W = p.width in
      let n : ℕ = cond (is Scalar (known x)) y.r x.r * cond (is Scalar (known x)) y.s x.s in
      let far = under_all W a p.row lt in
      let long = long_in p t k ample in
      (λ i. same_cells k (along_at W t k a x lx (own_kind k) n i) (along_at W t k b y ly kinds n i))
      ∙ same_by k (table_of k t) (a * W) (b * W) (is Scalar (known x)) (is Scalar (known y)) x.r y.r x.s y.s (omega (arith, far, long, wide))
      (one_area W t k a x lx (own_kind k)) (one_area W t k b y ly kinds) (match_area (is Scalar (known x)) (is Scalar (known y)) x.r y.r x.s y.s sizes)
