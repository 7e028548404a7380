-- Rows that choose elements by indices: their tests, their elements and their answers are those of the rule.
use Rattle.expressions.specs.Answers.{answered}
use Rattle.std.proofs.Common.{◌≡◌, ℕ, ◌+◌, ◌*◌, ◌≤◌, true, cond, not, ◌&&◌, List, Some, None, Ok, Option, Result, sym, ap, ◌∙◌, subst, one-mul}
use Rattle.std.proofs.lemmas.Bool.{and_parts}
use Rattle.types.specs.declared.kinds.Kind.{Kind}
use Rattle.types.specs.declared.kinds.Kind.TheVariants.{Integer}
use Rattle.types.specs.declared.kinds.Shape.TheVariants.{Scalar, Vector, Matrix}
use Rattle.types.specs.Typings.{is, of, index}
use Rattle.arithmetic.specs.declared.faults.ElementFault.{ElementFault}
use Rattle.fault.specs.declared.faults.Fault.{Fault}
use Rattle.element.specs.Cells.{cells, put}
use Rattle.picks.specs.declared.indices.Index.{Index}
use Rattle.picks.specs.declared.indices.Outside.{Outside}
use Rattle.picks.specs.Indices.{index_count, indices_of, IndexBelow, first_outside}
use Rattle.picks.specs.Picks.{picked}
use Rattle.meaning.specs.declared.layouts.Layout.{Layout}
use Rattle.meaning.specs.declared.places.Place.{Place}
use Rattle.meaning.specs.Values.{Cell, null_of, layout_of, area, known, lawful}
use Rattle.meaning.specs.Expressions.{in_order, count, listing, pick}
use Rattle.meaning.specs.Plans.{Plan, outcome}
use Rattle.meaning.specs.States.{Tables, table_of, with_table, value_from, FreeAt}
use Rattle.meaning.specs.Works.{guards, guarded, Made, Chosen}
use Rattle.meaning.proofs.Shells.{stays, tests, left_value, left_outside}
use Rattle.meaning.proofs.Rows.{lawful_fixed, lawful_small, vector_one}
use Rattle.expressions.specs.Lists.{list_at, orderly}
use Rattle.expressions.proofs.Listing.{list_count, list_order, list_elements, list_below}
use Rattle.selections.specs.Choices.{pick_guard}

-- ---- a row whose indices were sought
module _ (p : Place) (t u : Tables) (q : Plan) (x : Layout) (h : Ok x ≡ guarded p q) where
  abbrev kind : Kind
  kind = q.layout.kind

  pub chosen_made : (o : Option ℕ) (to : ℕ) (xs : List (Cell kind)) (s : Result (Unit {0}) Outside) (r : Result Layout Fault)
      → q.outside ≡ o → q.elements ≡ Ok xs → to ≡ p.row * p.width → r ≡ answered p x s → Chosen o t (with_table kind t (put (table_of kind t) to xs)) s u → Made p (outcome p.width q) t r u
  chosen_made None to xs s r out all e er w =
      subst (λ (z : Result Layout Fault). Made p (outcome p.width q) t z u) (sym (er ∙ ap (answered p x) w.0))
      (left_value p p.row (FreeAt p.width p.row) t u q x (sym h) xs out all (w.1 ∙ ap (λ (n : ℕ). with_table kind t (put (table_of kind t) n xs)) e))
  chosen_made (Some k) to xs s r out all e er w =
      subst (λ (z : Result Layout Fault). Made p (outcome p.width q) t z u) (sym (er ∙ ap (answered p x) w.0))
      (left_outside p p.row (FreeAt p.width p.row) t u q x (sym h) k out (subst (λ (z : Tables). FreeAt p.width p.row t z) (sym w.1) (stays p.width p.row t)))

-- ---- the list of the value of layout y at row b
module _ (W : ℕ) (t : Tables) (b : ℕ) (y : Layout) (law : lawful W y ≡ true) (list : Index) (el : list ≡ list_at W t.integers b y) where
  pub read_order : orderly list ≡ in_order (value_from W t b y)
  read_order = ap orderly el ∙ sym (list_order W t b y law)

  pub read_count : index_count list ≡ count (value_from W t b y)
  read_count = ap index_count el ∙ sym (list_count W t b y law)

  pub read_indices : index (known y) ≡ true → listing Integer (value_from W t b y) ≡ indices_of list t.integers
  read_indices h =
      let k = and_parts (of Integer (known y)) (not (is Matrix (known y))) h in
      list_elements W t b y law k.0 k.1 ∙ ap (λ (l : Index). indices_of l t.integers) (sym el)

  pub read_below : (end : ℕ) → b * W + W ≤ end → IndexBelow list end
  read_below end h = subst (λ (l : Index). IndexBelow l end) (sym el) (list_below W t b y law end (lawful_small W y law).columns h)

-- ---- elements of a vector
module _ (p : Place) (t : Tables) (a b : ℕ) (x y : Layout) (lx : lawful p.width x ≡ true) (ly : lawful p.width y ≡ true) (list : Index) (el : list ≡ list_at p.width t.integers b y) where
  abbrev pub pick_at : Plan
  pick_at = pick (value_from p.width t a x) (value_from p.width t b y)

  pub pick_guarded : pick_guard p x y list ≡ guarded p pick_at
  pick_guarded =
      (λ i. guards p (is Vector (known x) && index (known y)) (read_order p.width t b y ly list el i) None (layout_of x.kind (cond (is Scalar (known y)) Scalar Vector) 1 (read_count p.width t b y ly list el i)) true)

  module _ (form : Layout) (g : Ok form ≡ pick_guard p x y list) where
    abbrev parts : (is Vector (known x) ≡ true) × (index (known y) ≡ true)
    parts = and_parts (is Vector (known x)) (index (known y)) (tests p 0 (λ t u. Unit {0}) t t pick_at form (sym (g ∙ pick_guarded))).2

    pub pick_outside : pick_at.outside ≡ first_outside 1 x.s (indices_of list t.integers)
    pick_outside = ap (first_outside 1 x.s) (read_indices p.width t b y ly list el parts.1)

    pub pick_elements : (from : ℕ) → from ≡ a * p.width → pick_at.elements ≡ Ok (picked (null_of x.kind) (cells (table_of x.kind t) from x.s) (indices_of list t.integers))
    pick_elements from e =
        let ok : List (Cell x.kind) → Result (List (Cell x.kind)) ElementFault = λ xs. Ok xs in
        let one : area x ≡ x.s = ap (λ (r : ℕ). r * x.s) (vector_one x (lawful_fixed p.width x lx) parts.0) ∙ one-mul x.s in
        (λ i. ok (picked (null_of x.kind) (cells (table_of x.kind t) (sym e i) (one i)) (read_indices p.width t b y ly list el parts.1 i)))

    pub pick_many : index_count list ≡ form.s
    pick_many = read_count p.width t b y ly list el ∙ ap (λ (f : Layout). f.s) (tests p 0 (λ t u. Unit {0}) t t pick_at form (sym (g ∙ pick_guarded))).1
