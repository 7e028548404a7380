-- Cells of rows under a write, and the values that rows hold after an effect.
use Rattle.std.proofs.Common.{◌≡◌, ℕ, suc, ◌+◌, ◌-◌, ◌*◌, ◌<◌, ◌≤◌, true, ◌&&◌, leb, ◌⊎◌, List, ◌++◌, length, take, drop, set, Some, None, Option, sym, refl, ap, ◌∙◌, subst, inl, inr, ⊎_elim, mul-le-mul_right, suc-mul, arith, take-take, drop-drop}
use lib.Seq.{take-paste, drop-paste, take-append-le, take-length}
use Rattle.std.proofs.lemmas.List.{drop-take, drop_at, length-take-le, length-append, length-drop, get_or-set_same, get_or-set_other}
use Rattle.std.proofs.lemmas.Bool.{and_parts, leb-true, cases_lt, cases_Bool, cond-true, cond-false}
use Rattle.types.specs.declared.kinds.Kind.{Kind}
use Rattle.types.specs.declared.kinds.Kind.TheVariants.{Boolean, Character, Integer}
use Rattle.element.specs.Cells.{cells, put}
use Rattle.element.proofs.Writes.{length_put}
use Rattle.meaning.specs.declared.layouts.Layout.{Layout}
use Rattle.meaning.specs.declared.slips.Slip.{Slip}
use Rattle.meaning.specs.Values.{Cell, layout_of, area, fixed, within, lawful, Value, value_of}
use Rattle.meaning.specs.States.{State, Tables, table_of, with_table, blank_slip, slip_of, slip_at, value_from, layout_by, layout_at, valued, value_in, value_at, placed_in, taking, refilled, blanked, holding, Elsewhere, FreeAt}
use Rattle.laws.specs.Laws.{Whole, Roomy, Stands, Effects}

-- ---- a table with the list R written from `to` on
module _ {X : Type 0} (T R : List X) (to : ℕ) where
  pub take_under : (k : ℕ) → k ≤ to → to ≤ length T → take k (put T to R) ≡ take k T
  take_under k h fits =
      let l : k ≤ length (take to T) = simp length-take-le (omega arith) in
      let m : k ≤ length (take to T ++ take (length R) R) = simp length-append (omega arith) in
      take-append-le k (take to T ++ take (length R) R) _ m ∙ take-append-le k (take to T) _ l ∙ take-take k to T h

  pub drop_over : (m : ℕ) → to + length R ≤ m → to ≤ length T → drop m (put T to R) ≡ drop m T
  drop_over m h fits =
      let n = to + length R in
      let j : n + (m - n) ≡ m = omega arith in
      ap (λ (k : ℕ). drop k (put T to R)) (sym j) ∙ sym (drop-drop (m - n) n (put T to R)) ∙ ap (drop (m - n)) (drop-paste T to R (length R) fits (omega arith)) ∙ drop-drop (m - n) n T ∙ ap (λ (k : ℕ). drop k T) j

  pub cells_own : to ≤ length T → cells (put T to R) to (length R) ≡ R
  cells_own fits =
      let l : length (take to T) ≡ to = length-take-le to T fits in
      sym (drop-take to (length R) (put T to R)) ∙ ap (drop to) (take-paste T to R (length R) fits (omega arith) ∙ ap (λ (xs : List X). take to T ++ xs) (take-length R)) ∙ drop_at (take to T) R to l

  pub cells_under : (at n : ℕ) → at + n ≤ to → to ≤ length T → cells (put T to R) at n ≡ cells T at n
  cells_under at n under fits = sym (drop-take at n (put T to R)) ∙ ap (drop at) (take_under (at + n) under fits) ∙ drop-take at n T

  pub cells_over : (at n : ℕ) → to + length R ≤ at → to ≤ length T → cells (put T to R) at n ≡ cells T at n
  cells_over at n over fits = ap (take n) (drop_over at over fits)

-- ---- rows of W cells
-- two rows lie apart
pub apart : (W i j : ℕ) → (j ≡ i → ⊥) → (j * W + W ≤ i * W) ⊎ (i * W + W ≤ j * W)
apart W i j ne =
    ⊎_elim (λ (lt : j < i). inl (let m : suc j * W ≤ i * W = mul-le-mul_right W lt in omega (arith, m, suc-mul j W)))
    (λ (le : i ≤ j). let lt : i < j = omega arith in inr (let m : suc i * W ≤ j * W = mul-le-mul_right W lt in omega (arith, m, suc-mul i W))) (cases_lt j i)

-- the cells of a row lie among those of all rows
pub under_all : (W i rows : ℕ) → i < rows → i * W + W ≤ rows * W
under_all W i rows lt = let m : suc i * W ≤ rows * W = mul-le-mul_right W lt in omega (arith, m, suc-mul i W)

pub table_own : (k : Kind) (t : Tables) (xs : List (Cell k)) → table_of k (with_table k t xs) ≡ xs
table_own Boolean t xs = refl
table_own Character t xs = refl
table_own Integer t xs = refl

-- tables keep their lengths under a write
pub table_length : (k l : Kind) (t : Tables) (to : ℕ) (R : List (Cell l)) → to + length R ≤ length (table_of l t) → length (table_of k (with_table l t (put (table_of l t) to R))) ≡ length (table_of k t)
table_length Boolean Boolean t to R h = length_put t.booleans to R h
table_length Boolean Character t to R h = refl
table_length Boolean Integer t to R h = refl
table_length Character Boolean t to R h = refl
table_length Character Character t to R h = length_put t.characters to R h
table_length Character Integer t to R h = refl
table_length Integer Boolean t to R h = refl
table_length Integer Character t to R h = refl
table_length Integer Integer t to R h = length_put t.integers to R h

-- the cells of row j after a write into row i
module _ (W i j rows : ℕ) (ne : j ≡ i → ⊥) (inside : i < rows) where
  pub cells_other : {X : Type 0} (T R : List X) (n : ℕ) → n ≤ W → length R ≤ W → rows * W ≤ length T → cells (put T (i * W) R) (j * W) n ≡ cells T (j * W) n
  cells_other T R n fits few long =
      let all = under_all W i rows inside in
      ⊎_elim (λ (h : j * W + W ≤ i * W). cells_under T R (i * W) (j * W) n (omega arith) (omega arith)) (λ (h : i * W + W ≤ j * W). cells_over T R (i * W) (j * W) n (omega arith) (omega arith)) (apart W i j ne)

  pub table_other : (k l : Kind) (t : Tables) (R : List (Cell l)) (n : ℕ) → n ≤ W → length R ≤ W → rows * W ≤ length (table_of l t)
      → cells (table_of k (with_table l t (put (table_of l t) (i * W) R))) (j * W) n ≡ cells (table_of k t) (j * W) n
  table_other Boolean Boolean t R n fits few long = cells_other t.booleans R n fits few long
  table_other Boolean Character t R n fits few long = refl
  table_other Boolean Integer t R n fits few long = refl
  table_other Character Boolean t R n fits few long = refl
  table_other Character Character t R n fits few long = cells_other t.characters R n fits few long
  table_other Character Integer t R n fits few long = refl
  table_other Integer Boolean t R n fits few long = refl
  table_other Integer Character t R n fits few long = refl
  table_other Integer Integer t R n fits few long = cells_other t.integers R n fits few long

  -- the same where only the cells of row i are free
  pub elsewhere_other : {X : Type 0} (xs ys : List X) (n : ℕ) → n ≤ W → Elsewhere W i xs ys → cells ys (j * W) n ≡ cells xs (j * W) n
  elsewhere_other xs ys n fits e =
      ⊎_elim
      (λ (h : j * W + W ≤ i * W).
      let le : j * W + n ≤ i * W = omega arith in
      sym (drop-take (j * W) n ys) ∙ ap (drop (j * W)) (sym (take-take (j * W + n) (i * W) ys le) ∙ ap (take (j * W + n)) e.before ∙ take-take (j * W + n) (i * W) xs le) ∙ drop-take (j * W) n xs)
      (λ (h : i * W + W ≤ j * W).
      let m = i * W + W in
      let same : m + (j * W - m) ≡ j * W = omega arith in
      ap (λ (q : ℕ). take n (drop q ys)) (sym same) ∙ ap (take n) (sym (drop-drop (j * W - m) m ys) ∙ ap (drop (j * W - m)) e.after ∙ drop-drop (j * W - m) m xs) ∙ ap (λ (q : ℕ). take n (drop q xs)) same)
      (apart W i j ne)

-- ---- layouts
-- a lawful value has at most W elements
pub lawful_area : (W : ℕ) (f : Layout) → lawful W f ≡ true → area f ≤ W
lawful_area W f h =
    let w = (and_parts (fixed f) (within W f.r f.s) h).1 in
    let one = (and_parts (leb f.r W) (leb f.s W && leb (f.r * f.s) W) w).1 in
    leb-true (f.r * f.s) W (and_parts (leb f.s W) (leb (f.r * f.s) W) one).1

-- a slip tells only lawful layouts
pub layout_lawful : (W : ℕ) (slip : Slip) (o : Option Kind) (f : Layout) → layout_by W slip o ≡ Some f → lawful W f ≡ true
layout_lawful W slip None f h = cc
layout_lawful W slip (Some k) f h =
    let g = layout_of k slip.shape slip.r slip.s in
    ⊎_elim
    (λ yes. let e : ◌≡◌ {A = Option Layout} (Some g) (Some f) = sym (cond-true (lawful W g) (Some g) None yes) ∙ h in let same : g ≡ f = cc in ap (lawful W) (sym same) ∙ yes)
    (λ no'. absurd (let e : ◌≡◌ {A = Option Layout} None (Some f) = sym (cond-false (lawful W g) (Some g) None no') ∙ h in let z : ◌≡◌ {A = ℕ} 0 1 = cc in omega arith))
    (cases_Bool (lawful W g))

-- a slip that tells a layout is not blank
pub layout_kind : (W : ℕ) (slip : Slip) (o : Option Kind) (f : Layout) → layout_by W slip o ≡ Some f → (k : Kind) × (o ≡ Some k)
layout_kind W slip None f h = cc
layout_kind W slip (Some k) f h = (k, refl)

-- ---- values
-- a value depends only on its own cells
pub valued_same : (W j : ℕ) (t u : Tables) (o : Option Layout) → ((f : Layout) → o ≡ Some f → cells (table_of f.kind u) (j * W) (area f) ≡ cells (table_of f.kind t) (j * W) (area f)) → valued W u j o ≡ valued W t j o
valued_same W j t u None h = refl
valued_same W j t u (Some f) h = let same = h f refl in λ m. Some (value_of f (same m))

-- where a value is found there is its layout, and it is read from the cells
pub valued_some : (W j : ℕ) (t : Tables) (o : Option Layout) (v : Value) → valued W t j o ≡ Some v → (o ≡ Some v.layout) × (value_from W t j v.layout ≡ v)
valued_some W j t None v h = cc
valued_some W j t (Some f) v h =
    let same : value_from W t j f ≡ v = cc in
    let e : f ≡ v.layout = ap (λ (x : Value). x.layout) same in
    (ap Some e, ap (value_from W t j) (sym e) ∙ same)

module _ (W rows : ℕ) (s : State) (roomy : Roomy W rows s) where
  -- a value that a row holds may exist, and is whole
  pub found : (i : ℕ) (v : Value) → i < rows → value_at W s i ≡ Some v → (lawful W v.layout ≡ true) × Whole v
  found i v inside h =
      let slip = slip_at s.slips i in
      let f = v.layout in
      let told = valued_some W i s.tables (layout_at W s.slips i) v h in
      let law = layout_lawful W slip slip.kind f told.0 in
      let room = roomy.cells f.kind in
      let few = lawful_area W f law in
      let over = under_all W i rows inside in
      let fits : area f ≤ length (drop (i * W) (table_of f.kind s.tables)) = simp length-drop (omega arith) in
      (law, subst Whole told.1 (length-take-le (area f) (drop (i * W) (table_of f.kind s.tables)) fits))

  -- rows other than i, after a write of a value into row i
  write_others : (i : ℕ) (v : Value) (slips : List Slip) → i < rows → area v.layout ≤ W → Whole v → (j : ℕ) → (j ≡ i → ⊥) → slip_at slips j ≡ slip_at s.slips j
      → value_in W slips (placed_in W s.tables i v) j ≡ value_in W s.slips s.tables j
  write_others i v slips inside few whole j ne same =
      let n : length v.elements ≤ W = omega arith in
      let slip = slip_at s.slips j in
      ap (λ (x : Slip). valued W (placed_in W s.tables i v) j (layout_by W x x.kind)) same
      ∙ valued_same W j s.tables (placed_in W s.tables i v) (layout_at W s.slips j)
      (λ f e. table_other W i j rows ne inside f.kind v.layout.kind s.tables v.elements (area f) (lawful_area W f (layout_lawful W slip slip.kind f e)) n (roomy.cells v.layout.kind))

  -- row i itself, where its slip has the layout of the value
  write_own : (i : ℕ) (v : Value) → i < rows → area v.layout ≤ W → Whole v → value_from W (placed_in W s.tables i v) i v.layout ≡ v
  write_own i v inside few whole =
      let k = v.layout.kind in
      let all = under_all W i rows inside in
      let long = roomy.cells k in
      let same : cells (table_of k (placed_in W s.tables i v)) (i * W) (area v.layout) ≡ v.elements =
      ap (λ (T : List (Cell k)). cells T (i * W) (area v.layout)) (table_own k s.tables (put (table_of k s.tables) (i * W) v.elements))
      ∙ ap (cells (put (table_of k s.tables) (i * W) v.elements) (i * W)) (sym whole)
      ∙ cells_own (table_of k s.tables) v.elements (i * W) (omega arith) in
      λ m. value_of v.layout (same m)

  takes : (i : ℕ) (v : Value) (position : ℕ) → i < rows → lawful W v.layout ≡ true → Whole v → Stands W i (Some v) s (taking W s i v position)
  takes i v position inside law whole =
      let fits = roomy.slips in
      let few = lawful_area W v.layout law in
      let slip = slip_of v.layout position in
      let mine : slip_at (set s.slips i slip) i ≡ slip = get_or-set_same s.slips i slip blank_slip (omega arith) in
      let told : layout_at W (set s.slips i slip) i ≡ Some v.layout = ap (λ (x : Slip). layout_by W x x.kind) mine ∙ cond-true (lawful W v.layout) (Some v.layout) None law in
      record {
        own = ap (valued W (placed_in W s.tables i v) i) told ∙ ap Some (write_own i v inside few whole);
        others = λ j ne. write_others i v (set s.slips i slip) inside few whole j ne (get_or-set_other s.slips i j slip blank_slip ne);
      }

  blanks : (i : ℕ) → i < rows → Stands W i None s (blanked s i)
  blanks i inside =
      let fits = roomy.slips in
      record {
        own = ap (λ (x : Slip). valued W s.tables i (layout_by W x x.kind)) (get_or-set_same s.slips i blank_slip blank_slip (omega arith));
        others = λ j ne. ap (λ (x : Slip). valued W s.tables j (layout_by W x x.kind)) (get_or-set_other s.slips i j blank_slip blank_slip ne);
      }

  refills : (i : ℕ) (a v : Value) → i < rows → value_at W s i ≡ Some a → v.layout ≡ a.layout → Whole v → Stands W i (Some v) s (refilled W s i v)
  refills i a v inside is same whole =
      let slip = slip_at s.slips i in
      let told = (valued_some W i s.tables (layout_at W s.slips i) a is).0 ∙ ap Some (sym same) in
      let law = layout_lawful W slip slip.kind v.layout told in
      let few = lawful_area W v.layout law in
      record {
        own = ap (valued W (placed_in W s.tables i v) i) told ∙ ap Some (write_own i v inside few whole);
        others = λ j ne. write_others i v s.slips inside few whole j ne refl;
      }

  faults : (t : State) (p : ℕ) → p < rows → t ≡ holding s (set s.slips p blank_slip) t.tables → FreeAt W p s.tables t.tables → Stands W p None s t
  faults t p inside rest free =
      let fits = roomy.slips in
      let here : t.slips ≡ set s.slips p blank_slip = ap (λ (x : State). x.slips) rest in
      record {
        own = ap (λ (x : Slip). valued W t.tables p (layout_by W x x.kind)) (ap (λ (xs : List Slip). slip_at xs p) here ∙ get_or-set_same s.slips p blank_slip blank_slip (omega arith));
        others = λ j ne.
            let slip = slip_at s.slips j in
            ap (λ (x : Slip). valued W t.tables j (layout_by W x x.kind)) (ap (λ (xs : List Slip). slip_at xs j) here ∙ get_or-set_other s.slips p j blank_slip blank_slip ne)
            ∙ valued_same W j s.tables t.tables (layout_at W s.slips j)
            (λ f e. elsewhere_other W p j rows ne inside (table_of f.kind s.tables) (table_of f.kind t.tables) (area f) (lawful_area W f (layout_lawful W slip slip.kind f e)) (free f.kind));
      }

pub effects : Effects
effects = record {
  takes = λ W rows s i v position roomy. takes W rows s roomy i v position;
  refills = λ W rows s i a v roomy. refills W rows s roomy i a v;
  blanks = λ W rows s i roomy. blanks W rows s roomy i;
  faults = λ W rows s t p roomy. faults W rows s roomy t p;
}
