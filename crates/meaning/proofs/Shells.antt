-- What the code of any row owes: its operands, the tests of its plan, its elements.
use Rattle.std.proofs.Common.{◌≡◌, ℕ, ◌+◌, ◌-◌, ◌*◌, ◌≤◌, Bool, true, false, List, length, take, drop, IsErrAnd, Some, None, Ok, Err, Option, Result, sym, refl, ap, ◌∙◌, subst, arith, drop-drop}
use Rattle.std.proofs.lemmas.Result.{err_from_is_err_and}
use Rattle.arithmetic.specs.declared.faults.ElementFault.{ElementFault}
use Rattle.fault.specs.declared.causes.Cause.TheVariants.{Arithmetic, Index, SizesDiffer, Beyond, Disordered, NoRule}
use Rattle.fault.specs.declared.faults.Fault.{Fault}
use Rattle.meaning.specs.declared.layouts.Layout.{Layout}
use Rattle.meaning.specs.declared.slips.Slip.{Slip}
use Rattle.meaning.specs.declared.places.Place.{Place}
use Rattle.meaning.specs.Values.{Cell, Value, value_of}
use Rattle.meaning.specs.Plans.{Plan, Outcome, outcome, unless, unless_outside, finished, fits, with}
use Rattle.meaning.specs.States.{Tables, layout_at, valued, value_from, value_in, placed_in, Elsewhere, FreeAt}
use Rattle.meaning.specs.Expressions.{by1, by2, by3}
use Rattle.meaning.specs.Works.{refuse, fault_at, guards, guarded, found, Left, Made}

pub never : {P : Type 0} → false ≡ true → P
never h = cc

pub stays : (W i : ℕ) (t : Tables) → FreeAt W i t t
stays W i t k = record { long = refl; before = refl; after = refl }

-- ---- a row, the cells that it may fill, and what a fault may leave
module _ (p : Place) (i : ℕ) (May : Tables → Tables → Type 0) (t u : Tables) where
  -- the tests of a plan
  module _ (q : Plan) where
    abbrev told : Outcome
    told = unless_outside q.outside (finished q.layout q.elements)

    refused : (b c d e : Bool) (f : Fault) (o : Outcome) (x : Layout) → May t u
        → refuse b (fault_at p NoRule 0) (refuse c (fault_at p Disordered 0) (refuse d (fault_at p Beyond 0) (refuse e (fault_at p SizesDiffer 0) (Ok x)))) ≡ Err f
        → Left p i May (unless b NoRule (unless c Disordered (unless d Beyond (unless e SizesDiffer o)))) t (Err f) u
    refused false c d e f o x m h = (sym h, m)
    refused true false d e f o x m h = (sym h, m)
    refused true true false e f o x m h = (sym h, m)
    refused true true true false f o x m h = (sym h, m)
    refused true true true true f o x m h = cc

    passed : (b c d e : Bool) (o : Outcome) (x y : Layout)
        → refuse b (fault_at p NoRule 0) (refuse c (fault_at p Disordered 0) (refuse d (fault_at p Beyond 0) (refuse e (fault_at p SizesDiffer 0) (Ok x)))) ≡ Ok y
        → (unless b NoRule (unless c Disordered (unless d Beyond (unless e SizesDiffer o))) ≡ o) × (x ≡ y) × (b ≡ true) × (c ≡ true) × (d ≡ true) × (e ≡ true)
    passed false c d e o x y h = cc
    passed true false d e o x y h = cc
    passed true true false e o x y h = cc
    passed true true true false o x y h = cc
    passed true true true true o x y h = (refl, cc, refl, refl, refl, refl)

    -- a test fails
    pub left_refused : (f : Fault) → guarded p q ≡ Err f → May t u → Left p i May (outcome p.width q) t (Err f) u
    left_refused f h m = refused q.ruled q.ordered (fits p.width q.counted q.layout) q.agree f told q.layout m h

    -- every test passes
    pub tests : (x : Layout) → guarded p q ≡ Ok x
        → (outcome p.width q ≡ told) × (q.layout ≡ x) × (q.ruled ≡ true) × (q.ordered ≡ true) × (fits p.width q.counted q.layout ≡ true) × (q.agree ≡ true)
    tests x h = passed q.ruled q.ordered (fits p.width q.counted q.layout) q.agree told q.layout x h

    module _ (x : Layout) (h : guarded p q ≡ Ok x) where
      by_told : (r : Result Layout Fault) → Left p i May told t r u → Left p i May (outcome p.width q) t r u
      by_told r m = subst (λ (o : Outcome). Left p i May o t r u) (sym (tests x h).0) m

      -- the elements are written
      pub left_value : (xs : List (Cell q.layout.kind)) → q.outside ≡ None → q.elements ≡ Ok xs → u ≡ placed_in p.width t i (value_of q.layout xs) → Left p i May (outcome p.width q) t (Ok x) u
      left_value xs none all e =
          by_told (Ok x) (subst (λ (o : Outcome). Left p i May o t (Ok x) u) (sym (ap (λ (m : Option ℕ). unless_outside m (finished q.layout q.elements)) none ∙ ap (finished q.layout) all))
          (ap Ok (sym (tests x h).1), e))

      -- an index is outside
      pub left_outside : (k : ℕ) → q.outside ≡ Some k → May t u → Left p i May (outcome p.width q) t (Err (fault_at p Index k)) u
      left_outside k some m =
          by_told (Err (fault_at p Index k)) (subst (λ (o : Outcome). Left p i May o t (Err (fault_at p Index k)) u) (sym (ap (λ (m : Option ℕ). unless_outside m (finished q.layout q.elements)) some)) (refl, m))

      -- an element has no result
      pub left_element : (e : ElementFault) → q.outside ≡ None → q.elements ≡ Err e → May t u → Left p i May (outcome p.width q) t (Err (fault_at p (Arithmetic e.fault) e.element)) u
      left_element e none bad m =
          by_told (Err (fault_at p (Arithmetic e.fault) e.element)) (subst (λ (o : Outcome). Left p i May o t (Err (fault_at p (Arithmetic e.fault) e.element)) u) (sym (ap (λ (m : Option ℕ). unless_outside m (finished q.layout q.elements)) none ∙ ap (finished q.layout) bad)) (refl, m))

  -- operands
  module _ (slips : List Slip) (a : ℕ) (f : Value → Outcome) where
    missing_at : (o : Option Layout) (e : Fault) → found p o ≡ Err e → May t u → Left p i May (with (valued p.width t a o) f) t (Err e) u
    missing_at None e h m = (sym h, m)
    missing_at (Some x) e h m = cc

    there_at : (o : Option Layout) (x : Layout) (r : Result Layout Fault) → found p o ≡ Ok x → Left p i May (f (value_from p.width t a x)) t r u → Left p i May (with (valued p.width t a o) f) t r u
    there_at None x r h m = cc
    there_at (Some y) x r h m = let e : x ≡ y = cc in subst (λ (z : Layout). Left p i May (f (value_from p.width t a z)) t r u) e m

    -- there is no value at row a
    pub missing : (e : Fault) → found p (layout_at p.width slips a) ≡ Err e → May t u → Left p i May (with (value_in p.width slips t a) f) t (Err e) u
    missing e h m = missing_at (layout_at p.width slips a) e h m

    -- there is one
    pub there : (x : Layout) (r : Result Layout Fault) → found p (layout_at p.width slips a) ≡ Ok x → Left p i May (f (value_from p.width t a x)) t r u → Left p i May (with (value_in p.width slips t a) f) t r u
    there x r h m = there_at (layout_at p.width slips a) x r h m

-- ---- cells that a fault leaves free
pub free_elsewhere : {X : Type 0} (W i to n : ℕ) (xs ys : List X) → to ≡ i * W → n ≤ W → length ys ≡ length xs → take to ys ≡ take to xs → drop (to + n) ys ≡ drop (to + n) xs → Elsewhere W i xs ys
free_elsewhere W i to n xs ys e few long front back =
    let m = i * W + W in
    let same : to + n + (m - (to + n)) ≡ m = omega arith in
    record {
      long = long;
      before = subst (λ (k : ℕ). take k ys ≡ take k xs) e front;
      after = ap (λ (k : ℕ). drop k ys) (sym same) ∙ sym (drop-drop (m - (to + n)) (to + n) ys) ∙ ap (drop (m - (to + n))) back ∙ drop-drop (m - (to + n)) (to + n) xs ∙ ap (λ (k : ℕ). drop k xs) same;
    }

-- ---- expression rows, by their operands
module _ (p : Place) (slips : List Slip) (t u : Tables) (r : Result Layout Fault) where
  abbrev at : ℕ → Option Value
  at = value_in p.width slips t

  abbrev from : ℕ → Layout → Value
  from a x = value_from p.width t a x

  pub made_1 : (a : ℕ) (q : Value → Plan) (x : Layout) → Ok x ≡ found p (layout_at p.width slips a)
      → Made p (outcome p.width (q (from a x))) t r u → Made p (by1 p.width at a q) t r u
  made_1 a q x ex m = there p p.row (FreeAt p.width p.row) t u slips a (λ v. outcome p.width (q v)) x r (sym ex) m

  pub made_2 : (a b : ℕ) (q : Value → Value → Plan) (x y : Layout) → Ok x ≡ found p (layout_at p.width slips a) → Ok y ≡ found p (layout_at p.width slips b)
      → Made p (outcome p.width (q (from a x) (from b y))) t r u → Made p (by2 p.width at a b q) t r u
  made_2 a b q x y ex ey m = there p p.row (FreeAt p.width p.row) t u slips a (λ v. by1 p.width at b (q v)) x r (sym ex) (made_1 b (q (from a x)) y ey m)

  pub made_3 : (a b c : ℕ) (q : Value → Value → Value → Plan) (x y z : Layout) → Ok x ≡ found p (layout_at p.width slips a) → Ok y ≡ found p (layout_at p.width slips b) → Ok z ≡ found p (layout_at p.width slips c)
      → Made p (outcome p.width (q (from a x) (from b y) (from c z))) t r u → Made p (by3 p.width at a b c q) t r u
  made_3 a b c q x y z ex ey ez m = there p p.row (FreeAt p.width p.row) t u slips a (λ v. by2 p.width at b c (q v)) x r (sym ex) (made_2 b c (q (from a x)) y z ey ez m)

  -- what the exit of a `?` returns
  pub exits : (P : Result Layout Fault → Type 0) (e : Fault) → IsErrAnd r (λ (y : Fault). y ≡ e) → P (Err e) → P r
  exits P e h m = let q = err_from_is_err_and r h in subst P (sym (q.1 ∙ ap Err q.2)) m

-- ---- expression rows whose tests fail
module _ (p : Place) (slips : List Slip) (t : Tables) (r : Result Layout Fault) (e : Fault) (exit : IsErrAnd r (λ (y : Fault). y ≡ e)) where
  pub refused_0 : (q : Plan) → Err e ≡ guarded p q → Made p (outcome p.width q) t r t
  refused_0 q h = exits p slips t t r (λ (y : Result Layout Fault). Made p (outcome p.width q) t y t) e exit (left_refused p p.row (FreeAt p.width p.row) t t q e (sym h) (stays p.width p.row t))

  pub refused_1 : (a : ℕ) (q : Value → Plan) (x : Layout) → Ok x ≡ found p (layout_at p.width slips a) → Err e ≡ guarded p (q (value_from p.width t a x)) → Made p (by1 p.width (value_in p.width slips t) a q) t r t
  refused_1 a q x ex h = made_1 p slips t t r a q x ex (refused_0 (q (value_from p.width t a x)) h)

  pub refused_2 : (a b : ℕ) (q : Value → Value → Plan) (x y : Layout) → Ok x ≡ found p (layout_at p.width slips a) → Ok y ≡ found p (layout_at p.width slips b)
      → Err e ≡ guarded p (q (value_from p.width t a x) (value_from p.width t b y)) → Made p (by2 p.width (value_in p.width slips t) a b q) t r t
  refused_2 a b q x y ex ey h = made_2 p slips t t r a b q x y ex ey (refused_0 (q (value_from p.width t a x) (value_from p.width t b y)) h)

  pub refused_3 : (a b c : ℕ) (q : Value → Value → Value → Plan) (x y z : Layout) → Ok x ≡ found p (layout_at p.width slips a) → Ok y ≡ found p (layout_at p.width slips b) → Ok z ≡ found p (layout_at p.width slips c)
      → Err e ≡ guarded p (q (value_from p.width t a x) (value_from p.width t b y) (value_from p.width t c z)) → Made p (by3 p.width (value_in p.width slips t) a b c q) t r t
  refused_3 a b c q x y z ex ey ez h = made_3 p slips t t r a b c q x y z ex ey ez (refused_0 (q (value_from p.width t a x) (value_from p.width t b y) (value_from p.width t c z)) h)

-- ---- tests that are read off cells of operands that fit
pub guards_same : (p : Place) (b o o' : Bool) (c c' : Option ℕ) (f f' : Layout) (g g' : Bool) → (b ≡ true → guards p true o c f g ≡ guards p true o' c' f' g') → guards p b o c f g ≡ guards p b o' c' f' g'
guards_same p true o o' c c' f f' g g' h = h refl
guards_same p false o o' c c' f f' g g' h = refl
