-- Lists of indices, read one by one.
use Rattle.std.proofs.Common.{◌≡◌, ℕ, zero, suc, ◌+◌, ◌-◌, ◌*◌, ◌<◌, ◌≤◌, Bool, true, false, List, [], ◌∷◌, length, get_or, take, drop, ℤ, pos, negsuc, ◌+ℤ◌, Some, None, Option, is_some, Ok, Err, Result, sym, refl, ap, ◌∙◌, subst, ⊎_elim, le_refl, arith, ltb-true}
use Rattle.element.specs.Steps.{step_count, stepped}
use Rattle.element.proofs.Stepping.{step_within}
use Rattle.std.proofs.lemmas.List.FromFn.{length-map-range_with_len, get_or-map-range_with_len}
use Rattle.std.proofs.lemmas.List.{at_drop_more, drop-drop, take-take, same_lists}
use Rattle.std.specs.Option.{ok_or}
use Rattle.std.proofs.lemmas.Bool.{cond-true, cond-false, false≢true, cases_Bool}
use Rattle.picks.specs.declared.indices.Index.{Index}
use Rattle.picks.specs.declared.indices.Index.TheVariants.{Cells, Interval}
use Rattle.element.specs.Cells.{cells}
use Rattle.picks.specs.Indices.{spanned, between, index_count, indices_of, IndexBelow, IndexAbove, place_of, place_among, inside, first_outside, AllInside}
use Rattle.element.proofs.Writes.{length_cells, get_or_cells, cells_take}

pub at_interval : (index : Index) (T : List ℤ) (z low high : ℤ) (k : ℕ) → index ≡ Interval low high → k < index_count index → z ≡ low +ℤ pos k → z ≡ get_or (indices_of index T) k (pos 0)
at_interval index T z low high k e h is =
    let P : Index → Type 0 = λ i. k < index_count i in
    is ∙ sym (get_or-map-range_with_len (λ k. low +ℤ pos k) 0 (spanned low high) k k (pos 0) (subst P e h) (omega arith)) ∙ ap (λ (i : Index). get_or (indices_of i T) k (pos 0)) (sym e)

pub length_indices : (index : Index) (T : List ℤ) → IndexBelow index (length T) → length (indices_of index T) ≡ index_count index
length_indices (Cells at n) T h = length_cells T at n h
length_indices (Interval low high) T h = length-map-range_with_len (λ k. low +ℤ pos k) 0 (spanned low high)

-- a list xs of indices, seen in T
module _ (index : Index) (T xs : List ℤ) (view : indices_of index T ≡ xs) (below : IndexBelow index (length T)) where
  pub count_listed : length xs ≡ index_count index
  count_listed = ap length (sym view) ∙ length_indices index T below

  pub at_listed : (k : ℕ) (z : ℤ) → z ≡ get_or (indices_of index T) k (pos 0) → z ≡ get_or xs k (pos 0)
  at_listed k z e = e ∙ ap (λ (js : List ℤ). get_or js k (pos 0)) view

-- an index that has no place names no element
pub placed_none : (n : ℕ) (z : ℤ) (o : Option ℕ) → o ≡ place_among n z → is_some o ≡ false → inside n z ≡ false
placed_none n z o e h =
    ⊎_elim (λ (t : inside n z ≡ true). absurd (false≢true (sym h ∙ ap is_some (e ∙ cond-true (inside n z) (Some (place_of z)) None t)))) (λ (f : inside n z ≡ false). f) (cases_Bool (inside n z))

-- an index that has a place names that element
pub placed : {E : Type 0} (n : ℕ) (z : ℤ) (o : Option ℕ) (place : ℕ) (e : E) → o ≡ place_among n z → Ok place ≡ ok_or o e → (inside n z ≡ true) × (place ≡ place_of z)
placed {E} n z o place e is h =
    ⊎_elim
    (λ (t : inside n z ≡ true). let q : ◌≡◌ {A = Result ℕ E} (Ok place) (Ok (place_of z)) = h ∙ ap (λ (x : Option ℕ). ok_or x e) (is ∙ cond-true (inside n z) (Some (place_of z)) None t) in let p : place ≡ place_of z = cc in (t, p))
    (λ (f : inside n z ≡ false). let q : ◌≡◌ {A = Result ℕ E} (Ok place) (Err e) = h ∙ ap (λ (x : Option ℕ). ok_or x e) (is ∙ cond-false (inside n z) (Some (place_of z)) None f) in let z : ◌≡◌ {A = ℕ} 0 1 = cc in absurd (omega arith))
    (cases_Bool (inside n z))

-- the k-th index is the first outside
module _ (b n : ℕ) (js : List ℤ) where
  pub outside_here : (k : ℕ) (j : ℤ) (r : Bool) → k < length js → j ≡ get_or js k (pos 0) → r ≡ inside n j → r ≡ false → first_outside (b + k + 1) n (drop k js) ≡ first_outside (b + 1) n js → Some (b + k + 1) ≡ first_outside (b + 1) n js
  outside_here k j r h at is left e =
      let t : inside n (get_or js k (pos 0)) ≡ false = sym (ap (inside n) at) ∙ sym is ∙ left in
      sym (cond-false (inside n (get_or js k (pos 0))) _ _ t) ∙ sym (at_drop_more (first_outside (b + k + 1) n) js k (pos 0) h) ∙ e

-- an index that names an element lies below their number
pub inside_bound : (n : ℕ) (z : ℤ) → inside n z ≡ true → place_of z < n
inside_bound n (pos zero) e = absurd (false≢true e)
inside_bound n (pos (suc j)) e = omega (arith, ltb-true j n e)
inside_bound n (negsuc j) e = absurd (false≢true e)

pub all_inside : (b n : ℕ) (js : List ℤ) → None ≡ first_outside b n js → AllInside n js
all_inside b n [] e k h = absurd (omega arith)
all_inside b n (j ∷ js) e zero h =
    ⊎_elim (λ (t : inside n j ≡ true). t) (λ (f : inside n j ≡ false). let z : ◌≡◌ {A = ℕ} 0 1 = cc (cond-false (inside n j) (first_outside (b + 1) n js) (Some b) f) in absurd (omega arith)) (cases_Bool (inside n j))
all_inside b n (j ∷ js) e (suc k) h =
    ⊎_elim
    (λ (t : inside n j ≡ true). all_inside (b + 1) n js (e ∙ cond-true (inside n j) (first_outside (b + 1) n js) (Some b) t) k (omega arith))
    (λ (f : inside n j ≡ false). let z : ◌≡◌ {A = ℕ} 0 1 = cc (cond-false (inside n j) (first_outside (b + 1) n js) (Some b) f) in absurd (omega arith))
    (cases_Bool (inside n j))

-- the integers that are seen beside a table, or in it, stay where the table's cells stay
module _ {E I : Type 0} (seen : I → List E → List ℤ)
    (kept : (s : I) (T S : List E) (at n : ℕ) → cells S at n ≡ cells T at n → cells (seen s S) at n ≡ cells (seen s T) at n)
    (long : (s : I) (T S : List E) → length S ≡ length T → length (seen s S) ≡ length (seen s T)) (s : I) where
  pub still_below : (index : Index) (T S : List E) (to : ℕ) → IndexBelow index to → take to S ≡ take to T → indices_of index (seen s S) ≡ indices_of index (seen s T)
  still_below (Cells at n) T S to h e = kept s T S at n (sym (cells_take S to at n h) ∙ ap (λ (xs : List E). cells xs at n) e ∙ cells_take T to at n h)
  still_below (Interval low high) T S to h e = refl

  pub still_above : (index : Index) (T S : List E) (start : ℕ) → IndexAbove index start → drop start S ≡ drop start T → indices_of index (seen s S) ≡ indices_of index (seen s T)
  still_above (Cells at n) T S start h e =
      let j : start + (at - start) ≡ at = omega arith in
      kept s T S at n
      (ap (λ (k : ℕ). take n (drop k S)) (sym j) ∙ ap (take n) (sym (drop-drop (at - start) start S) ∙ ap (drop (at - start)) e ∙ drop-drop (at - start) start T) ∙ ap (λ (k : ℕ). take n (drop k T)) j)
  still_above (Interval low high) T S start h e = refl

  -- where a table is split behind the cells of the indices
  pub still_front : (index : Index) (T F : List E) (to : ℕ) → IndexBelow index to → F ≡ take to T → indices_of index (seen s F) ≡ indices_of index (seen s T)
  still_front index T F to h e = still_below index T F to h (ap (take to) e ∙ take-take to to T (le_refl to))

  pub front_count : (index : Index) (T F : List E) (to : ℕ) (js : List ℤ) → js ≡ indices_of index (seen s F) → IndexBelow index to → F ≡ take to T → IndexBelow index (length (seen s T)) → length js ≡ index_count index
  front_count index T F to js e h f k = ap length (e ∙ still_front index T F to h f) ∙ length_indices index (seen s T) k

  pub front_below : (part : (s : I) (T S : List E) (at n : ℕ) → at + n ≤ length S → at + n ≤ length (seen s T) → at + n ≤ length (seen s S)) (index : Index) (T F : List E) (to : ℕ)
      → length F ≡ to → IndexBelow index to → IndexBelow index (length (seen s T)) → IndexBelow index (length (seen s F))
  front_below part (Cells at n) T F to e h k = part s T F at n (omega arith) k
  front_below part (Interval low high) T F to e h k = tt

-- every b-th integer of an interval
module _ (low high : ℤ) (b : ℕ) where
  pub length_between : length (between low high) ≡ spanned low high
  length_between = length-map-range_with_len (λ k. low +ℤ pos k) 0 (spanned low high)

  pub length_step_between : length (stepped (pos 0) b (between low high)) ≡ step_count (spanned low high) b
  length_step_between = length-map-range_with_len _ 0 (step_count (length (between low high)) b) ∙ ap (λ (m : ℕ). step_count m b) length_between

  pub get_or_step_between : (k : ℕ) (d : ℤ) → 0 < b → k < step_count (spanned low high) b → get_or (stepped (pos 0) b (between low high)) k d ≡ low +ℤ pos (k * b)
  get_or_step_between k d some l =
      let i : k * b < spanned low high = step_within (spanned low high) b k some l in
      let j : k < step_count (length (between low high)) b = rw length_between l in
      get_or-map-range_with_len (λ k. get_or (between low high) (k * b) (pos 0)) 0 (step_count (length (between low high)) b) k k d j (omega arith)
      ∙ get_or-map-range_with_len (λ k. low +ℤ pos k) 0 (spanned low high) (k * b) (k * b) (pos 0) i (omega arith)

pub step_one : (n : ℕ) → step_count n 1 ≡ n
step_one n = omega arith

pub stepped_one : (low high : ℤ) → stepped (pos 0) 1 (between low high) ≡ between low high
stepped_one low high =
    same_lists _ _ (length_step_between low high 1 ∙ step_one (spanned low high) ∙ sym (length_between low high 1))
    (λ k d h.
    let i : k < step_count (spanned low high) 1 = omega (arith, length_step_between low high 1) in
    let j : k < spanned low high = omega (arith, step_one (spanned low high)) in
    let e : k * 1 ≡ k = omega arith in
    get_or_step_between low high 1 k d (omega arith) i ∙ ap (λ (m : ℕ). low +ℤ pos m) e ∙ sym (get_or-map-range_with_len (λ k. low +ℤ pos k) 0 (spanned low high) k k d j (omega arith)))
