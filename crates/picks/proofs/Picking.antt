-- Loops that pick elements by indices.
use Rattle.std.proofs.Common.{◌≡◌, ℕ, ◌+◌, ◌-◌, ◌*◌, ◌<◌, ◌≤◌, List, [], map, length, get_or, take, drop, set, ℤ, pos, Some, None, Ok, Err, Option, Result, sym, refl, ap, ◌∙◌, subst, suc-mul, arith}
use lib.Seq.{paste}
use borrow.Rule.Slice.PartMut.{put_mid}
use Rattle.std.proofs.lemmas.Slice.{put_mid-paste}
use Rattle.std.proofs.lemmas.List.{length-map, get_or-map, get_or_default, take_all}
use Rattle.picks.specs.declared.indices.Outside.{Outside}
use Rattle.element.specs.Cells.{put, cells, joined}
use Rattle.picks.specs.Indices.{place_of, first_outside, or_else, first_outside2}
use Rattle.picks.specs.Picks.{picked, crossed, told, Guarded}
use Rattle.element.proofs.Writes.{write_first, written_whole, part_cells}
use Rattle.element.proofs.Lines.{Wide, line_more, length_joined_all}

module _ {X : Type 0} (null : X) (xs : List X) (js : List ℤ) where
  pub length_picked : length (picked null xs js) ≡ length js
  length_picked = length-map js (λ j. get_or xs (place_of j) null)

  -- a turn that picks the element at a place
  pub pick_more : (T S : List X) (i place : ℕ) (x : X) → length T ≡ length js → S ≡ paste T 0 (picked null xs js) i → i < length T → x ≡ get_or xs place x → place ≡ place_of (get_or js i (pos 0)) → place < length xs → set S i x ≡ paste T 0 (picked null xs js) (i + 1)
  pick_more T S i place x l s h read at inside =
      let more : i < length js = omega arith in
      write_first T (picked null xs js) S i x s h (omega (arith, length_picked))
      (read ∙ get_or_default xs place x null inside ∙ ap (λ (k : ℕ). get_or xs k null) at ∙ sym (get_or-map (λ j. get_or xs (place_of j) null) js i (pos 0) x more))

  pub pick_all : (T S : List X) (i : ℕ) → length T ≡ length js → S ≡ paste T 0 (picked null xs js) i → length T ≤ i → S ≡ picked null xs js
  pick_all T S i l s h = written_whole T (picked null xs js) S i s h (length_picked ∙ sym l)

-- the end of a guarded write where nothing is outside
module _ {X : Type 0} (o : Option ℕ) (T new : List X) (r : Result (Unit {0}) Outside) (T' : List X) where
  pub guarded_ok : None ≡ o → r ≡ Ok tt → T' ≡ new → Guarded o T new r T'
  guarded_ok e is after = let P : Option ℕ → Type 0 = λ o. Guarded o T new r T' in subst P e (is, after)

-- what a check tells
pub told_none : (o : Option ℕ) → Ok tt ≡ told o → None ≡ o
told_none None e = refl
told_none (Some k) e = let z : ◌≡◌ {A = ℕ} 0 1 = cc in absurd (omega arith)

told_first : (o p : Option ℕ) (x : Outside) → Err x ≡ told o → Err x ≡ told (or_else o p)
told_first None p x e = let z : ◌≡◌ {A = ℕ} 0 1 = cc in absurd (omega arith)
told_first (Some k) p x e = e

module _ (r s : ℕ) (is js : List ℤ) where
  pub told_rows : (x : Outside) → Err x ≡ told (first_outside 1 r is) → Err x ≡ told (first_outside2 r s is js)
  told_rows x e = told_first (first_outside 1 r is) (first_outside (length is + 1) s js) x e

  pub told_columns : (h : ℕ) (z : Result (Unit {0}) Outside) → Ok tt ≡ told (first_outside 1 r is) → h ≡ length is → z ≡ told (first_outside (h + 1) s js) → z ≡ told (first_outside2 r s is js)
  told_columns h z e l f =
      f ∙ ap (λ (n : ℕ). told (first_outside (n + 1) s js)) l ∙ ap (λ (o : Option ℕ). told (or_else o (first_outside (length is + 1) s js))) (told_none (first_outside 1 r is) e)

pub guarded_told : {X : Type 0} (o : Option ℕ) (T new : List X) (r : Result (Unit {0}) Outside) (T' : List X) (x : Outside) → r ≡ Err x → Err x ≡ told o → T' ≡ T → Guarded o T new r T'
guarded_told None T new r T' x e h same = let z : ◌≡◌ {A = ℕ} 0 1 = cc in absurd (omega arith)
guarded_told (Some k) T new r T' x e h same = (e ∙ h, same)

-- a matrix xs of r rows and s columns, picked row by row
module _ {X : Type 0} (null : X) (xs : List X) (s : ℕ) (is js : List ℤ) where
  abbrev pub lines : List (List X)
  lines = map (λ i. picked null (cells xs (place_of i * s) s) js) is

  get_or_lines : (k : ℕ) → k < length is → get_or lines k [] ≡ picked null (cells xs (place_of (get_or is k (pos 0)) * s) s) js
  get_or_lines k h = get_or-map (λ i. picked null (cells xs (place_of i * s) s) js) is k (pos 0) [] h

  length_lines : length lines ≡ length is
  length_lines = length-map is (λ i. picked null (cells xs (place_of i * s) s) js)

  wide_lines : Wide (length js) lines
  wide_lines k h = let l : k < length is = omega (arith, length_lines) in ap length (get_or_lines k l) ∙ length_picked null (cells xs (place_of (get_or is k (pos 0)) * s) s) js

  -- a turn: row k is written behind the k rows before it
  pub cross_more : (T S : List X) (w k row : ℕ) (new : List X) → length js ≡ w → k < length is → row ≡ place_of (get_or is k (pos 0)) → S ≡ put T 0 (joined (take k lines))
      → new ≡ picked null (take (row * s + s - row * s) (drop (row * s) xs)) js → put_mid (k * w) ((k + 1) * w - k * w) S new ≡ put T 0 (joined (take (k + 1) lines))
  cross_more T S w k row new e h at s' is' =
      let z : 0 + k * w ≡ k * w = omega arith in
      let n : (k + 1) * w - k * w ≡ w = omega (arith, suc-mul k w) in
      let line : new ≡ get_or lines k [] =
      is' ∙ ap (λ (ys : List X). picked null ys js) (part_cells xs (row * s) s) ∙ ap (λ (p : ℕ). picked null (cells xs (p * s) s) js) at ∙ sym (get_or_lines k h) in
      let l : length (get_or lines k []) ≡ w = wide_lines k (omega (arith, length_lines)) ∙ e in
      line_more T S (put_mid (k * w) ((k + 1) * w - k * w) S new) 0 (length js) k lines wide_lines (omega (arith, length_lines)) (omega arith) s'
      (put_mid-paste (k * w) ((k + 1) * w - k * w) S new (get_or lines k []) (length (get_or lines k [])) line (l ∙ sym n) refl ∙ ap (λ (m : ℕ). put S m (get_or lines k [])) (sym z ∙ ap (λ (m : ℕ). 0 + k * m) (sym e)))

  pub cross_all : (T S : List X) (k : ℕ) → length T ≡ length is * length js → length is ≤ k → S ≡ put T 0 (joined (take k lines)) → S ≡ crossed null s xs is js
  cross_all T S k l h e =
      let whole : length (joined lines) ≡ length is * length js = length_joined_all (length js) lines wide_lines ∙ ap (λ (n : ℕ). n * length js) length_lines in
      written_whole T (joined lines) S (length (joined lines))
      (e ∙ ap (λ (ls : List (List X)). put T 0 (joined ls)) (take_all k lines (omega (arith, length_lines)))) (omega (arith, whole)) (whole ∙ sym l)
