-- A loop that writes the list R, cell by cell, into a table T from `to` on.
use Rattle.std.proofs.Common.{◌≡◌, ℕ, ◌+◌, ◌-◌, ◌<◌, ◌≤◌, List, [], ◌∷◌, ◌++◌, length, get_or, take, drop, set, replicate, sym, refl, ap, ◌∙◌, ⊎_elim, zero-add, subst, arith}
use lib.Seq.{paste}
use borrow.Rule.Slice.PartMut.{put_mid}
use Rattle.std.proofs.lemmas.Slice.{put_mid-paste}
use Rattle.std.proofs.lemmas.List.Edits.{paste_none, paste_all, paste_more, paste-paste, drop-paste, length-paste}
use Rattle.std.proofs.lemmas.List.{get_or-take, length-append, length-take-le, length-take, length-drop, length-replicate, get_or-drop, take-append-le, take-take, drop-take, drop-drop, take_all, drop_all, append-nil}
use Rattle.std.proofs.lemmas.Bool.{cases_lt}
use Rattle.element.specs.Cells.{put, cells, padded}

module _ {X : Type 0} (T : List X) (to : ℕ) (R : List X) where
  -- what lies below `to` is as it was
  pub take_below : (i k : ℕ) → k ≤ to → to ≤ length T → take k (paste T to R i) ≡ take k T
  take_below i k h within =
      let l : k ≤ length (take to T) = simp length-take-le (omega arith) in
      let m : k ≤ length (take to T ++ take i R) = simp length-append (omega arith) in
      take-append-le k (take to T ++ take i R) _ m ∙ take-append-le k (take to T) _ l ∙ take-take k to T h

  pub read_below : (S : List X) (i k : ℕ) (d : X) → S ≡ paste T to R i → k < to → to ≤ length T → get_or S k d ≡ get_or T k d
  read_below S i k d e h within =
      sym (get_or-take to S k d h) ∙ ap (λ (s : List X). get_or (take to s) k d) e ∙ ap (λ (s : List X). get_or s k d) (take_below i to (omega arith) within) ∙ get_or-take to T k d h

  -- and so is what lies behind the cells that are written
  pub drop_beyond : (i m : ℕ) → to + i ≤ m → i ≤ length R → to ≤ length T → drop m (paste T to R i) ≡ drop m T
  drop_beyond i m h fits within =
      let j : to + i + (m - (to + i)) ≡ m = omega arith in
      ap (λ (k : ℕ). drop k (paste T to R i)) (sym j) ∙ sym (drop-drop (m - (to + i)) (to + i) (paste T to R i)) ∙ ap (drop (m - (to + i))) (drop-paste T to R i within fits) ∙ drop-drop (m - (to + i)) (to + i) T ∙ ap (λ (k : ℕ). drop k T) j

  -- a turn: S is the table after i cells, and v the next one
  pub write_more : (S : List X) (i : ℕ) (v : X) → S ≡ paste T to R i → to + i < length T → i < length R → v ≡ get_or R i v → set S (to + i) v ≡ paste T to R (i + 1)
  write_more S i v e h k read =
      ap (λ (s : List X). set s (to + i) v) e ∙ ap (set (paste T to R i) (to + i)) read ∙ paste_more T to R i v h k

  -- the part below `to`, as `&table[0..to]` lends it
  pub still_below : (S : List X) (i : ℕ) → S ≡ paste T to R i → to ≤ length T → take (to - 0) S ≡ take to T
  still_below S i e within = let z : to - 0 ≡ to = omega arith in ap (λ (k : ℕ). take k S) z ∙ ap (take to) e ∙ take_below i to (omega arith) within

module _ {X : Type 0} where
  -- the part `table[at..at + n]`, and the table after it is written anew
  pub part_cells : (T : List X) (at n : ℕ) → take (at + n - at) (drop at T) ≡ cells T at n
  part_cells T at n = let e : at + n - at ≡ n = omega arith in ap (λ (k : ℕ). take k (drop at T)) e

  pub put_part : (T S R : List X) (at n : ℕ) → S ≡ R → length R ≡ n → put_mid at (at + n - at) T S ≡ put T at R
  put_part T S R at n e l = put_mid-paste at (at + n - at) T S R (length R) e (omega arith) refl

  -- a turn of a loop that writes a table from its start, and its end
  pub write_first : (T R S : List X) (i : ℕ) (v : X) → S ≡ paste T 0 R i → i < length T → i < length R → v ≡ get_or R i v → set S i v ≡ paste T 0 R (i + 1)
  write_first T R S i v e h k read = subst (λ (j : ℕ). set S j v ≡ paste T 0 R (i + 1)) (zero-add i) (write_more T 0 R S i v e (omega arith) k read)

  pub written_whole : (T R S : List X) (i : ℕ) → S ≡ paste T 0 R i → length T ≤ i → length R ≡ length T → S ≡ R
  written_whole T R S i e h l = e ∙ grind (arith, paste_all, append-nil, drop_all, take_all)

  pub length_cells : (T : List X) (at n : ℕ) → at + n ≤ length T → length (cells T at n) ≡ n
  length_cells T at n h = length-take-le n (drop at T) (simp length-drop (omega arith))

  pub get_or_cells : (T : List X) (at n k : ℕ) (d : X) → k < n → get_or (cells T at n) k d ≡ get_or T (at + k) d
  get_or_cells T at n k d h = get_or-take n (drop at T) k d h ∙ get_or-drop at T k d

  pub length_padded : (blank : X) (n : ℕ) (xs : List X) → length (padded blank n xs) ≡ n
  length_padded blank n xs = simp (length-append, length-take, length-replicate) (omega arith)

  -- two writes, the second behind the first
  pub put_put : (T xs ys : List X) (to m : ℕ) → length xs ≡ m → to ≤ length T → put (put T to xs) (to + m) ys ≡ put T to (xs ++ ys)
  put_put T xs ys to m e h =
      ap (λ (k : ℕ). paste (put T to xs) (to + k) ys (length ys)) (sym e) ∙ paste-paste T to xs ys (length xs) (length ys) refl refl h ∙ ap (paste T to (xs ++ ys)) (sym (length-append xs ys))

  -- the cells below a write are as they were
  pub cells_below : (T R : List X) (to at n : ℕ) → at + n ≤ to → to ≤ length T → cells (put T to R) at n ≡ cells T at n
  cells_below T R to at n below within =
      sym (drop-take at n (put T to R)) ∙ ap (drop at) (take_below T to R (length R) (at + n) below within) ∙ drop-take at n T

  -- a part of some cells
  pub take_cells : (T : List X) (at n k : ℕ) → k ≤ n → take k (cells T at n) ≡ cells T at k
  take_cells T at n k h = take-take k n (drop at T) h

  -- what is cut or padded, in two parts
  pub padded_parts : (null : X) (T : List X) (from have want kept : ℕ) → from + have ≤ length T → kept ≤ have → kept ≤ want → (want ≤ have → kept ≡ want) → (have ≤ want → kept ≡ have) → cells T from kept ++ replicate (want - kept) null ≡ padded null want (cells T from have)
  padded_parts null T from have want kept h l m cut pad =
      let e : length (cells T from have) ≡ have = length_cells T from have h in
      ⊎_elim
      (λ (j : want < have).
      let k : kept ≡ want = cut (omega arith) in
      let z : want - kept ≡ want - length (cells T from have) = omega arith in
      ap (λ (n : ℕ). cells T from n ++ replicate (want - kept) null) k
      ∙ ap (λ (xs : List X). xs ++ replicate (want - kept) null) (sym (take_cells T from have want (omega arith)))
      ∙ ap (λ (n : ℕ). take want (cells T from have) ++ replicate n null) z)
      (λ (j : have ≤ want).
      let k : kept ≡ have = pad j in
      let z : want - kept ≡ want - length (cells T from have) = omega arith in
      ap (λ (n : ℕ). cells T from n ++ replicate (want - kept) null) k
      ∙ ap (λ (xs : List X). xs ++ replicate (want - kept) null) (sym (take_all want (cells T from have) (omega arith)))
      ∙ ap (λ (n : ℕ). take want (cells T from have) ++ replicate n null) z)
      (cases_lt want have)

  -- one cell written
  pub put_one : (T : List X) (at : ℕ) (v : X) → at < length T → set T at v ≡ put T at (v ∷ [])
  put_one T at v h =
      let z : at + 0 ≡ at = omega arith in
      ap (λ (k : ℕ). set T k v) (sym z) ∙ write_more T at (v ∷ []) T 0 v (paste_none T at (v ∷ [])) (omega arith) (omega arith) refl

  pub length_put : (T : List X) (at : ℕ) (R : List X) → at + length R ≤ length T → length (put T at R) ≡ length T
  length_put T at R h = length-paste T at R (length R) h (omega arith)

  -- one more cell, behind what was written
  pub put_more : (T xs : List X) (to at : ℕ) (v : X) → at ≡ to + length xs → to + length xs < length T → set (put T to xs) at v ≡ put T to (xs ++ v ∷ [])
  put_more T xs to at v e h =
      let l : at < length (put T to xs) = rw (length_put T to xs (omega arith)) (omega arith) in
      put_one (put T to xs) at v l ∙ ap (λ (k : ℕ). put (put T to xs) k (v ∷ [])) e ∙ put_put T xs (v ∷ []) to (length xs) refl (omega arith)

  -- cells of the part below `to`
  pub cells_take : (T : List X) (to at n : ℕ) → at + n ≤ to → cells (take to T) at n ≡ cells T at n
  cells_take T to at n h = sym (drop-take at n (take to T)) ∙ ap (drop at) (take-take (at + n) to T h) ∙ drop-take at n T
