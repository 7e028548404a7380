-- Places that are multiples of a step.
use Rattle.std.proofs.Common.{◌≡◌, ℕ, suc, ◌+◌, ◌-◌, ◌*◌, ◌<◌, ◌≤◌, List, ◌++◌, length, get_or, take, drop, set, refl, sym, ap, ◌∙◌, suc-mul, le-div_iff_mul-le, arith}
use Rattle.std.proofs.lemmas.List.FromFn.{length-map-range_with_len, get_or-map-range_with_len}
use Rattle.std.proofs.lemmas.List.{get_or_default}
use Rattle.std.proofs.lemmas.Slice.{put_mid-paste}
use lib.Seq.{paste}
use Rattle.element.specs.Cells.{put, cells}
use Rattle.element.specs.Steps.{step_count, stepped}
use Rattle.element.proofs.Writes.{length_cells, get_or_cells, cells_take, write_first, written_whole}

-- the k-th multiple lies within
pub step_within : (n b k : ℕ) → 0 < b → k < step_count n b → k * b < n
step_within n b k h l = omega (arith, (le-div_iff_mul-le {k = b} {x = suc k} {y = n + (b - 1)} h).0 l, suc-mul k b)

module _ {X : Type 0} (null : X) (T : List X) (from n b : ℕ) (h : from + n ≤ length T) where
  pub length_stepped : length (stepped null b (cells T from n)) ≡ step_count n b
  length_stepped = length-map-range_with_len _ 0 (step_count (length (cells T from n)) b) ∙ ap (λ (m : ℕ). step_count m b) (length_cells T from n h)

  pub get_or_stepped : (k : ℕ) (d : X) → 0 < b → k < step_count n b → get_or (stepped null b (cells T from n)) k d ≡ get_or T (from + k * b) d
  get_or_stepped k d some l =
      let e : length (cells T from n) ≡ n = length_cells T from n h in
      let i : k * b < n = step_within n b k some l in
      let j : k < step_count (length (cells T from n)) b = rw e l in
      get_or-map-range_with_len (λ k. get_or (cells T from n) (k * b) null) 0 (step_count (length (cells T from n)) b) k k d j (omega arith)
      ∙ get_or_cells T from n (k * b) null i ∙ get_or_default T (from + k * b) null d (omega arith)

  -- a turn of the loop over the target, and what it leaves
  pub step_more : (D S : List X) (k : ℕ) (x : X) → 0 < b → length D ≡ step_count n b → k < length D → S ≡ paste D 0 (stepped null b (cells T from n)) k → x ≡ get_or T (from + k * b) x → set S k x ≡ paste D 0 (stepped null b (cells T from n)) (k + 1)
  step_more D S k x some e l s is =
      let j : k < step_count n b = omega arith in
      write_first D (stepped null b (cells T from n)) S k x s l (omega (arith, length_stepped)) (is ∙ sym (get_or_stepped k x some j))

  -- S is the target, which stood behind `to` in U
  pub step_all : (U D S : List X) (to k : ℕ) → from + n ≤ to → to + step_count n b ≤ length U → T ≡ take to U → D ≡ take (step_count n b) (drop to U) → S ≡ paste D 0 (stepped null b (cells T from n)) k → length D ≤ k → T ++ (S ++ drop (step_count n b) (drop to U)) ≡ put U to (stepped null b (cells U from n))
  step_all U D S to k below within front target s ends =
      let l : length D ≡ step_count n b = rw target (length_cells U to (step_count n b) within) in
      let e : S ≡ stepped null b (cells T from n) = written_whole D _ S k s ends (length_stepped ∙ sym l) in
      let same : cells T from n ≡ cells U from n = ap (λ (xs : List X). cells xs from n) front ∙ cells_take U to from n below in
      ap (λ (xs : List X). xs ++ (S ++ drop (step_count n b) (drop to U))) front
      ∙ put_mid-paste to (step_count n b) U S (stepped null b (cells T from n)) (step_count n b) e refl (sym length_stepped)
      ∙ ap (paste U to (stepped null b (cells T from n))) (sym length_stepped)
      ∙ ap (λ (xs : List X). put U to (stepped null b xs)) same
