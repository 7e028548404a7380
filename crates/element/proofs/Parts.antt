-- A table T that is split at `to` into F and B, where the first n cells of B are written: how the parts make the whole.
use Rattle.std.proofs.Common.{◌≡◌, ℕ, ◌+◌, ◌-◌, ◌≤◌, List, ◌++◌, length, take, drop, sym, ap, ◌∙◌, append_assoc, le_refl, arith}
use Rattle.std.proofs.lemmas.List.{length-take-le, length-drop, drop-drop, take_all}
use Rattle.element.specs.Cells.{put, cells}
use Rattle.element.proofs.Writes.{cells_take, part_cells}

module _ {X : Type 0} (T F B : List X) (to n : ℕ) (front : F ≡ take to T) (back : B ≡ drop to T) (within : to + n ≤ length T) where
  pub target_long : length (take n B) ≡ n
  target_long = ap (λ (xs : List X). length (take n xs)) back ∙ length-take-le n (drop to T) (omega (arith, length-drop to T))

  pub put_target : (new : List X) → length new ≡ length (take n B) → F ++ (new ++ drop n B) ≡ put T to new
  put_target new long =
      let e : length new ≡ n = long ∙ target_long in
      ap (λ (xs : List X). xs ++ (new ++ drop n B)) front
      ∙ ap (λ (xs : List X). take to T ++ (new ++ drop n xs)) back
      ∙ ap (λ (xs : List X). take to T ++ (new ++ xs)) (drop-drop n to T)
      ∙ sym (append_assoc (take to T) new (drop (to + n) T))
      ∙ ap (λ (xs : List X). (take to T ++ xs) ++ drop (to + n) T) (sym (take_all (length new) new (le_refl _)))
      ∙ ap (λ (k : ℕ). (take to T ++ take (length new) new) ++ drop (to + k) T) (sym e)

-- cells that lie in the front
pub front_cells : {X : Type 0} (T F : List X) (to at n : ℕ) → F ≡ take to T → at + n ≤ to → take (at + n - at) (drop at F) ≡ cells T at n
front_cells {X} T F to at n front h = part_cells F at n ∙ ap (λ (xs : List X). cells xs at n) front ∙ cells_take T to at n h
