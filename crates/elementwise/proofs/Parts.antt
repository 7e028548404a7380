-- A table T that is split at `to` into F and B, where the first n cells of B are written: what is then written of T.
use Rattle.std.proofs.Common.{◌≡◌, ℕ, ◌+◌, ◌≤◌, List, ◌++◌, length, take, drop, Ok, Err, Result, ap, ◌∙◌, le_refl, arith}
use Rattle.element.specs.Cells.{put}
use Rattle.element.specs.Operands.{end_of, along}
use Rattle.element.specs.declared.operands.Operand.{Operand}
use Rattle.element.proofs.Parts.{target_long, put_target}
use Rattle.element.proofs.Writes.{take_below, drop_beyond}
use Rattle.arithmetic.specs.declared.faults.ArithmeticFault.{ArithmeticFault}
use Rattle.arithmetic.specs.declared.faults.ElementFault.{ElementFault}
use Rattle.elementwise.specs.Results.{map2, collected, Made, Wrote}
use Rattle.elementwise.proofs.Along.{along_take}
use Rattle.elementwise.proofs.Collects.{made_as}

module _ {X : Type 0} (T F B : List X) (to n : ℕ) (front : F ≡ take to T) (back : B ≡ drop to T) (within : to + n ≤ length T) where
  long_target : length (take n B) ≡ n
  long_target = target_long T F B to n front back within

  pub wrote_part : (new : List X) → length new ≡ length (take n B) → {E : Type 0} (o : Result (List X) E) (r : Result (Unit {0}) E) → Made o r new → Wrote o T to n r (F ++ (new ++ drop n B))
  wrote_part new long (Ok xs) r m = (m.0, put_target T F B to n front back within new long ∙ ap (put T to) m.1)
  wrote_part new long (Err e) r m =
      let l : length new ≡ n = long ∙ long_target in
      let p = put_target T F B to n front back within new long in
      (m, ap (take to) p ∙ take_below T to new (length new) to (le_refl to) (omega arith), ap (drop (to + n)) p ∙ drop_beyond T to new (length new) (to + n) (omega arith) (le_refl _) (omega arith))

  -- operands that end at or before `to` lie in F
  along_part : (null : X) (o : Operand) → end_of o n ≤ to → along null F o (length (take n B)) ≡ along null T o n
  along_part null o h = ap (along null F o) long_target ∙ ap (λ (xs : List X). along null xs o n) front ∙ along_take null T o to n h

  pub pairs_part : {Z : Type 0} (null : X) (f : X → X → Z) (a b : Operand) → end_of a n ≤ to → end_of b n ≤ to → map2 f (along null F a (length (take n B))) (along null F b (length (take n B))) ≡ map2 f (along null T a n) (along null T b n)
  pairs_part null f a b left right = ap (λ (xs : List X). map2 f xs (along null F b (length (take n B)))) (along_part null a left) ∙ ap (map2 f (along null T a n)) (along_part null b right)

  pub wrote_pairs : (null : X) (f : X → X → Result X ArithmeticFault) (a b : Operand) (r : Result (Unit {0}) ElementFault) (new : List X) → length new ≡ length (take n B) → end_of a n ≤ to → end_of b n ≤ to
      → Made (collected 1 (map2 f (along null F a (length (take n B))) (along null F b (length (take n B))))) r new → Wrote (collected 1 (map2 f (along null T a n) (along null T b n))) T to n r (F ++ (new ++ drop n B))
  wrote_pairs null f a b r new long left right m = wrote_part new long _ r (made_as r new (pairs_part null f a b left right) m)
