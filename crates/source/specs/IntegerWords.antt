-- Byte by byte, a word comes to the integer that it writes.
use Rattle.std.proofs.Common.{◌≡◌, ℕ, ◌+◌, ◌-◌, ◌*◌, ◌≤◌, min, Bool, true, false, cond, ◌&&◌, eqb, ltb, List, [], ◌∷◌, pos, neg_ℤ, Some, None, fold, sym, refl, ap, ◌∙◌, inl, inr, arith}
use Rattle.std.specs.Char.{is_ascii_digit}
use Rattle.std.specs.Str.{all_ascii_digits}
use Rattle.std.proofs.lemmas.Bool.{cases_lt, cond-false, le-ltb}
use Rattle.source.specs.declared.numeral.Numeral.TheVariants.{Empty, Signed, Digits, Broken}
use Rattle.source.specs.declared.numeral.Sign.{Sign}
use Rattle.source.specs.declared.numeral.Sign.TheVariants.{Plus, Minus}
use Rattle.source.specs.Integers.{onward, ranged, numeral}
use Rattle.source.specs.Numerals.{figure, step, finished}
use Rattle.source.specs.Reads.{judged, integer_told}

broken : (cs : List ℕ) → fold step Broken cs ≡ Broken
broken [] = refl
broken (c ∷ cs) = broken cs

one_more : (b : Bool) (s : Sign) (k n : ℕ) (cs : List ℕ) → fold step (Digits s k) cs ≡ cond (all_ascii_digits cs) (Digits s (min n 4294967295)) Broken → fold step (cond b (Digits s k) Broken) cs ≡ cond (b && all_ascii_digits cs) (Digits s (min n 4294967295)) Broken
one_more true s k n cs h = h
one_more false s k n cs h = broken cs

digits : (s : Sign) (n m : ℕ) (cs : List ℕ) → m ≡ min n 4294967295 → fold step (Digits s m) cs ≡ cond (all_ascii_digits cs) (Digits s (min (onward n cs) 4294967295)) Broken
digits s n m [] e = ap (Digits s) e
digits s n m (c ∷ cs) e = one_more (is_ascii_digit c) s _ _ cs (digits s (n * 10 + (c - 48)) (min (m * 10 + (c - 48)) 4294967295) cs (omega arith))

large : (s : Sign) (n : ℕ) → 4294967295 ≤ n → ranged s n ≡ None
large Plus n h = cond-false (ltb n 2147483648) (Some (pos n)) None (le-ltb n 2147483648 (omega arith))
large Minus n h = cond-false (ltb n 2147483649) (Some (neg_ℤ (pos n))) None (le-ltb n 2147483649 (omega arith))

capped : (s : Sign) (n : ℕ) → ranged s (min n 4294967295) ≡ ranged s n
capped s n = elim (cases_lt n 4294967295) [
  | inl h ↦ ap (ranged s) (omega arith)
  | inr h ↦ large s (min n 4294967295) (omega arith) ∙ sym (large s n h)
]

closed : (b : Bool) (s : Sign) (n : ℕ) → finished (cond b (Digits s (min n 4294967295)) Broken) ≡ judged (cond b (ranged s n) None)
closed true s n = ap judged (capped s n)
closed false s n = refl

after_sign : (s : Sign) (cs : List ℕ) → finished (fold step (Signed s) cs) ≡ judged (numeral s cs)
after_sign s [] = refl
after_sign s (c ∷ cs) = ap finished (digits s 0 0 (c ∷ cs) (omega arith)) ∙ closed (all_ascii_digits (c ∷ cs)) s (onward 0 (c ∷ cs))

by_sign : {X Y Z : Type 0} (f : X → Z) (g : Y → Z) (a b : Bool) (x y z : X) (p q r : Y) → f x ≡ g p → f y ≡ g q → f z ≡ g r → f (cond a x (cond b y z)) ≡ g (cond a p (cond b q r))
by_sign f g true b x y z p q r h k l = h
by_sign f g false true x y z p q r h k l = k
by_sign f g false false x y z p q r h k l = l

pub writes : (w : List ℕ) → finished (fold step Empty w) ≡ integer_told w
writes [] = refl
writes (c ∷ cs) =
    by_sign (λ x. finished (fold step x cs)) judged (eqb c 43) (eqb c 45) (Signed Plus) (Signed Minus) (figure Plus 0 c) (numeral Plus cs) (numeral Minus cs) (numeral Plus (c ∷ cs))
    (after_sign Plus cs) (after_sign Minus cs) (after_sign Plus (c ∷ cs))
