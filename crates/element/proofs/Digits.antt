-- The decimal of a number below 2^32: how long it is, and where it is written.
use Rattle.std.proofs.Common.{◌≡◌, ℕ, zero, suc, ◌+◌, ◌*◌, ◌/◌, ◌%◌, ◌^◌, ◌<◌, ◌≤◌, true, List, [], ◌∷◌, length, set, ℤ, pos, negsuc, nat_abs, decimal, sym, refl, ap, ◌∙◌, arith, ltb-true}
use Rattle.std.proofs.Math.Nat.{pow-succ', one-le-pow}
use lib.Signed.{mag, lt_z}
use Rattle.std.proofs.lemmas.Fmt.{decimal_digit, decimal_step}
use Rattle.std.proofs.lemmas.List.{length_push}
use Rattle.std.proofs.lemmas.Bool.{lt-ltb, cond-true}
use Rattle.element.specs.Cells.{put}
use Rattle.element.specs.Elements.{integer_text}
use Rattle.element.proofs.Writes.{put_one, put_put}

pub length_digit : (n : ℕ) → n < 10 → length (decimal n) ≡ 1
length_digit n h = ap length (decimal_digit n h)

length_step : (n : ℕ) → 10 ≤ n → n < 2 ^ 32 → length (decimal n) ≡ length (decimal (n / 10)) + 1
length_step n h l = ap length (decimal_step n h (omega arith)) ∙ length_push (decimal (n / 10)) (48 + n % 10)

-- a number from 10 ^ k on, and below 10 ^ (k + 1), has k + 1 digits
pub length_log : (k n : ℕ) → 10 ^ k ≤ n → n < 10 * 10 ^ k → n < 2 ^ 32 → length (decimal n) ≡ k + 1
length_log zero n low high l = length_digit n (omega arith)
length_log (suc k) n low high l =
    let e : 10 ^ suc k ≡ 10 * 10 ^ k = pow-succ' 10 k in
    let some : 1 ≤ 10 ^ k = one-le-pow k 10 (omega arith) in
    omega (arith, length_step n (omega arith) l, length_log k (n / 10) (omega arith) (omega arith) (omega arith))

pub put_digit : (T : List ℕ) (at n : ℕ) → n < 10 → at < length T → set T at (48 + n) ≡ put T at (decimal n)
put_digit T at n h l = put_one T at (48 + n) l ∙ ap (put T at) (sym (decimal_digit n h))

-- a sign, and the decimal behind it
pub put_sign : (T : List ℕ) (at n : ℕ) → at < length T → put (set T at 45) (at + 1) (decimal n) ≡ put T at (45 ∷ decimal n)
put_sign T at n h = ap (λ (xs : List ℕ). put xs (at + 1) (decimal n)) (put_one T at 45 h) ∙ put_put T (45 ∷ []) (decimal n) at 1 refl (omega arith)

pub text_negative : (z : ℤ) → mag z < 2 ^ 31 → lt_z z (pos 0) ≡ true → integer_text z ≡ 45 ∷ decimal (nat_abs z)
text_negative (pos n) h e = absurd (omega (arith, ltb-true n 0 e))
text_negative (negsuc n) h e = cond-true _ _ _ (lt-ltb n (2 ^ 31) h)
