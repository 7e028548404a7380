-- The power that `checked_pow` cites is the repeated product.
use Rattle.std.proofs.Common.{◌≡◌, ℕ, zero, suc, ◌*◌, ◌%◌, ◌^◌, Bool, true, false, cond, not, eqb, ℤ, pos, negsuc, ◌*ℤ◌, neg_ℤ, sym, refl, ap, ◌∙◌, mul-zero, arith}
use native.Mathlib.Nat.{pow-succ', pow-zero}
use Rattle.std.proofs.lemmas.Bool.Decides.{nat_tests}
use Rattle.std.specs.Int as std
use Rattle.arithmetic.specs.Exact.{power}

parity : (n : ℕ) → eqb (suc n % 2) 0 ≡ not (eqb (n % 2) 0)
parity n = grind (arith, nat_tests)

minus : (a b : ℕ) → negsuc a *ℤ neg_ℤ (pos b) ≡ pos (suc a * b)
minus a zero = simp mul-zero
minus a (suc b) = refl

signs : (a p q : ℕ) (b : Bool) → q ≡ suc a * p → cond (not b) (pos q) (neg_ℤ (pos q)) ≡ negsuc a *ℤ cond b (pos p) (neg_ℤ (pos p))
signs a p q true e = ap (λ (k : ℕ). neg_ℤ (pos k)) e
signs a p q false e = ap pos e ∙ sym (minus a p)

pub power_repeats : (x : ℤ) (n : ℕ) → std.int_pow x n ≡ power x n
power_repeats (pos a) zero = ap pos (pow-zero a)
power_repeats (pos a) (suc n) = ap pos (pow-succ' a n) ∙ ap (λ (z : ℤ). pos a *ℤ z) (power_repeats (pos a) n)
power_repeats (negsuc a) zero = ap pos (pow-zero (suc a))
power_repeats (negsuc a) (suc n) =
    ap (λ (b : Bool). cond b (pos (suc a ^ suc n)) (neg_ℤ (pos (suc a ^ suc n)))) (parity n)
    ∙ signs a (suc a ^ n) (suc a ^ suc n) (eqb (n % 2) 0) (pow-succ' (suc a) n)
    ∙ ap (λ (z : ℤ). negsuc a *ℤ z) (power_repeats (negsuc a) n)
