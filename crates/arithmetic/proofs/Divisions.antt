-- Quotient and remainder, sign by sign.
use Rattle.std.proofs.Common.{◌≡◌, ℕ, zero, suc, ◌+◌, ◌*◌, ◌/◌, ◌%◌, ◌<◌, ℤ, pos, negsuc, ◌+ℤ◌, ◌*ℤ◌, neg_ℤ, nat_abs, ◌≤ℤ◌, sym, refl, ap, ◌∙◌, zero-le, zero-mul, arith, le→leb}
use lib.Signed.{le_z_yes, quot_z, rem_z}
use Rattle.std.proofs.lemmas.Nat.{div-add-mod', mod_below}
use Rattle.std.proofs.lemmas.Int.{ints}
use Rattle.arithmetic.specs.Laws.{SignedAs, Division}

minus_minus : (q b : ℕ) → neg_ℤ (pos q) *ℤ negsuc b ≡ pos (q * suc b)
minus_minus zero b = simp zero-mul
minus_minus (suc q) b = refl

minus_plus : (q b : ℕ) → neg_ℤ (pos q) *ℤ pos b ≡ neg_ℤ (pos (q * b))
minus_plus zero b = simp zero-mul
minus_plus (suc q) b = refl

minus_sum : (m n : ℕ) → neg_ℤ (pos m) +ℤ neg_ℤ (pos n) ≡ neg_ℤ (pos (m + n))
minus_sum m n = omega (arith, ints)

nat_abs_minus : (n : ℕ) → nat_abs (neg_ℤ (pos n)) ≡ n
nat_abs_minus zero = refl
nat_abs_minus (suc n) = refl

not_positive : (n : ℕ) → neg_ℤ (pos n) ≤ℤ pos 0
not_positive zero = le_z_yes tt
not_positive (suc n) = le_z_yes tt

whole : (x y : ℤ) → x ≡ quot_z x y *ℤ y +ℤ rem_z x y
whole (pos a) (pos b) = ap pos (sym (div-add-mod' a b))
whole (pos a) (negsuc b) = sym (ap (λ (z : ℤ). z +ℤ pos (a % suc b)) (minus_minus (a / suc b) b) ∙ ap pos (div-add-mod' a (suc b)))
whole (negsuc a) (pos b) =
    sym (ap (λ (z : ℤ). z +ℤ neg_ℤ (pos (suc a % b))) (minus_plus (suc a / b) b) ∙ minus_sum (suc a / b * b) (suc a % b) ∙ ap (λ (n : ℕ). neg_ℤ (pos n)) (div-add-mod' (suc a) b))
whole (negsuc a) (negsuc b) = sym (minus_sum (suc a / suc b * suc b) (suc a % suc b) ∙ ap (λ (n : ℕ). neg_ℤ (pos n)) (div-add-mod' (suc a) (suc b)))

some : (y : ℤ) → (y ≡ pos 0 → ⊥) → 0 < nat_abs y
some (pos zero) h = absurd (h refl)
some (pos (suc n)) h = omega arith
some (negsuc n) h = omega arith

near : (x y : ℤ) → 0 < nat_abs y → nat_abs (rem_z x y) < nat_abs y
near (pos a) y h = mod_below a (nat_abs y) h
near (negsuc a) y h = rw (nat_abs_minus (suc a % nat_abs y)) (mod_below (suc a) (nat_abs y) h)

sign : (x y : ℤ) → SignedAs x (rem_z x y)
sign (pos a) y = le_z_yes (le→leb 0 (a % nat_abs y) zero-le)
sign (negsuc a) y = not_positive (suc a % nat_abs y)

pub division : Division
division x y h = record { whole = whole x y; near = near x y (some y h); sign = sign x y }
