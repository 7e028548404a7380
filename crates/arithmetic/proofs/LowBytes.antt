-- The low byte of an integer, signed.
use Rattle.std.proofs.Common.{◌≡◌, ℕ, ◌-◌, ◌/◌, ◌%◌, ◌<◌, ◌≤◌, true, false, ltb, ℤ, pos, negsuc, ◌+ℤ◌, ◌-ℤ◌, ◌*ℤ◌, sym, ap, arith, ltb-false, ltb-true}
use Rattle.std.proofs.lemmas.Nat.{div-add-mod', mod_below}
use Rattle.std.proofs.lemmas.Int.{ints}
use Rattle.std.proofs.lemmas.Bool.{cond_both}
use Rattle.arithmetic.specs.Casts.{signed}
use Rattle.arithmetic.specs.Laws.{Low, LowBytes}

-- n from 0 to 255, and z a multiple of 256 above it
from_byte : (z : ℤ) (n : ℕ) (q : ℤ) → n < 256 → z ≡ q *ℤ pos 256 +ℤ pos n → z ≡ (q +ℤ pos 1) *ℤ pos 256 +ℤ (pos n -ℤ pos 256) → Low z (signed (pos n))
from_byte z n q h e f =
    cond_both (ltb n 128) _ _ (λ (r : ℤ). Low z r)
    (λ (t : ltb n 128 ≡ true). let l : n < 128 = omega (arith, ltb-true) in record { least = omega (arith, ints); most = omega (arith, ints); same = (q, e) })
    (λ (t : ltb n 128 ≡ false). let l : 128 ≤ n = omega (arith, ltb-false) in record { least = omega (arith, ints); most = omega (arith, ints); same = (q +ℤ pos 1, f) })

pub low_bytes : LowBytes
low_bytes (pos a) =
    from_byte (pos a) (a % 256) (pos (a / 256)) (mod_below a 256 (omega arith)) (ap pos (sym (div-add-mod' a 256))) (omega (arith, ints, div-add-mod' a 256))
low_bytes (negsuc a) =
    let h : a % 256 < 256 = mod_below a 256 (omega arith) in
    from_byte (negsuc a) (256 - 1 - a % 256) (negsuc (a / 256)) (omega arith) (omega (arith, ints, div-add-mod' a 256)) (omega (arith, ints, div-add-mod' a 256))
