-- No recorder has more bytes waiting than a source may have.
use Rattle.std.specs.Prelude.{ℕ, zero, suc, ◌+◌, ◌*◌, ◌/◌, ◌%◌, ◌≤◌, Bool, false, List, [], ◌∷◌, length, ℤ, pos, negsuc, ◌==◌}
use Rattle.std.proofs.Common.{arith, length-append}
use Rattle.std.proofs.lemmas.List.{length-reverse}
use Rattle.std.specs.Fmt.{digits_onto, digits, digit_glyph, signed_decimal}
use Rattle.std.proofs.lemmas.Bool.{cond_both}
use Rattle.source.specs.Lines.{lines_of}
use Rattle.source.specs.Records.{recorded}
use Rattle.source.specs.declared.recorder.Recorder.{Recorder}

spelled_short : (k n : ℕ) (upper : Bool) (acc : List ℕ) → length (digits_onto k 10 upper n acc) ≤ k + length acc
spelled_short zero n upper acc = omega arith
spelled_short (suc k) n upper acc =
    let here = digit_glyph upper (n % 10) ∷ acc in
    let on = spelled_short k (n / 10) upper here in
    cond_both (n / 10 == 0) here (digits_onto k 10 upper (n / 10) here) (λ l. length l ≤ suc k + length acc) (λ _. omega arith) (λ _. omega arith)

signed_short : (z : ℤ) → length (signed_decimal z) ≤ 65
unfolding digits
signed_short (pos n) = omega (arith, spelled_short 64 n false [])
signed_short (negsuc n) = omega (arith, spelled_short 64 (suc n) false [])

lines_short : (zs : List ℤ) → length (lines_of zs) ≤ 66 * length zs
lines_short [] = omega arith
lines_short (z ∷ zs) = simp length-append (omega (arith, signed_short z, lines_short zs))

pub recorded_short : (r : Recorder) → length (recorded r) ≤ 16777216
recorded_short r = simp (length-append, length-reverse) (omega (arith, lines_short r.readings.now, r.line.short, r.few))
