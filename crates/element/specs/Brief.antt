-- The text of an integer has at most 11 bytes: ten digits and a sign.
use Rattle.std.specs.Prelude.{ℕ, ◌^◌, ◌<◌, ◌≤◌, List, [], length, ℤ, nat_lt}
use Rattle.std.proofs.Common.{arith, ltb-true, lit≤}
use Rattle.std.specs.Int.Signed.{mag}
use Rattle.std.specs.Fmt.{signed_decimal}
use Rattle.std.proofs.lemmas.Fmt.{length_signed_le}
use Rattle.std.proofs.lemmas.Bool.{cond_both}
use Rattle.element.specs.Elements.{integer_text}

pub integer_brief : (z : ℤ) → length (integer_text z) ≤ 11
integer_brief z =
    cond_both (nat_lt (mag z) (2 ^ 31)) (signed_decimal z) [] (λ (t : List ℕ). length t ≤ 11)
    (λ e. let h : mag z < 2 ^ 31 = ltb-true (mag z) (2 ^ 31) e in length_signed_le 10 z (omega arith) (omega arith))
    (λ _. lit≤ tt)
