-- Decimal digits on a stack, the last one first.
use Rattle.std.proofs.Common.{◌≡◌, ℕ, ◌+◌, ◌/◌, ◌%◌, ◌^◌, ◌<◌, ◌≤◌, List, [], ◌∷◌, ◌++◌, length, reverse, decimal, sym, ap, ◌∙◌, append_assoc, arith, length-append}
use Rattle.std.proofs.lemmas.Fmt.{decimal_digit, decimal_step, length-decimal-le, decimal_nonempty}
use Rattle.std.proofs.lemmas.List.{reverse-append, length-reverse}

pub pushed : (xs ys : List ℕ) (b : ℕ) → ys ≡ xs ++ (b ∷ []) → reverse ys ≡ b ∷ reverse xs
pushed xs ys b e = ap reverse e ∙ reverse-append xs (b ∷ [])

module _ (left : ℕ) (xs ys : List ℕ) where
  -- the last digit goes on the stack, and those before it are still to come
  pub spell_more : left < 2 ^ 32 → 10 ≤ left → ys ≡ xs ++ ((48 + left % 10) ∷ []) → decimal (left / 10) ++ reverse ys ≡ decimal left ++ reverse xs
  spell_more h l e =
      ap (λ t. decimal (left / 10) ++ t) (pushed xs ys _ e) ∙ sym (append_assoc (decimal (left / 10)) _ (reverse xs)) ∙ ap (λ t. t ++ reverse xs) (sym (decimal_step left l (omega arith)))

  pub spell_last : left < 10 → ys ≡ xs ++ ((48 + left) ∷ []) → reverse ys ≡ decimal left ++ reverse xs
  spell_last l e = pushed xs ys _ e ∙ ap (λ t. t ++ reverse xs) (sym (decimal_digit left l))

-- while digits are still to come, fewer than ten are on the stack
pub room : (n left : ℕ) (xs ys : List ℕ) → n < 2 ^ 32 → left < 2 ^ 32 → decimal left ++ reverse ys ≡ decimal n ++ reverse xs → length ys < length xs + 10
room n left xs ys h k e =
    let long = simp (length-append, length-reverse) at (ap length e) in
    let ten = length-decimal-le 10 n (omega arith) (omega arith) (omega arith) in
    let some = decimal_nonempty left (omega arith) in
    omega arith
