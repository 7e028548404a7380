-- Where every result fits 32 bits, the results are the values.
use Rattle.std.proofs.Common.{◌≡◌, ℕ, zero, suc, ◌+◌, ◌<◌, ◌≤◌, List, ◌∷◌, map, length, get_or, ℤ, pos, Ok, Result, sym, refl, ap, ◌∙◌, subst, arith}
use Rattle.std.specs.List.{range_with_len}
use Rattle.std.proofs.lemmas.Bool.Decides.{nat_tests}
use Rattle.arithmetic.specs.declared.faults.ArithmeticFault.{ArithmeticFault}
use Rattle.arithmetic.specs.declared.faults.ElementFault.{ElementFault}
use Rattle.arithmetic.specs.Exact.{bounded}
use Rattle.element.specs.Cells.{tabulate}
use Rattle.element.specs.declared.operands.Operand.{Operand}
use Rattle.element.specs.Operands.{place_of, end_of, along}
use Rattle.elementwise.specs.Results.{map2, before, collected, Made}
use Rattle.elementwise.specs.Sure.{Within, value_at, Reads}
use Rattle.elementwise.proofs.Along.{along_two}

pub bounded_within : (z : ℤ) → Within z → bounded z ≡ Ok z
bounded_within z h = grind (arith, nat_tests)

module _ {X : Type 0} (f : ℕ → Result X ArithmeticFault) (g : ℕ → X) where
  collected_from : (i k n : ℕ) → ((j : ℕ) → j < i + n → f j ≡ Ok (g j)) → collected k (map f (range_with_len i n)) ≡ Ok (map g (range_with_len i n))
  collected_from i k zero p = refl
  collected_from i k (suc n) p =
      ap (λ r. collected k (r ∷ map f (range_with_len (i + 1) n))) (p i (omega arith)) ∙ ap (before (g i)) (collected_from (i + 1) (k + 1) n (λ j h. p j (omega arith)))

  -- where each of n results is a value, those values are collected
  pub collected_values : (n : ℕ) → ((k : ℕ) → k < n → f k ≡ Ok (g k)) → collected 1 (tabulate n f) ≡ Ok (tabulate n g)
  collected_values n p = collected_from 0 1 n (λ j h. p j (omega arith))

-- the values written are the results
pub made_values : (T S : List ℤ) (n : ℕ) (value : ℤ → ℤ → ℤ) (a b : Operand) (f : ℤ → ℤ → Result ℤ ArithmeticFault) (r : Result (Unit {0}) ElementFault)
    → end_of a n ≤ length T → end_of b n ≤ length T → ((x y : ℤ) → f x y ≡ bounded (value x y)) → ((k : ℕ) → k < n → Within (value_at value T a b k)) → r ≡ Ok tt → S ≡ tabulate n (value_at value T a b)
    → Made (collected 1 (map2 f (along (pos 0) T a n) (along (pos 0) T b n))) r S
made_values T S n value a b f r left right same fit told is =
    let F : ℕ → Result ℤ ArithmeticFault = λ k. f (get_or T (place_of a k) (pos 0)) (get_or T (place_of b k) (pos 0)) in
    let P : List (Result ℤ ArithmeticFault) → Type 0 = λ rs. Made (collected 1 rs) r S in
    let Q : Result (List ℤ) ElementFault → Type 0 = λ o. Made o r S in
    subst P (along_two (pos 0) T f a b n left right) (subst Q (sym (collected_values F (value_at value T a b) n (λ k h. same _ _ ∙ bounded_within _ (fit k h)))) (told, is))

-- operands of a known kind, written out
pub reads_as : (f : ℤ → ℤ → ℤ) (U : List ℤ) (n : ℕ) {a b a' b' : Operand} → a ≡ a' → b ≡ b' → Reads f U n a b → Reads f U n a' b'
reads_as f U n {a} {b} {a'} {b'} p q r = subst (λ (x : Operand). Reads f U n x b') p (subst (λ (y : Operand). Reads f U n a y) q r)
