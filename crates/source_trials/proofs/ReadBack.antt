-- The line of a number is read as that number.
use Rattle.std.proofs.Common.{◌≡◌, ℕ, suc, ◌^◌, ◌<◌, true, false, cond, eqb, List, [], ◌∷◌, ◌++◌, length, ℤ, pos, negsuc, Some, None, Ok, decimal, refl, ap, ◌∙◌, arith, rules}
use lib.Signed.{mag}
use Rattle.std.proofs.lemmas.Fmt.{digits_decimal, digits_value-decimal, decimal_nonempty}
use Rattle.std.proofs.lemmas.Str.Parse.{IsNumeralModel, numerals_by_fold}
use Rattle.std.proofs.lemmas.Bool.{and_parts, cond-true, cond-false, lt-ltb}
use Rattle.std.proofs.lemmas.Bool.Decides.{nat_tests}
use Rattle.std.specs.Char.{is_ascii_digit}
use Rattle.std.specs.Fmt.{signed_decimal}
use Rattle.std.specs.Str.{all_ascii_digits}
use Rattle.source.specs.declared.numeral.Sign.{Sign}
use Rattle.source.specs.declared.numeral.Sign.TheVariants.{Plus, Minus}
use Rattle.source.specs.Integers.{onward, ranged, numeral, integer}
use Rattle.source.specs.Lines.{line_of}
use Rattle.source.specs.Reads.{judged, told, integer_read}
use Rattle.source.specs.Words.{blank, after_blanks, run, word}

own : IsNumeralModel (λ ds. all_ascii_digits ds ≡ true) (onward 0)
own = numerals_by_fold _ (search rules) onward (search rules)

dark : (c : ℕ) → is_ascii_digit c ≡ true → blank c ≡ false
dark c h = grind (arith, nat_tests)

run_digits : (ds more : List ℕ) → all_ascii_digits ds ≡ true → run (ds ++ (10 ∷ more)) ≡ ds
run_digits [] more h = refl
run_digits (d ∷ ds) more h =
    let p = and_parts (is_ascii_digit d) (all_ascii_digits ds) h in
    cond-false (blank d) [] (d ∷ run (ds ++ (10 ∷ more))) (dark d p.0) ∙ ap (λ l. d ∷ l) (run_digits ds more p.1)

-- digits alone
plain : (ds more : List ℕ) → 0 < length ds → all_ascii_digits ds ≡ true → word (ds ++ (10 ∷ more)) ≡ ds
plain [] more l h = absurd (omega arith)
plain (d ∷ ds) more l h =
    let p = and_parts (is_ascii_digit d) (all_ascii_digits ds) h in
    ap run (cond-false (blank d) (after_blanks (ds ++ (10 ∷ more))) (d ∷ (ds ++ (10 ∷ more))) (dark d p.0)) ∙ run_digits (d ∷ ds) more h

figures : (s : Sign) (ds : List ℕ) (n : ℕ) → 0 < length ds → all_ascii_digits ds ≡ true → onward 0 ds ≡ n → numeral s ds ≡ ranged s n
figures s [] n l h e = absurd (omega arith)
figures s (d ∷ ds) n l h e = cond-true (all_ascii_digits (d ∷ ds)) (ranged s (onward 0 (d ∷ ds))) None h ∙ ap (ranged s) e

no_sign : (ds : List ℕ) → 0 < length ds → all_ascii_digits ds ≡ true → integer ds ≡ numeral Plus ds
no_sign [] l h = absurd (omega arith)
no_sign (d ∷ ds) l h =
    let p = and_parts (is_ascii_digit d) (all_ascii_digits ds) h in
    let t : is_ascii_digit d ≡ true = p.0 in
    let plus : eqb d 43 ≡ false = grind (arith, nat_tests) in
    let minus : eqb d 45 ≡ false = grind (arith, nat_tests) in
    cond-false (eqb d 43) (numeral Plus ds) (cond (eqb d 45) (numeral Minus ds) (numeral Plus (d ∷ ds))) plus ∙ cond-false (eqb d 45) (numeral Minus ds) (numeral Plus (d ∷ ds)) minus

word_back : (z : ℤ) (more : List ℕ) → mag z < 2 ^ 31 → integer (word (signed_decimal z ++ (10 ∷ more))) ≡ Some z
word_back (pos n) more h =
    let small : n < 2 ^ 64 = omega arith in
    let some = decimal_nonempty n small in
    let all = digits_decimal own n small in
    ap integer (plain (decimal n) more some all) ∙ no_sign (decimal n) some all ∙ figures Plus (decimal n) n some all (digits_value-decimal own n small) ∙ cond-true _ (Some (pos n)) None (lt-ltb n 2147483648 h)
word_back (negsuc n) more h =
    let small : suc n < 2 ^ 64 = omega arith in
    let some = decimal_nonempty (suc n) small in
    let all = digits_decimal own (suc n) small in
    ap (λ l. integer (45 ∷ l)) (run_digits (decimal (suc n)) more all) ∙ figures Minus (decimal (suc n)) (suc n) some all (digits_value-decimal own (suc n) small) ∙ cond-true _ (Some (negsuc n)) None (lt-ltb (suc n) 2147483649 (omega arith))

some_told : (w : List ℕ) (z : ℤ) → integer w ≡ Some z → told w (integer w) ≡ Ok z
some_told [] z e = let never : ◌≡◌ {A = ℕ} 0 1 = cc in absurd (omega arith)
some_told (c ∷ cs) z e = ap judged e

pub back : (z : ℤ) → mag z < 2 ^ 31 → integer_read (line_of z) ≡ Ok z
back z h = some_told (word (line_of z)) z (word_back z [] h)
