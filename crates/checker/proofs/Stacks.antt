-- A stack in a list, whose top is last.
use Rattle.std.proofs.Common.{◌≡◌, ℕ, List, [], ◌∷◌, reverse, ◌==◌, ◌||◌, refl, ◌∙◌, arith}
use Rattle.std.specs.List.{list_any}
use Rattle.std.proofs.lemmas.Bool.Decides.{nat_tests}
use Rattle.std.proofs.lemmas.List.Sorted.{list_any-IsPermutation, IsPermutation-reverse}
use Rattle.checker.specs.Blocks.{member}

-- std's test asks whether an element is v, and the definition whether v is an element
member_any : (v : ℕ) (cs : List ℕ) → list_any (λ c. c == v) cs ≡ member v cs
member_any v [] = refl
member_any v (c ∷ cs) =
    let e = member_any v cs in
    let same : (c == v) ≡ (v == c) = grind (arith, nat_tests) in
    λ i. same i || e i

pub held_any : (v : ℕ) (xs : List ℕ) → list_any (λ c. c == v) xs ≡ member v (reverse xs)
held_any v xs = list_any-IsPermutation (λ c. c == v) xs (reverse xs) (IsPermutation-reverse xs) ∙ member_any v (reverse xs)
