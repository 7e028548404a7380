-- Reads one after another take from the front what one read would.
use Rattle.std.proofs.Common.{◌≡◌, ℕ, ◌+◌, ◌≤◌, List, length, drop, sym, ap, ◌∙◌, arith, length-drop}
use Rattle.std.proofs.lemmas.List.{drop-drop}
use Rattle.source.specs.Taking.{gone, Took}

-- nothing is removed
pub took_none : (ys : List ℕ) (n : ℕ) → n ≤ 4294967295 → Took ys ys n n
took_none ys n h =
    let none : gone ys ys ≡ 0 = omega arith in
    record { front = sym (ap (λ k. drop k ys) none); count = omega arith }

-- what is left is no longer
fewer : (xs ys : List ℕ) → ys ≡ drop (gone xs ys) xs → length ys ≤ length xs
fewer xs ys e = omega (arith, ap length e, length-drop (gone xs ys) xs)

pub took_more : (xs ys zs : List ℕ) (n m k : ℕ) → Took xs ys n m → Took ys zs m k → Took xs zs n k
took_more xs ys zs n m k p q =
    let less = fewer xs ys p.front in
    let least = fewer ys zs q.front in
    let sum : gone xs ys + gone ys zs ≡ gone xs zs = omega arith in
    record {
      front = q.front ∙ ap (drop (gone ys zs)) p.front ∙ drop-drop (gone ys zs) (gone xs ys) xs ∙ ap (λ i. drop i xs) sum;
      count = omega (arith, p.count, q.count);
    }
