-- Blanks, the word and the rest are all that waits, and what is left is the end of it.
use Rattle.std.proofs.Common.{◌≡◌, ℕ, Bool, true, false, cond, List, [], ◌∷◌, ◌++◌, length, drop, sym, refl, ap, ◌∙◌, append_assoc, arith, length-append}
use Rattle.std.proofs.Math.Seq.{drop-append_seam}
use Rattle.source.specs.Taking.{gone}
use Rattle.source.specs.Words.{blank, blanks, after_blanks, run, after_run, word, rest}

-- one more byte belongs to the front, or ends it
grows : (b : Bool) (x : ℕ) (xs front back : List ℕ) → front ++ back ≡ xs → cond b (x ∷ front) [] ++ cond b back (x ∷ xs) ≡ x ∷ xs
grows true x xs front back h = ap (λ l. x ∷ l) h
grows false x xs front back h = refl

ends : (b : Bool) (x : ℕ) (xs front back : List ℕ) → front ++ back ≡ xs → cond b [] (x ∷ front) ++ cond b (x ∷ xs) back ≡ x ∷ xs
ends true x xs front back h = refl
ends false x xs front back h = ap (λ l. x ∷ l) h

cut_blanks : (xs : List ℕ) → blanks xs ++ after_blanks xs ≡ xs
cut_blanks [] = refl
cut_blanks (x ∷ xs) = grows (blank x) x xs (blanks xs) (after_blanks xs) (cut_blanks xs)

cut_run : (xs : List ℕ) → run xs ++ after_run xs ≡ xs
cut_run [] = refl
cut_run (x ∷ xs) = ends (blank x) x xs (run xs) (after_run xs) (cut_run xs)

pub cut : (xs : List ℕ) → xs ≡ blanks xs ++ (word xs ++ rest xs)
cut xs = sym (ap (λ l. blanks xs ++ l) (cut_run (after_blanks xs)) ∙ cut_blanks xs)

-- what stands behind some bytes is what is left without them
suffix : (zs xs ys : List ℕ) → zs ≡ xs ++ ys → ys ≡ drop (gone zs ys) zs
suffix zs xs ys e =
    let n : gone zs ys ≡ length xs = omega (arith, ap length e, length-append xs ys) in
    sym (ap (λ k. drop k zs) n ∙ ap (drop (length xs)) e ∙ drop-append_seam xs ys)

module _ (xs ys : List ℕ) (e : ys ≡ rest xs) where
  pub parts : xs ≡ blanks xs ++ (word xs ++ ys)
  parts = rw e (cut xs)

  pub from_front : ys ≡ drop (gone xs ys) xs
  from_front = suffix xs (blanks xs ++ word xs) ys (parts ∙ sym (append_assoc (blanks xs) (word xs) ys))
