-- The expression rows directly before a row.
use Rattle.std.proofs.Common.{◌≡◌, ℕ, zero, suc, ◌<◌, ◌≤◌, Bool, true, false, cond, ◌||◌, ltb, leb, List, Decides, sym, refl, ap, ◌∙◌, ⊎_elim, arith}
use Rattle.std.proofs.lemmas.Bool.{and_parts, and_from, and_right, and_left, cases_lt, lt-ltb, le-ltb, le-leb, lt-leb}
use Rattle.std.proofs.lemmas.Bool.Decides.{nat_tests, Decides-below_and}
use Rattle.checker.specs.declared.line.Line.{Line}
use Rattle.checker.specs.Blocks.{at, makes, below, near}
use Rattle.checker.specs.Judge.{between}

below_decides : (f : ℕ → Bool) (n : ℕ) → Decides (below f n) ((k : ℕ) → k < n → f k ≡ true)
below_decides f n = Decides-below_and f (λ k. f k ≡ true) (below f) (λ k. (λ h. h, λ h. h)) refl (λ _. refl) n

below_fails : (f : ℕ → Bool) (n k : ℕ) → k < n → f k ≡ false → below f n ≡ false
below_fails f n k lt fails = go (below f n) refl
  where
    go : (b : Bool) → below f n ≡ b → b ≡ false
    go true e = sym ((below_decides f n).0 e k lt) ∙ fails
    go false e = refl

or_skip : (a b : Bool) → (a || b) ≡ true → a ≡ false → b ≡ true
or_skip a b h f = grind (arith, nat_tests)

abbrev near_at : List Line → ℕ → ℕ → Bool
near_at lines a i = ltb i a || makes (at lines i).instruction

pub near_made : (lines : List Line) (p a : ℕ) → a < p → ((i : ℕ) → a ≤ i → i < p → makes (at lines i).instruction ≡ true) → near lines p a ≡ true
near_made lines p a lt all =
    and_from (ltb a p) (below (near_at lines a) p) (lt-ltb a p lt)
    ((below_decides (near_at lines a) p).1 (λ i h. let k = all i in grind (arith, nat_tests)))

pub near_not : (lines : List Line) (p a i : ℕ) → a ≤ i → i < p → makes (at lines i).instruction ≡ false → near lines p a ≡ false
near_not lines p a i ai ip fails = and_right (ltb a p) (below (near_at lines a) p) (below_fails (near_at lines a) p i ip (grind (arith, nat_tests)))

-- what the test says: row a is before p, and all rows from a to p make values
pub near_tells : (lines : List Line) (p a : ℕ) → near lines p a ≡ true → (a < p) × ((i : ℕ) → a ≤ i → i < p → makes (at lines i).instruction ≡ true)
near_tells lines p a h =
    let both = and_parts (ltb a p) (below (near_at lines a) p) h in
    let lt = both.0 in
    (grind (arith, nat_tests), λ i ai ip. or_skip (ltb i a) (makes (at lines i).instruction) ((below_decides (near_at lines a) p).0 both.1 i ip) (le-ltb i a ai))

-- the first of the expression rows directly before row p
abbrev pub fresh : List Line → ℕ → ℕ
fresh lines zero = 0
fresh lines (suc p) = cond (makes (at lines p).instruction) (fresh lines p) (suc p)

record Fresh (lines : List Line) (p f : ℕ) : Type 0 where
  pub within : f ≤ p
  pub since : (j : ℕ) → f ≤ j → j < p → makes (at lines j).instruction ≡ true
  pub until : (a : ℕ) → a < f → (i : ℕ) × (a ≤ i) × (i < p) × (makes (at lines i).instruction ≡ false)

fresh_more : (lines : List Line) (p : ℕ) → Fresh lines p (fresh lines p) → (b : Bool) → makes (at lines p).instruction ≡ b → Fresh lines (suc p) (cond b (fresh lines p) (suc p))
fresh_more lines p f true e =
    let w = f.within in
    record {
      within = omega arith;
      since = λ j fj lt. ⊎_elim (λ less. f.since j fj less) (λ ge. let same : j ≡ p = omega arith in ap (λ n. makes (at lines n).instruction) same ∙ e) (cases_lt j p);
      until = λ a lt. let u = f.until a lt in let v = u.2 in (u.0, u.1, omega arith, u.3);
    }
fresh_more lines p f false e = record { within = omega arith; since = λ j fj lt. absurd (omega arith); until = λ a lt. (p, omega arith, omega arith, e) }

is_fresh : (lines : List Line) (p : ℕ) → Fresh lines p (fresh lines p)
is_fresh lines zero = record { within = omega arith; since = λ j _ lt. absurd (omega arith); until = λ a lt. absurd (omega arith) }
is_fresh lines (suc p) = fresh_more lines p (is_fresh lines p) (makes (at lines p).instruction) refl

pub near_is : (lines : List Line) (p a : ℕ) → near lines p a ≡ between (fresh lines p) p a
near_is lines p a = ⊎_elim before from (cases_lt a (fresh lines p))
  where
    f : Fresh lines p (fresh lines p)
    f = is_fresh lines p

    before : a < fresh lines p → near lines p a ≡ between (fresh lines p) p a
    before lt =
        let u = f.until a lt in
        near_not lines p a u.0 u.1 u.2 u.3 ∙ sym (and_left (leb (fresh lines p) a) (ltb a p) (lt-leb (fresh lines p) a lt))

    from : fresh lines p ≤ a → near lines p a ≡ between (fresh lines p) p a
    from le =
        ⊎_elim
        (λ lt.
        near_made lines p a lt (λ i ai ip. f.since i (omega arith) ip)
        ∙ sym (and_from (leb (fresh lines p) a) (ltb a p) (le-leb (fresh lines p) a le) (lt-ltb a p lt)))
        (λ ge. and_left (ltb a p) (below (near_at lines a) p) (le-ltb a p ge) ∙ sym (and_right (leb (fresh lines p) a) (ltb a p) (le-ltb a p ge)))
        (cases_lt a p)
