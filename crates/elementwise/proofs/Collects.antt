-- A loop that goes along a list of results up to the first fault.
use Rattle.std.proofs.Common.{◌≡◌, ℕ, zero, suc, ◌+◌, ◌<◌, ◌≤◌, true, List, [], ◌∷◌, map, length, get_or, set, is_ok, Ok, Err, Result, sym, refl, ap, ◌∙◌, subst, arith, below_more}
use lib.Seq.{paste}
use Rattle.std.specs.Result.{result_unwrap_or}
use Rattle.std.proofs.lemmas.List.{get_or-map, length-map}
use Rattle.std.proofs.lemmas.Bool.{false≢true}
use Rattle.arithmetic.specs.declared.faults.ArithmeticFault.{ArithmeticFault}
use Rattle.arithmetic.specs.Faults.{at_element}
use Rattle.element.specs.Cells.{tabulate}
use Rattle.elementwise.specs.Results.{before, collected, Made}
use Rattle.std.proofs.lemmas.List.Edits.{paste_none}
use Rattle.std.proofs.lemmas.List.FromFn.{get_or-map-range_with_len, length-map-range_with_len}
use Rattle.arithmetic.specs.declared.faults.ElementFault.{ElementFault}
use Rattle.element.proofs.Writes.{write_first, written_whole}

-- the values of rs, with d for a fault
abbrev pub values : {X F : Type 0} → X → List (Result X F) → List X
values d rs = map (λ r. result_unwrap_or r d) rs

-- each of the first n is a value
abbrev pub Passed : {X F : Type 0} → X → List (Result X F) → ℕ → Type 0
Passed d rs n = (j : ℕ) → j < n → is_ok (get_or rs j (Ok d)) ≡ true

module _ {X : Type 0} (d : X) where
  pub collected_all : (k : ℕ) (rs : List (Result X ArithmeticFault)) → Passed d rs (length rs) → collected k rs ≡ Ok (values d rs)
  collected_all k [] p = refl
  collected_all k (Ok x ∷ rs) p = ap (before x) (collected_all (k + 1) rs (λ j h. p (suc j) (omega arith)))
  collected_all k (Err f ∷ rs) p = absurd (false≢true (p 0 (omega arith)))

  pub collected_stops : (k : ℕ) (rs : List (Result X ArithmeticFault)) (i : ℕ) (f : ArithmeticFault) → i < length rs → Passed d rs i → get_or rs i (Ok d) ≡ Err f → collected k rs ≡ Err (at_element (k + i) f)
  collected_stops k [] i f h p e = absurd (omega arith)
  collected_stops k (Ok x ∷ rs) zero f h p e = let z : ◌≡◌ {A = ℕ} 0 1 = cc in absurd (omega arith)
  collected_stops k (Ok x ∷ rs) (suc i) f h p e =
      ap (before x) (collected_stops (k + 1) rs i f (omega arith) (λ j l. p (suc j) (omega arith)) e) ∙ ap (λ (m : ℕ). Err (at_element m f)) (omega arith)
  collected_stops k (Err g ∷ rs) zero f h p e = let q : g ≡ f = cc in let z : k ≡ k + 0 = omega arith in cc
  collected_stops k (Err g ∷ rs) (suc i) f h p e = absurd (false≢true (p 0 (omega arith)))

-- S is the cells T once the first i of the results rs have passed and are written
pub record Sofar {X : Type 0} (d : X) (T : List X) (rs : List (Result X ArithmeticFault)) (i : ℕ) (S : List X) : Type 0 where
  pub written : S ≡ paste T 0 (values d rs) i
  pub passed : Passed d rs i

module _ {X : Type 0} (T : List X) (G : ℕ → X) where
  pub made_more : (S : List X) (i : ℕ) (v : X) → S ≡ paste T 0 (tabulate (length T) G) i → i < length T → v ≡ G i → set S i v ≡ paste T 0 (tabulate (length T) G) (i + 1)
  made_more S i v w h is = write_first T (tabulate (length T) G) S i v w h (omega (arith, length-map-range_with_len G 0 (length T))) (is ∙ sym (get_or-map-range_with_len G 0 (length T) i i v h (omega arith)))

  pub made_all : (S : List X) (i : ℕ) → S ≡ paste T 0 (tabulate (length T) G) i → length T ≤ i → S ≡ tabulate (length T) G
  made_all S i w h = written_whole T (tabulate (length T) G) S i w h (length-map-range_with_len G 0 (length T))

module _ {X : Type 0} (d : X) (T : List X) (G : ℕ → Result X ArithmeticFault) where
  pub sofar_none : Sofar d T (tabulate (length T) G) 0 T
  sofar_none = record { written = paste_none T 0 (values d (tabulate (length T) G)); passed = λ j h. absurd (omega arith) }

  long : length (tabulate (length T) G) ≡ length T
  long = length-map-range_with_len G 0 (length T)

  long_values : length (values d (tabulate (length T) G)) ≡ length T
  long_values = length-map (tabulate (length T) G) (λ r. result_unwrap_or r d) ∙ long

  here : (i : ℕ) → i < length T → get_or (tabulate (length T) G) i (Ok d) ≡ G i
  here i h = get_or-map-range_with_len G 0 (length T) i i (Ok d) h (omega arith)

  pub sofar_more : (S : List X) (i : ℕ) (v : X) → Sofar d T (tabulate (length T) G) i S → i < length T → Ok v ≡ G i → Sofar d T (tabulate (length T) G) (i + 1) (set S i v)
  sofar_more S i v s h is =
      let rs = tabulate (length T) G in
      let e : get_or rs i (Ok d) ≡ Ok v = here i h ∙ sym is in
      record {
        written = write_first T (values d rs) S i v s.written h (omega (arith, long_values)) (sym (get_or-map (λ r. result_unwrap_or r d) rs i (Ok d) v (omega (arith, long)) ∙ ap (λ r. result_unwrap_or r d) e));
        passed = below_more (λ j. is_ok (get_or rs j (Ok d)) ≡ true) i s.passed (ap is_ok e);
      }

  pub made_every : (S : List X) (i : ℕ) (r : Result (Unit {0}) ElementFault) → Sofar d T (tabulate (length T) G) i S → i ≡ length T → r ≡ Ok tt → Made (collected 1 (tabulate (length T) G)) r S
  made_every S i r s e told =
      let rs = tabulate (length T) G in
      let P : Result (List X) ElementFault → Type 0 = λ o. Made o r S in
      let Q : ℕ → Type 0 = λ k. Passed d rs k in
      subst P (sym (collected_all d 1 rs (subst Q (e ∙ sym long) s.passed))) (told, written_whole T (values d rs) S i s.written (omega arith) long_values)

  pub made_until : (S S' : List X) (i : ℕ) (f : ArithmeticFault) (r : Result (Unit {0}) ElementFault) → Sofar d T (tabulate (length T) G) i S → i < length T → Err f ≡ G i → r ≡ Err (at_element (i + 1) f) → Made (collected 1 (tabulate (length T) G)) r S'
  made_until S S' i f r s h is told =
      let rs = tabulate (length T) G in
      let P : Result (List X) ElementFault → Type 0 = λ o. Made o r S' in
      subst P (sym (collected_stops d 1 rs i f (omega (arith, long)) s.passed (here i h ∙ sym is))) (told ∙ ap (λ (k : ℕ). Err (at_element k f)) (omega arith))

-- the same results, written another way
pub made_as : {X : Type 0} {rs rs' : List (Result X ArithmeticFault)} (r : Result (Unit {0}) ElementFault) (S : List X) → rs ≡ rs' → Made (collected 1 rs) r S → Made (collected 1 rs') r S
made_as {X} r S e m = let P : List (Result X ArithmeticFault) → Type 0 = λ rs. Made (collected 1 rs) r S in subst P e m
