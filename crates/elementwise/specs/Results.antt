-- Results element by element, and what is then written.
use Rattle.std.specs.Prelude.{◌≡◌, ℕ, ◌+◌, List, [], ◌∷◌, take, drop, Ok, Err, Result}
use Rattle.element.specs.Cells.{put}
use Rattle.arithmetic.specs.declared.faults.ArithmeticFault.{ArithmeticFault}
use Rattle.arithmetic.specs.declared.faults.ElementFault.{ElementFault}
use Rattle.arithmetic.specs.Faults.{at_element}

-- f of the first elements, of the second, and so on
abbrev pub map2 : {X Y Z : Type 0} → (X → Y → Z) → List X → List Y → List Z
map2 f [] ys = []
map2 f (x ∷ xs) [] = []
map2 f (x ∷ xs) (y ∷ ys) = f x y ∷ map2 f xs ys

abbrev pub before : {X E : Type 0} → X → Result (List X) E → Result (List X) E
before x (Ok xs) = Ok (x ∷ xs)
before x (Err e) = Err e

-- the values, or the first fault with its number, counted from k
abbrev pub collected : {X : Type 0} → ℕ → List (Result X ArithmeticFault) → Result (List X) ElementFault
collected k [] = Ok []
collected k (Ok x ∷ rs) = before x (collected (k + 1) rs)
collected k (Err f ∷ rs) = Err (at_element k f)

-- afterwards the cells are the new ones, or the fault is told
abbrev pub Made : {X E : Type 0} → Result (List X) E → Result (Unit {0}) E → List X → Type 0
Made (Ok new) r cells' = (r ≡ Ok tt) × (cells' ≡ new)
Made (Err e) r cells' = r ≡ Err e

-- afterwards the table has the new cells from `at` on, and nothing else changed; or the fault is told, those n cells are free, and nothing else changed
abbrev pub Wrote : {X E : Type 0} → Result (List X) E → List X → ℕ → ℕ → Result (Unit {0}) E → List X → Type 0
Wrote (Ok new) table at n r table' = (r ≡ Ok tt) × (table' ≡ put table at new)
Wrote (Err e) table at n r table' = (r ≡ Err e) × (take at table' ≡ take at table) × (drop (at + n) table' ≡ drop (at + n) table)
