-- A change in the table of one kind.
use Rattle.std.proofs.Common.{◌≡◌, ℕ, ◌<◌, Bool, List, [], ◌∷◌, length, set, ℤ, sym, ap, ◌∙◌}
use Rattle.types.specs.declared.kinds.Kind.{Kind}
use Rattle.types.specs.declared.kinds.Kind.TheVariants.{Boolean, Character, Integer}
use Rattle.element.specs.Cells.{put}
use Rattle.element.proofs.Writes.{put_one}
use Rattle.meaning.specs.Values.{Cell}
use Rattle.meaning.specs.States.{Tables, tables}
use Rattle.meaning.specs.Works.{changed}

module _ (k : Kind) (t : Tables) (to : ℕ) (f : (k : Kind) → List (Cell k) → List (Cell k)) where
  pub changed_boolean : {xs : List Bool} → k ≡ Boolean → xs ≡ put t.booleans to (f Boolean t.booleans) → tables xs t.characters t.integers ≡ changed k t to f
  changed_boolean e h = (λ i. tables (h i) t.characters t.integers) ∙ ap (λ (l : Kind). changed l t to f) (sym e)

  pub changed_character : {xs : List ℤ} → k ≡ Character → xs ≡ put t.characters to (f Character t.characters) → tables t.booleans xs t.integers ≡ changed k t to f
  changed_character e h = (λ i. tables t.booleans (h i) t.integers) ∙ ap (λ (l : Kind). changed l t to f) (sym e)

  pub changed_integer : {xs : List ℤ} → k ≡ Integer → xs ≡ put t.integers to (f Integer t.integers) → tables t.booleans t.characters xs ≡ changed k t to f
  changed_integer e h = (λ i. tables t.booleans t.characters (h i)) ∙ ap (λ (l : Kind). changed l t to f) (sym e)

-- one cell written anew, where the element is y
pub put_cell : {X : Type 0} (T : List X) (to : ℕ) (x y : X) → to < length T → x ≡ y → set T to x ≡ put T to (y ∷ [])
put_cell T to x y h e = put_one T to x h ∙ ap (λ z. put T to (z ∷ [])) e
