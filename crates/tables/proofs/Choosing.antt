-- A pick or a store in the table of one kind.
use Rattle.std.proofs.Common.{◌≡◌, ℕ, Bool, List, ℤ, Some, None, Option, Result, ap}
use Rattle.types.specs.declared.kinds.Kind.{Kind}
use Rattle.types.specs.declared.kinds.Kind.TheVariants.{Boolean, Character, Integer}
use Rattle.picks.specs.declared.indices.Outside.{Outside}
use Rattle.picks.specs.Picks.{Guarded}
use Rattle.element.specs.Cells.{put}
use Rattle.meaning.specs.Values.{Cell}
use Rattle.meaning.specs.States.{Tables, tables}
use Rattle.meaning.specs.Works.{changed, Chosen}
use Rattle.tables.proofs.Changing.{changed_boolean, changed_character, changed_integer}

module _ (k : Kind) (t : Tables) (to : ℕ) (f : (k : Kind) → List (Cell k) → List (Cell k)) (r : Result (Unit {0}) Outside) where
  pub chosen_boolean : (o : Option ℕ) (xs : List Bool) → k ≡ Boolean → Guarded o t.booleans (put t.booleans to (f Boolean t.booleans)) r xs → Chosen o t (changed k t to f) r (tables xs t.characters t.integers)
  chosen_boolean None xs e h = (h.0, changed_boolean k t to f e h.1)
  chosen_boolean (Some n) xs e h = (h.0, ap (λ (ys : List Bool). tables ys t.characters t.integers) h.1)

  pub chosen_character : (o : Option ℕ) (xs : List ℤ) → k ≡ Character → Guarded o t.characters (put t.characters to (f Character t.characters)) r xs → Chosen o t (changed k t to f) r (tables t.booleans xs t.integers)
  chosen_character None xs e h = (h.0, changed_character k t to f e h.1)
  chosen_character (Some n) xs e h = (h.0, ap (λ (ys : List ℤ). tables t.booleans ys t.integers) h.1)

  pub chosen_integer : (o : Option ℕ) (xs : List ℤ) → k ≡ Integer → Guarded o t.integers (put t.integers to (f Integer t.integers)) r xs → Chosen o t (changed k t to f) r (tables t.booleans t.characters xs)
  chosen_integer None xs e h = (h.0, changed_integer k t to f e h.1)
  chosen_integer (Some n) xs e h = (h.0, ap (λ (ys : List ℤ). tables t.booleans t.characters ys) h.1)
