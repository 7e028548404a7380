-- Casts between the tables of two kinds.
use Rattle.std.proofs.Common.{◌≡◌, ℕ, Bool, List, map, ℤ, sym, ap, ◌∙◌, map-id}
use Rattle.types.specs.declared.kinds.Kind.{Kind}
use Rattle.types.specs.declared.kinds.Kind.TheVariants.{Boolean, Character, Integer}
use Rattle.element.specs.Cells.{put, cells}
use Rattle.meaning.specs.Values.{Cell}
use Rattle.meaning.specs.Elements.{cast}
use Rattle.meaning.specs.States.{Tables, tables, table_of, with_table}

-- elements cast to their own kind stay
pub cast_own : (k : Kind) (xs : List (Cell k)) → map (cast k k) xs ≡ xs
cast_own Boolean xs = map-id xs
cast_own Character xs = map-id xs
cast_own Integer xs = map-id xs

-- so a copy is a cast
pub put_own : (k : Kind) (T xs S : List (Cell k)) (to : ℕ) → S ≡ put T to xs → S ≡ put T to (map (cast k k) xs)
put_own k T xs S to h = h ∙ ap (λ (ys : List (Cell k)). put T to ys) (sym (cast_own k xs))

-- the table of kind l with n elements of kind k, cast to l, from `to` on
abbrev pub cast_in : (k l : Kind) → Tables → ℕ → ℕ → ℕ → Tables
cast_in k l t at to n = with_table l t (put (table_of l t) to (map (cast k l) (cells (table_of k t) at n)))

-- the same where k is j, and l is one kind
module _ (k l j : Kind) (t : Tables) (at to n : ℕ) where
  pub cast_boolean : {xs : List Bool} → k ≡ j → l ≡ Boolean → xs ≡ put t.booleans to (map (cast j Boolean) (cells (table_of j t) at n)) → tables xs t.characters t.integers ≡ cast_in k l t at to n
  cast_boolean e h w = (λ i. tables (w i) t.characters t.integers) ∙ sym (λ i. cast_in (e i) (h i) t at to n)

  pub cast_character : {xs : List ℤ} → k ≡ j → l ≡ Character → xs ≡ put t.characters to (map (cast j Character) (cells (table_of j t) at n)) → tables t.booleans xs t.integers ≡ cast_in k l t at to n
  cast_character e h w = (λ i. tables t.booleans (w i) t.integers) ∙ sym (λ i. cast_in (e i) (h i) t at to n)

  pub cast_integer : {xs : List ℤ} → k ≡ j → l ≡ Integer → xs ≡ put t.integers to (map (cast j Integer) (cells (table_of j t) at n)) → tables t.booleans t.characters xs ≡ cast_in k l t at to n
  cast_integer e h w = (λ i. tables t.booleans t.characters (w i)) ∙ sym (λ i. cast_in (e i) (h i) t at to n)
