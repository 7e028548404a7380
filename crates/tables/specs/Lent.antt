-- The tables that a host lends, as lists of cells.
use Rattle.std.specs.Prelude.{◌≡◌, ℕ, ◌≤◌, length}
use Rattle.meaning.specs.States.{Tables, tables}
use Rattle.meaning.specs.declared.places.Place.{Place}
use Rattle.meaning.specs.Works.{Ample}
use Rattle.tables.specs.declared.lent.Tables.{Tables as Lent}
use Rattle.tables.specs.declared.lent.Shared.{Shared}

-- what the cells hold
abbrev pub held : Lent → Tables
held t = tables t.booleans.now t.characters.now t.integers.now

abbrev pub seen : Shared → Tables
seen t = tables t.booleans.now t.characters.now t.integers.now

-- each table has at least n cells
pub record Reach (n : ℕ) (t : Tables) : Type 0 where
  pub booleans : n ≤ length t.booleans
  pub characters : n ≤ length t.characters
  pub integers : n ≤ length t.integers

-- each table has the cells of the row at work, and of those before it
abbrev pub Holds : Place → Lent → Type 0
Holds p t = Ample p (length t.booleans.now) (length t.characters.now) (length t.integers.now)

abbrev pub Shows : Place → Shared → Type 0
Shows p t = Ample p (length t.booleans.now) (length t.characters.now) (length t.integers.now)

-- the tables are still those that were lent, as long as they were, whatever their cells hold
pub record Kept (t u : Lent) : Type 0 where
  pub booleans : u.booleans.ghost_name ≡ t.booleans.ghost_name
  pub characters : u.characters.ghost_name ≡ t.characters.ghost_name
  pub integers : u.integers.ghost_name ≡ t.integers.ghost_name
  pub long_booleans : length u.booleans.now ≡ length t.booleans.now
  pub long_characters : length u.characters.now ≡ length t.characters.now
  pub long_integers : length u.integers.now ≡ length t.integers.now
