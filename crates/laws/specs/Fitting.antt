-- When a value is as its row was noted, and when rows hold such values.
use Rattle.std.specs.Prelude.{◌≡◌, ℕ, true, List, [], ◌∷◌, Some, Option, None}
use Rattle.types.specs.Types.{Size}
use Rattle.types.specs.declared.typing.Typing.{Typing}
use Rattle.meaning.specs.declared.layouts.Layout.{Layout}
use Rattle.meaning.specs.Values.{Value, lawful}

-- a size is the noted one, where that is known
abbrev pub SizeFits : Size → ℕ → Type 0
SizeFits None m = Unit {0}
SizeFits (Some n) m = n ≡ m

-- kind and shape are those noted, and so is each known size
pub record Fits (n : Typing) (f : Layout) : Type 0 where
  pub kind : f.kind ≡ n.kind
  pub shape : f.shape ≡ n.shape
  pub r : SizeFits n.r f.r
  pub s : SizeFits n.s f.s

-- a value that may exist at width W, and is as noted
pub record Held (W : ℕ) (n : Typing) (v : Value) : Type 0 where
  pub exists : lawful W v.layout ≡ true
  pub fits : Fits n v.layout

-- ---- rows; `at` tells the value that a row holds now, and `notes` what was noted of it
abbrev pub Ready : ℕ → (ℕ → Typing) → (ℕ → Option Value) → ℕ → Type 0
Ready W notes at i = (v : Value) × (at i ≡ Some v) × Held W (notes i) v

abbrev pub AllReady : ℕ → (ℕ → Typing) → (ℕ → Option Value) → List ℕ → Type 0
AllReady W notes at [] = Unit {0}
AllReady W notes at (i ∷ is) = Ready W notes at i × AllReady W notes at is
