-- The first byte that waits, taken only where it is wanted.
use Rattle.std.specs.Prelude.{◌≡◌, ℕ, Bool, true, false, List, [], ◌∷◌, Some, None, Option}
use Rattle.source.specs.Waiting.{first, behind}

-- nothing waits, or this holds of the first byte
abbrev pub Stays : (ℕ → Type 0) → List ℕ → Type 0
Stays P [] = Unit
Stays P (b ∷ bs) = P b

-- the first byte is taken where a test lets it through, and else it stays; P says what the test may answer
abbrev pub NextIf : (ℕ → Bool → Type 0) → List ℕ → Option ℕ → List ℕ → Type 0
NextIf P before None after = (after ≡ before) × Stays (λ b. P b false) before
NextIf P before (Some b) after = (first before ≡ Some b) × P b true × (after ≡ behind before)
