-- When a source is made, and what waits in it then.
use Rattle.std.specs.Prelude.{◌≡◌, ℕ, ◌<◌, ◌≤◌, List, Result, MatchResult}
use Rattle.source.specs.declared.refusal.SourceRefusal.{SourceRefusal}
use Rattle.source.specs.declared.refusal.SourceRefusal.TheVariants.{TooLong}

-- a source of so many parts is made if they are no more than `most`, and then its whole text waits; else it is refused as too long
abbrev pub Makes : {S : Type 0} → (S → List ℕ) → List ℕ → ℕ → ℕ → Result S SourceRefusal → Type 0
Makes waits text parts most r = MatchResult r (λ s. (parts ≤ most) × (waits s ≡ text)) (λ e. (most < parts) × (e ≡ TooLong))
