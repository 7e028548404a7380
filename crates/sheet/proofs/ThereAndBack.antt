-- What was saved is loaded again.
use Rattle.std.proofs.Common.{◌≡◌, ℕ, ◌-◌, ◌<◌, ◌≤◌, List, ◌++◌, length, take, Ok, Err, Result, ap, ◌∙◌, inr, arith, length-append, MatchResult}
use Rattle.std.proofs.lemmas.List.{take_at}
use Rattle.sheet.specs.Answers.{GivenBack, Loaded, Unloaded}
use Rattle.sheet.specs.Files.{Same}
use Rattle.sheet.specs.Rooms.{rows_of, space}
use Rattle.sheet.specs.Trips.{Unreloaded}
use Rattle.sheet.specs.declared.draft.Draft.{Draft}
use Rattle.sheet.specs.declared.refusal.Refusal.TheVariants.{NoRoom}
use Rattle.sheet.specs.declared.refusal.Returned.{Returned}
use Rattle.sheet.specs.declared.room.Room.{Room}

module _ (f next rest : List ℕ) (n : ℕ) (e : next ≡ f ++ rest) (l : n ≡ length f) where
  pub front : take (n - 0) next ≡ f
  front = ap (take (n - 0)) e ∙ take_at f rest (n - 0) (omega arith)

-- what a load of what was saved answers, by both clauses of load
pub reloaded : {X : Type 0} (draft : X → Draft) (text : X → List ℕ) (file note : List ℕ) (d : Draft) (m : Room) (k : ℕ) (r : Result X Returned) → MatchResult r (λ p. Loaded file m (text p) (draft p)) (λ x. GivenBack m x (Unloaded file (space m))) → MatchResult r (λ p. (text p ≡ note) × Same (draft p) d) (λ x. (x.refusal ≡ NoRoom) × (space m < length (rows_of d))) → MatchResult r (λ p. (text p ≡ note) × Same (draft p) d) (λ x. Unreloaded note d k (space m) x.refusal × (x.room ≡ m))
reloaded draft text file note d m k (Ok p) g h = h
reloaded draft text file note d m k (Err x) g h = (inr h, g.room)
