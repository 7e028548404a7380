-- What a read of one kind tells.
use Rattle.std.proofs.Common.{◌≡◌, ℕ, List, sym, ap, ◌∙◌}
use Rattle.types.specs.declared.kinds.Kind.{Kind}
use Rattle.source.specs.declared.state.StreamState.{StreamState}
use Rattle.meaning.specs.Reading.{reading}

pub state_told : (k l : Kind) (bs : List ℕ) (s : StreamState) → k ≡ l → s ≡ (reading l bs).state → s ≡ (reading k bs).state
state_told k l bs s e h = h ∙ ap (λ (m : Kind). (reading m bs).state) (sym e)
