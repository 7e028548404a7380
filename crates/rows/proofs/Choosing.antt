-- A row that says something, and what it then does.
use Rattle.std.proofs.Common.{◌≡◌, sym, ap, ◌∙◌}
use Rattle.types.specs.declared.typing.Typing.{Typing}
use Rattle.instruction.specs.declared.instructions.Change.{Change as Changes}
use Rattle.meaning.specs.declared.places.Place.{Place}
use Rattle.meaning.specs.States.{State}
use Rattle.meaning.specs.Acts.{Step}
use Rattle.rows.specs.Changing.{changing}

pub by_change : (p : Place) (head : Typing) (says own : Changes) (s : State) (x : Step) → says ≡ own → x ≡ changing p head own s → x ≡ changing p head says s
by_change p head says own s x e h = h ∙ ap (λ (c : Changes). changing p head c s) (sym e)
