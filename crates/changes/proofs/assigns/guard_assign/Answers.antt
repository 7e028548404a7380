use Rattle.std.proofs.Common.{◌≡◌, true, length, sym, ◌∙◌}
use Rattle.rules.specs.Rules.{takes}
use Rattle.meaning.specs.Values.{known}
use Rattle.changes.proofs.Reading.{next_cell}
use Rattle.changes.proofs.Taking.{taken_list}
use Rattle.changes.proofs.assigns.guard_assign.Goals as goal

pub list_in-list-requires : goal.list_in-list-requires
list_in-list-requires c =
    let a = c.args in
    let h : takes (known a.x) (known a.y) ≡ true = (λ i. takes (sym c.typing.ensures i) (sym c.typing-2.ensures i)) ∙ sym c.if-not-can_take.ensures in
    next_cell a.place.width a.a a.place.row (length a.tables.now.integers.now) a.y c.requires.before c.requires.lawful (taken_list (known a.x) a.y h (sym c.if-is.ensures)) c.requires.ample
