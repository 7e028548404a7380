use Rattle.std.proofs.Common.{length, sym}
use Rattle.std.proofs.lemmas.Bool.{and_parts}
use Rattle.rules.specs.Rules.{takes}
use Rattle.meaning.specs.Values.{known}
use Rattle.changes.proofs.Reading.{next_cell}
use Rattle.changes.proofs.Taking.{taken_list}
use Rattle.changes.proofs.declares.guard_declare.Goals as goal

pub list_in-list-requires : goal.list_in-list-requires
list_in-list-requires c =
    let a = c.args in
    let h = (and_parts (takes a.w (known a.y)) _ (sym c.if-not-can_begin.ensures)).0 in
    next_cell a.place.width a.a a.place.row (length a.tables.now.integers.now) a.y c.requires.before c.requires.lawful (taken_list a.w a.y h (sym c.if-is.ensures)) c.requires.ample
