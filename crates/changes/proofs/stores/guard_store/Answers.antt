use Rattle.std.proofs.Common.{length, sym}
use Rattle.changes.proofs.Reading.{next_cell}
use Rattle.changes.proofs.Storing.{by_list}
use Rattle.changes.proofs.stores.guard_store.Goals as goal

pub list_in-index-requires : goal.list_in-index-requires
list_in-index-requires c =
    let a = c.args in
    next_cell a.place.width a.b a.place.row (length a.tables.now.integers.now) a.y c.requires.before c.requires.lawful (by_list a.x a.y a.z (sym c.if-not-can_store.ensures)) c.requires.ample
