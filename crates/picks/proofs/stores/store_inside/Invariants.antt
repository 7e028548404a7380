use Rattle.std.proofs.Common.{◌≡◌, take}
use Rattle.element.specs.Cells.{put, cells}
use Rattle.element.specs.Operands.{along}
use Rattle.picks.specs.Indices.{indices_of, index_count}
use Rattle.picks.specs.Stores.{stored}
use Rattle.picks.proofs.stores.store_inside.Given as goal

abbrev pub invariant-loop-k : goal.invariant-loop-k
invariant-loop-k g l =
    l.table ≡ put l.initial.table l.to (stored (cells l.initial.table l.to l.have) (take l.k (indices_of l.index (g.I.Integers.seen l.integers l.initial.table))) (take l.k (along g.E.Element.NULL l.initial.table l.values (index_count l.index))))
