use Rattle.std.proofs.Common.{◌≡◌, take}
use Rattle.element.specs.Cells.{put, joined}
use Rattle.picks.proofs.Picking.{lines}
use Rattle.picks.proofs.picks.cross_inside.Given as goal

abbrev pub invariant-loop-k : goal.invariant-loop-k
invariant-loop-k g l = l.target ≡ put l.initial.target 0 (joined (take l.k (lines g.E.Element.NULL l.cells l.s l.rows l.columns)))
