use Rattle.std.proofs.Common.{◌≡◌}
use lib.Seq.{paste}
use Rattle.picks.specs.Picks.{picked}
use Rattle.picks.proofs.picks.pick_inside.Given as goal

abbrev pub invariant-loop-k : goal.invariant-loop-k
invariant-loop-k g l = l.target ≡ paste l.initial.target 0 (picked g.E.Element.NULL l.cells l.list) l.k
