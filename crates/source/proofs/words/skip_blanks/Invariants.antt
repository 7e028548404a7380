use Rattle.std.proofs.Common.{length}
use Rattle.source.proofs.Scanning.{Skips, Skipped}
use Rattle.source.proofs.words.skip_blanks.Given as goal

abbrev pub invariant-loop-count : goal.invariant-loop-count
invariant-loop-count g l =
    let waits = g.S.Source.waiting in
    Skipped (waits l.initial.s) (waits l.s) l.count × Skips (waits l.initial.s) (waits l.s) 0 l.count

abbrev pub decreases-loop-count : goal.decreases-loop-count
decreases-loop-count g l = length (g.S.Source.waiting l.s)
