use Rattle.std.proofs.Common.{◌≡◌, ◌+◌, ◌≤◌, length}
use Rattle.source_trials.proofs.records.count_bytes.Given as goal

abbrev pub invariant-loop-count : goal.invariant-loop-count
invariant-loop-count g l =
    let waits = g.S.Source.waiting in
    (l.count + length (waits l.s) ≡ length (waits l.initial.s)) × (length (waits l.initial.s) ≤ 16777216)

abbrev pub decreases-loop-count : goal.decreases-loop-count
decreases-loop-count g l = length (g.S.Source.waiting l.s)
