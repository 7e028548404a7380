use Rattle.std.proofs.Common.{length}
use Rattle.source.proofs.Scanning.{Scans, Scanned}
use Rattle.source.proofs.words.scan_run.Given as goal

abbrev pub invariant-loop-byte : goal.invariant-loop-byte
invariant-loop-byte g l =
    let waits = g.S.Source.waiting in
    let after = g.C.Scanner.after in
    Scanned after (waits l.initial.s) (waits l.s) l.count l.initial.scanner l.scanner × Scans after (waits l.initial.s) (waits l.s) 0 l.count l.initial.scanner l.scanner

abbrev pub decreases-loop-byte : goal.decreases-loop-byte
decreases-loop-byte g l = length (g.S.Source.waiting l.s)
