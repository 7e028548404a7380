use Rattle.std.proofs.Common.{length}
use Rattle.source_trials.proofs.records.alike.Given as goal

abbrev pub decreases-loop-byte : goal.decreases-loop-byte
decreases-loop-byte g l = length (g.A.Source.waiting l.a)
