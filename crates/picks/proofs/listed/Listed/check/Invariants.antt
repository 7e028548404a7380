use Rattle.std.proofs.Common.{◌≡◌, ◌+◌, drop}
use Rattle.picks.specs.Indices.{first_outside}
use Rattle.picks.proofs.listed.Listed.check.Given as goal

abbrev pub invariant-loop-k : goal.invariant-loop-k
invariant-loop-k g l = first_outside (l.before + l.k + 1) l.n (drop l.k l.self) ≡ first_outside (l.before + 1) l.n l.self
