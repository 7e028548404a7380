use Rattle.std.proofs.Common.{◌≡◌, ℕ, ◌<◌, true}
use Rattle.elementwise.specs.Sure.{Within, value_at}
use Rattle.elementwise.proofs.sure.all_fit.Given as goal

abbrev pub invariant-loop-k : goal.invariant-loop-k
invariant-loop-k g l = l.fit ≡ true → (k : ℕ) → k < l.k → Within (value_at (g.F.Sure.value l.op) l.source l.a l.b k)
