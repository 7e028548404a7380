use Rattle.std.proofs.Common.{sym, ◌∙◌}
use Rattle.picks.proofs.Indexing.{count_listed}
use Rattle.picks.proofs.listed.Listed.count.Goals as goal

pub returns : goal.returns
returns g c = let s = c.self.inside in c.count.ensures ∙ sym (count_listed s.index (g.I.Integers.seen s.integers.now s.table.now) c.args.self.now c.self.view_is c.self.invariant)
