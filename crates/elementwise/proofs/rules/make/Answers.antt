use Rattle.std.proofs.Common.{rules}
use Rattle.elementwise.proofs.Collects.{made_more, made_all}
use Rattle.elementwise.proofs.rules.make.Goals as goal

pub loop-k-preserved : goal.loop-k-preserved
loop-k-preserved g c = search (rules, made_more)

pub returns : goal.returns
returns g c = search (rules, made_all)
