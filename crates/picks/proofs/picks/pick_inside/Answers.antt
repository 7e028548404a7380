use Rattle.std.proofs.Common.{rules}
use Rattle.picks.proofs.Picking.{pick_more, pick_all}
use Rattle.picks.proofs.picks.pick_inside.Goals as goal

pub loop-k-preserved : goal.loop-k-preserved
loop-k-preserved g c = search (rules, pick_more)

pub returns : goal.returns
returns g c = search (rules, pick_all)
