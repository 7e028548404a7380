use Rattle.std.proofs.Common.{Err, ap, rules}
use Rattle.elementwise.proofs.Collects.{sofar_none, sofar_more, made_every, made_until}
use Rattle.elementwise.proofs.rules.try_make.Goals as goal

pub loop-k-init : goal.loop-k-init
loop-k-init g c = search (rules, sofar_none)

pub loop-k-preserved : goal.loop-k-preserved
loop-k-preserved g c = let h = c.in-Ok.ensures in search (rules, sofar_more)

pub returns-in-Err : goal.returns-in-Err
returns-in-Err g c =
    made_until _ _ (g.R.Rule.gives c.args.rule.now c.args.source.now) c.loop-k.target _ _ _ _ c.loop-k.invariant c.loop-k-test.true c.in-Err.ensures (ap Err c.at_place.ensures)

pub returns : goal.returns
returns g c = search (rules, made_every)
