use Rattle.std.proofs.Common.{rules}
use Rattle.print.proofs.Spaces.{begun_more, begun_fits, begun_all}
use Rattle.print.proofs.writes.write_vector.Goals as goal

pub write_gap-start-requires : goal.write_gap-start-requires
write_gap-start-requires g c =
    let fit = begun_fits g.E.Element.text c.args.vector.now _ _ c.args.from _ _ _ _ c.loop-k-test.true c.loop-k.invariant c.index-vector-k.is c.requires in search rules

pub write_text-end-requires : goal.write_text-end-requires
write_text-end-requires g c =
    let fit = begun_fits g.E.Element.text c.args.vector.now _ _ c.args.from _ _ _ _ c.loop-k-test.true c.loop-k.invariant c.index-vector-k.is c.requires in search rules

pub loop-k-preserved : goal.loop-k-preserved
loop-k-preserved g c =
    begun_more _ _ _ _ _ _ _ _ _ _ _ _ c.loop-k-test.true (search rules) c.loop-k.invariant c.write_gap-start.ensures.written c.write_gap-start.ensures.end c.write_text-end.ensures.written c.write_text-end.ensures.end c.index-vector-k.is

pub returns-clause-written : goal.returns-clause-written
returns-clause-written g c = search (rules, begun_all)
