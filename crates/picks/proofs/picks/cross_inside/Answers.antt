use Rattle.std.proofs.Common.{sym, arith}
use Rattle.picks.proofs.Picking.{cross_more, cross_all}
use Rattle.picks.proofs.picks.cross_inside.Goals as goal

pub loop-k-preserved : goal.loop-k-preserved
loop-k-preserved g c =
    let a = c.args in
    cross_more g.E.Element.NULL a.cells.now a.s a.rows.now a.columns.now a.target.now c.loop-k.target c.count-width.result c.loop-k.k c.place-row.result c.pick_inside.new.target (sym c.count-width.ensures) (omega arith) c.place-row.ensures.value c.loop-k.invariant c.pick_inside.ensures

pub returns : goal.returns
returns g c =
    let a = c.args in
    cross_all g.E.Element.NULL a.cells.now a.s a.rows.now a.columns.now a.target.now c.loop-k.target c.loop-k.k c.requires.alike (omega arith) c.loop-k.invariant
