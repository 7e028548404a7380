use Rattle.std.proofs.Common.{rules}
use Rattle.std.proofs.lemmas.List.{length-replicate}
use Rattle.element.proofs.Writes.{put_part, part_cells, length_cells}
use Rattle.element.proofs.cells.spread.Goals as goal

pub fill-requires : goal.fill-requires
fill-requires g c = g.met.E.Element.infallible c.args.value

pub returns : goal.returns
returns g c =
    let same = c.fill.ensures.after (g.met.E.Element.exact c.args.value) in
    search (rules, put_part, part_cells, length_cells, length-replicate)
