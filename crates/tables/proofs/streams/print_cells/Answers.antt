use Rattle.std.proofs.Common.{ℕ, List, subst}
use Rattle.print.specs.Texts.{Printed}
use Rattle.tables.proofs.Shaping.{scalar_text, interval_printed}
use Rattle.tables.proofs.streams.print_cells.Goals as goal

pub returns-in-Scalar : goal.returns-in-Scalar
returns-in-Scalar g c =
    let a = c.args in
    subst (λ (b : List ℕ). Printed b a.output.now a.printed c.print_scalar.result c.print_scalar.new.output)
    (scalar_text g.E.Element.text g.E.Element.NULL a.table.now a.shape a.r a.s a.at g.E.Element.KIND c.index-table-at.result c.in-Scalar.is c.requires.fixed c.requires.within c.index-table-at.is)
    c.print_scalar.ensures

pub returns-in-Interval : goal.returns-in-Interval
returns-in-Interval g c =
    let a = c.args in
    interval_printed g.E.Element.text g.E.Element.NULL a.table.now a.shape a.r a.s a.at a.output.now a.printed c.in-Interval.is c.requires.place
