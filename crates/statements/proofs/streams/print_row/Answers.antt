use Rattle.std.proofs.Common.{arith}
use Rattle.meaning.proofs.Rows.{lawful_fixed, lawful_small, under_all}
use Rattle.statements.proofs.Flowing.{print_stuck}
use Rattle.tables.proofs.Reaching.{reach_shared}
use Rattle.tables.specs.Lent.{seen}
use Rattle.statements.proofs.streams.print_row.Goals as goal

pub returns-then-is-clause-row : goal.returns-then-is-clause-row
returns-then-is-clause-row c s =
    let g = c.args in
    print_stuck g.view.now.place s g.view.now.slips.now (seen g.tables.now) g.a c.in_ok-x.x c.in_ok-x.ensures.is g.output.now.bytes.now g.output.now.printed
    c.fault.result c.fault.ensures c.if-is.ensures

pub print-requires : goal.print-requires
print-requires c =
    let W = c.args.view.now.place.width in
    let x = c.in_ok-x.x in
    let law = c.in_ok-x.ensures.lawful in
    let small = lawful_small W x law in
    let u = under_all W c.args.a c.args.view.now.place.row c.requires.before in
    let start = c.start_of-at.ensures in
    record {
      fixed = lawful_fixed W x law;
      rows = omega (arith, small.rows, c.requires.width);
      columns = omega (arith, small.columns, c.requires.width);
      within = reach_shared c.args.tables.now c.requires.ample (omega (arith, small.elements, u, start));
    }
