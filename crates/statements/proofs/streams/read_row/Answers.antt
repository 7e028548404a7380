use Rattle.std.proofs.Common.{arith}
use Rattle.meaning.proofs.Rows.{under_all}
use Rattle.statements.proofs.Operands.{scalar_wide}
use Rattle.statements.proofs.Flowing.{read_stuck, read_value}
use Rattle.tables.specs.Lent.{held}
use Rattle.tables.proofs.Reaching.{reach}
use Rattle.statements.proofs.streams.read_row.Goals as goal

pub returns-then-not-is-clause-value : goal.returns-then-not-is-clause-value
returns-then-not-is-clause-value g c s =
    let a = c.args in
    read_stuck a.view.now.place s a.view.now.slips.now (held a.tables.now) a.i c.in_ok-x.x c.in_ok-x.ensures.is a.intake.now.taken a.intake.now.stream (g.S.Source.waiting a.source.now)
    c.fault.result c.fault.ensures c.if-not-is.ensures

pub read-requires : goal.read-requires
read-requires g c =
    let W = c.args.view.now.place.width in
    let wide = scalar_wide W c.in_ok-x.x c.in_ok-x.ensures.lawful c.if-not-is.ensures in
    let u = under_all W c.args.i c.args.view.now.place.row c.requires.before in
    let start = c.start_of-to.ensures in
    record {
      within = reach c.args.tables.now c.requires.ample (omega (arith, wide, u, start));
    }

pub returns-clause-value : goal.returns-clause-value
returns-clause-value g c s =
    let a = c.args in
    read_value a.view.now.place s a.view.now.slips.now (held a.tables.now) a.i c.in_ok-x.x c.in_ok-x.ensures.is a.intake.now.taken a.intake.now.stream (g.S.Source.waiting a.source.now)
    c.if-not-is.ensures c.start_of-to.result c.start_of-to.ensures
    c.read.new.intake.taken c.read.new.intake.stream (held c.read.new.self) (g.S.Source.waiting c.read.new.source) c.read.ensures.written c.read.ensures.told c.read.ensures.waits c.read.ensures.took
