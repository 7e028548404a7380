-- Each arm is one of the changes, in the whole state.
use Rattle.instruction.specs.declared.instructions.Change.TheVariants as change
use Rattle.rows.specs.States.{state_at}
use Rattle.rows.proofs.Choosing.{by_change}
use Rattle.rows.proofs.changing.change_row.Goals as goal

pub returns-in-Declare-clause-does : goal.returns-in-Declare-clause-does
returns-in-Declare-clause-does g c =
    let a = c.args in
    let here = state_at a.frame.now a.intake.now (g.S.Source.waiting a.source.now) a.output.now in
    by_change a.frame.now.place a.head a.change (change.Declare c.in-Declare.written c.in-Declare.start) here _ c.in-Declare.is (c.declare.ensures.value here)

pub returns-in-Assign-clause-does : goal.returns-in-Assign-clause-does
returns-in-Assign-clause-does g c =
    let a = c.args in
    let here = state_at a.frame.now a.intake.now (g.S.Source.waiting a.source.now) a.output.now in
    by_change a.frame.now.place a.head a.change (change.Assign c.in-Assign.v c.in-Assign.a) here _ c.in-Assign.is (c.assign.ensures.value a.head here)

pub returns-in-Store-clause-does : goal.returns-in-Store-clause-does
returns-in-Store-clause-does g c =
    let a = c.args in
    let here = state_at a.frame.now a.intake.now (g.S.Source.waiting a.source.now) a.output.now in
    by_change a.frame.now.place a.head a.change (change.Store c.in-Store.v c.in-Store.b c.in-Store.c) here _ c.in-Store.is (c.store.ensures.value a.head here)

pub returns-in-StoreTwo-clause-does : goal.returns-in-StoreTwo-clause-does
returns-in-StoreTwo-clause-does g c =
    let a = c.args in
    let here = state_at a.frame.now a.intake.now (g.S.Source.waiting a.source.now) a.output.now in
    by_change a.frame.now.place a.head a.change (change.StoreTwo c.in-StoreTwo.v c.in-StoreTwo.b c.in-StoreTwo.c c.in-StoreTwo.d) here _ c.in-StoreTwo.is (c.store_two.ensures.value a.head here)

pub returns-in-Print-clause-does : goal.returns-in-Print-clause-does
returns-in-Print-clause-does g c =
    let a = c.args in
    let here = state_at a.frame.now a.intake.now (g.S.Source.waiting a.source.now) a.output.now in
    by_change a.frame.now.place a.head a.change (change.Print c.in-Print.a) here _ c.in-Print.is (c.print_at.ensures.row here)

pub returns-in-Read-clause-does : goal.returns-in-Read-clause-does
returns-in-Read-clause-does g c =
    let a = c.args in
    let here = state_at a.frame.now a.intake.now (g.S.Source.waiting a.source.now) a.output.now in
    by_change a.frame.now.place a.head a.change (change.Read c.in-Read.v) here _ c.in-Read.is (c.read_row.ensures.value here)

pub returns-in-Return-clause-does : goal.returns-in-Return-clause-does
returns-in-Return-clause-does g c =
    let a = c.args in
    let here = state_at a.frame.now a.intake.now (g.S.Source.waiting a.source.now) a.output.now in
    by_change a.frame.now.place a.head a.change (change.Return c.in-Return.a) here _ c.in-Return.is (c.return_at.ensures here here.tables)
