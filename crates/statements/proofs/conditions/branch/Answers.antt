use Rattle.std.proofs.Common.{true, false, length, sym, ap, ◌∙◌, arith}
use Rattle.types.specs.declared.kinds.Kind.TheVariants.{Boolean}
use Rattle.types.specs.Typings.{alone}
use Rattle.meaning.specs.States.{tables}
use Rattle.statements.proofs.Operands.{cell_there}
use Rattle.statements.proofs.Branching.{branch_stuck, branch_by}
use Rattle.statements.proofs.conditions.branch.Goals as goal

pub returns-then-not-is_alone : goal.returns-then-not-is_alone
returns-then-not-is_alone c s cs is =
    branch_stuck c.args.view.now.place s c.args.view.now.slips.now (tables c.args.booleans.now cs is) c.args.a c.in_ok-x.x c.in_ok-x.ensures.is c.args.target c.fault.result c.fault.ensures
    (c.if-not-is_alone.ensures ∙ ap (alone Boolean) c.typing.ensures)

pub bounds-booleans-start_of : goal.bounds-booleans-start_of
bounds-booleans-start_of c =
    let lone = c.if-not-is_alone.ensures ∙ ap (alone Boolean) c.typing.ensures in
    let there = cell_there c.args.view.now.place.width c.in_ok-x.x c.in_ok-x.ensures.lawful (sym lone) c.args.a c.args.view.now.place.row (length c.args.booleans.now) c.requires.before c.requires.ample in
    omega (arith, there, c.start_of.ensures)

pub returns-then-holds : goal.returns-then-holds
returns-then-holds c s cs is =
    branch_by c.args.view.now.place s c.args.view.now.slips.now (tables c.args.booleans.now cs is) c.args.a c.in_ok-x.x c.in_ok-x.ensures.is c.args.target c.in_ok-x.ensures.lawful
    (c.if-not-is_alone.ensures ∙ ap (alone Boolean) c.typing.ensures) c.start_of.result c.start_of.ensures true c.if-holds.true

pub returns-else-holds : goal.returns-else-holds
returns-else-holds c s cs is =
    branch_by c.args.view.now.place s c.args.view.now.slips.now (tables c.args.booleans.now cs is) c.args.a c.in_ok-x.x c.in_ok-x.ensures.is c.args.target c.in_ok-x.ensures.lawful
    (c.if-not-is_alone.ensures ∙ ap (alone Boolean) c.typing.ensures) c.start_of.result c.start_of.ensures false c.if-holds.false
