use Rattle.instruction.specs.declared.instructions.Infix.TheVariants as family
use Rattle.evaluation.proofs.Choosing.{by_operator}
use Rattle.tables.specs.Lent.{held}
use Rattle.evaluation.proofs.operators.infix_row.Goals as goal

pub returns-in-Arithmetic-clause-made : goal.returns-in-Arithmetic-clause-made
returns-in-Arithmetic-clause-made c =
    by_operator c.args.view.now.place c.args.view.now.slips.now (held c.args.tables.now) _ c.calculate_row.result c.args.a c.args.b c.args.op (family.Arithmetic c.in-Arithmetic.op) c.in-Arithmetic.is
    (c.calculate_row.ensures c.args.tables.now.booleans.now c.args.tables.now.characters.now)

pub returns-in-Order-clause-made : goal.returns-in-Order-clause-made
returns-in-Order-clause-made c =
    by_operator c.args.view.now.place c.args.view.now.slips.now (held c.args.tables.now) _ c.compare_row.result c.args.a c.args.b c.args.op (family.Order c.in-Order.op) c.in-Order.is
    (c.compare_row.ensures c.args.tables.now.characters.now)

pub returns-in-Logic-clause-made : goal.returns-in-Logic-clause-made
returns-in-Logic-clause-made c =
    by_operator c.args.view.now.place c.args.view.now.slips.now (held c.args.tables.now) _ c.decide_row.result c.args.a c.args.b c.args.op (family.Logic c.in-Logic.op) c.in-Logic.is
    (c.decide_row.ensures c.args.tables.now.characters.now c.args.tables.now.integers.now)

pub returns-in-Equality-clause-made : goal.returns-in-Equality-clause-made
returns-in-Equality-clause-made c =
    by_operator c.args.view.now.place c.args.view.now.slips.now (held c.args.tables.now) _ c.equate_row.result c.args.a c.args.b c.args.op (family.Equality c.in-Equality.op) c.in-Equality.is
    c.equate_row.ensures.made

pub returns-in-Join-clause-made : goal.returns-in-Join-clause-made
returns-in-Join-clause-made c =
    by_operator c.args.view.now.place c.args.view.now.slips.now (held c.args.tables.now) _ c.join_row.result c.args.a c.args.b c.args.op (family.Join) c.in-Join.is
    c.join_row.ensures.made

pub returns-in-Product-clause-made : goal.returns-in-Product-clause-made
returns-in-Product-clause-made c =
    by_operator c.args.view.now.place c.args.view.now.slips.now (held c.args.tables.now) _ c.multiply_row.result c.args.a c.args.b c.args.op (family.Product) c.in-Product.is
    (c.multiply_row.ensures c.args.tables.now.booleans.now c.args.tables.now.characters.now)

pub returns-in-By-clause-made : goal.returns-in-By-clause-made
returns-in-By-clause-made c =
    by_operator c.args.view.now.place c.args.view.now.slips.now (held c.args.tables.now) _ c.step_row.result c.args.a c.args.b c.args.op (family.By) c.in-By.is
    c.step_row.ensures.made
