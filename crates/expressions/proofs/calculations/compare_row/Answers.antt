use Rattle.std.proofs.Common.{Bool, List, [], ℤ, Ok, Result, refl, arith}
use Rattle.types.specs.declared.kinds.Kind.TheVariants.{Boolean, Integer}
use Rattle.arithmetic.specs.declared.faults.ElementFault.{ElementFault}
use Rattle.arithmetic.specs.Truths.{ordered}
use Rattle.elementwise.specs.Results.{map2}
use Rattle.meaning.specs.Expressions.{compared}
use Rattle.meaning.specs.States.{tables, value_from}
use Rattle.meaning.proofs.Shells.{refused_2, made_2}
use Rattle.meaning.proofs.Rows.{within_small}
use Rattle.expressions.proofs.Pairing.{pair_elements, left_end, right_end}
use Rattle.expressions.proofs.Writing.{value_made}
use Rattle.expressions.proofs.calculations.compare_row.Goals as goal

pub returns-in_err-form : goal.returns-in_err-form
returns-in_err-form c cs =
    refused_2 c.args.view.now.place c.args.view.now.slips.now (tables c.args.booleans.now cs c.args.integers.now) c.from_residual-in_err-form.result c.in_err-form.field-0.0 c.from_residual-in_err-form.ensures.1
    c.args.a c.args.b (compared c.args.op) c.in_ok-x.x c.in_ok-y.y c.in_ok-x.ensures.is c.in_ok-y.ensures.is c.in_err-form.ensures.is

pub overflow_mul-form : goal.overflow_mul-form
overflow_mul-form c = let s = within_small c.args.view.now.place.width c.in_ok-form.form c.in_ok-form.ensures.within in omega (arith, s.elements)

pub compare-requires : goal.compare-requires
compare-requires c =
    let p = c.args.view.now.place in
    let f : List ℤ → List ℤ → Result (List Bool) ElementFault = λ xs ys. Ok (map2 (ordered c.args.op) xs ys) in
    let t = tables c.args.booleans.now [] c.args.integers.now in
    let s = within_small p.width c.in_ok-form.form c.in_ok-form.ensures.within in
    let l = left_end p Integer Boolean f t c.args.a c.args.b c.in_ok-x.x c.in_ok-y.y c.in_ok-form.form c.in_ok-form.ensures.is
    c.in_ok-x.ensures.lawful c.in_ok-y.ensures.lawful c.cells_of-left.result c.cells_of-right.result c.cells_of-left.ensures c.cells_of-right.ensures c.start_of-to.result c.start_of-to.ensures s.elements c.requires.left in
    let r = right_end p Integer Boolean f t c.args.a c.args.b c.in_ok-x.x c.in_ok-y.y c.in_ok-form.form c.in_ok-form.ensures.is
    c.in_ok-x.ensures.lawful c.in_ok-y.ensures.lawful c.cells_of-left.result c.cells_of-right.result c.cells_of-left.ensures c.cells_of-right.ensures c.start_of-to.result c.start_of-to.ensures s.elements c.requires.right in
    record { left = omega (arith, l, c.start_of-to.ensures, c.requires.integers); right = omega (arith, r, c.start_of-to.ensures, c.requires.integers); within = omega (arith, s.elements, c.start_of-to.ensures, c.requires.ample) }

pub returns : goal.returns
returns c cs =
    let p = c.args.view.now.place in
    let x = c.in_ok-x.x in
    let y = c.in_ok-y.y in
    let form = c.in_ok-form.form in
    let f : List ℤ → List ℤ → Result (List Bool) ElementFault = λ xs ys. Ok (map2 (ordered c.args.op) xs ys) in
    let t = tables c.args.booleans.now cs c.args.integers.now in
    let e = pair_elements p Integer Boolean f t c.args.a c.args.b x y form c.in_ok-form.ensures.is
    c.in_ok-x.ensures.lawful c.in_ok-y.ensures.lawful c.cells_of-left.result c.cells_of-right.result c.cells_of-left.ensures c.cells_of-right.ensures in
    made_2 p c.args.view.now.slips.now t _ _ c.args.a c.args.b (compared c.args.op) x y c.in_ok-x.ensures.is c.in_ok-y.ensures.is
    (value_made p t (compared c.args.op (value_from p.width t c.args.a x) (value_from p.width t c.args.b y)) form c.in_ok-form.ensures.is refl _ c.start_of-to.result _ e c.start_of-to.ensures c.compare.ensures)
