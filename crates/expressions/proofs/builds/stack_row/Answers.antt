use Rattle.std.proofs.Common.{◌*◌, max, refl, arith}
use Rattle.element.specs.Cells.{cells, rows_of}
use Rattle.element.specs.Matrices.{stacked}
use Rattle.meaning.specs.Expressions.{stack}
use Rattle.meaning.specs.States.{value_from}
use Rattle.meaning.specs.Values.{null_of}
use Rattle.meaning.proofs.Shells.{refused_2, made_2}
use Rattle.meaning.proofs.Rows.{within_small, lawful_small, under_all}
use Rattle.expressions.proofs.Building.{stack_size, stack_elements}
use Rattle.expressions.proofs.Writing.{changed_made}
use Rattle.tables.specs.Lent.{held}
use Rattle.tables.proofs.Reaching.{reach}
use Rattle.expressions.proofs.builds.stack_row.Goals as goal

pub returns-in_err-form-clause-made : goal.returns-in_err-form-clause-made
returns-in_err-form-clause-made c =
    refused_2 c.args.view.now.place c.args.view.now.slips.now (held c.args.tables.now) c.from_residual-in_err-form.result c.in_err-form.field-0.0 c.from_residual-in_err-form.ensures.1
    c.args.a c.args.b stack c.in_ok-x.x c.in_ok-y.y c.in_ok-x.ensures.is c.in_ok-y.ensures.is c.in_err-form.ensures.is

pub stack-requires : goal.stack-requires
stack-requires c =
    let p = c.args.view.now.place in
    let t = held c.args.tables.now in
    let x = c.in_ok-x.x in
    let y = c.in_ok-y.y in
    let l = under_all p.width c.args.a p.row c.requires.left in
    let r = under_all p.width c.args.b p.row c.requires.right in
    let sx = lawful_small p.width x c.in_ok-x.ensures.lawful in
    let sy = lawful_small p.width y c.in_ok-y.ensures.lawful in
    let s = within_small p.width c.in_ok-form.form c.in_ok-form.ensures.within in
    let e = stack_size p t c.args.a c.args.b x y c.in_ok-form.form c.in_ok-form.ensures.is c.in_ok-y.ensures.lawful c.start_of-upper.result c.start_of-lower.result c.start_of-upper.ensures c.start_of-lower.ensures in
    record {
      upper = omega (arith, l, sx.elements, c.start_of-upper.ensures, c.start_of-to.ensures);
      lower = omega (arith, r, sy.columns, c.start_of-lower.ensures, c.start_of-to.ensures);
      within = reach c.args.tables.now c.requires.ample (omega (arith, e, s.elements, c.start_of-to.ensures));
    }

pub returns-clause-made : goal.returns-clause-made
returns-clause-made c =
    let p = c.args.view.now.place in
    let t = held c.args.tables.now in
    let x = c.in_ok-x.x in
    let y = c.in_ok-y.y in
    let form = c.in_ok-form.form in
    let g = c.in_ok-form.ensures.is in
    made_2 p c.args.view.now.slips.now t _ _ c.args.a c.args.b stack x y c.in_ok-x.ensures.is c.in_ok-y.ensures.is
    (changed_made p t _ (stack (value_from p.width t c.args.a x) (value_from p.width t c.args.b y)) form g refl x.kind c.start_of-to.result
    (λ k T. stacked (null_of k) (max x.s y.s) (rows_of x.r x.s (cells T c.start_of-upper.result (x.r * x.s))) (cells T c.start_of-lower.result y.s)) refl
    (stack_elements p t c.args.a c.args.b x y form g c.in_ok-y.ensures.lawful c.start_of-upper.result c.start_of-lower.result c.start_of-upper.ensures c.start_of-lower.ensures) c.start_of-to.ensures c.stack.ensures.value)
