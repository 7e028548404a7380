use Rattle.std.proofs.Common.{◌++◌, refl, arith}
use Rattle.element.specs.Cells.{cells}
use Rattle.meaning.specs.Expressions.{joined}
use Rattle.meaning.specs.States.{value_from}
use Rattle.meaning.proofs.Shells.{refused_2, made_2}
use Rattle.meaning.proofs.Rows.{within_small, lawful_small, under_all}
use Rattle.expressions.proofs.Building.{join_size, join_elements}
use Rattle.expressions.proofs.Writing.{changed_made}
use Rattle.tables.specs.Lent.{held}
use Rattle.tables.proofs.Reaching.{reach}
use Rattle.expressions.proofs.builds.join_row.Goals as goal

pub returns-in_err-form-clause-made : goal.returns-in_err-form-clause-made
returns-in_err-form-clause-made c =
    refused_2 c.args.view.now.place c.args.view.now.slips.now (held c.args.tables.now) c.from_residual-in_err-form.result c.in_err-form.field-0.0 c.from_residual-in_err-form.ensures.1
    c.args.a c.args.b joined c.in_ok-x.x c.in_ok-y.y c.in_ok-x.ensures.is c.in_ok-y.ensures.is c.in_err-form.ensures.is

pub join-requires : goal.join-requires
join-requires c =
    let p = c.args.view.now.place in
    let t = held c.args.tables.now in
    let x = c.in_ok-x.x in
    let y = c.in_ok-y.y in
    let l = under_all p.width c.args.a p.row c.requires.left in
    let r = under_all p.width c.args.b p.row c.requires.right in
    let sx = lawful_small p.width x c.in_ok-x.ensures.lawful in
    let sy = lawful_small p.width y c.in_ok-y.ensures.lawful in
    let s = within_small p.width c.in_ok-form.form c.in_ok-form.ensures.within in
    let e = join_size p t c.args.a c.args.b x y c.in_ok-form.form c.in_ok-form.ensures.is c.in_ok-x.ensures.lawful c.in_ok-y.ensures.lawful c.start_of-left.result c.start_of-right.result c.start_of-left.ensures c.start_of-right.ensures in
    record {
      left = omega (arith, l, sx.columns, c.start_of-left.ensures, c.start_of-to.ensures);
      right = omega (arith, r, sy.columns, c.start_of-right.ensures, c.start_of-to.ensures);
      within = reach c.args.tables.now c.requires.ample (omega (arith, e, s.columns, c.start_of-to.ensures));
    }

pub returns-clause-made : goal.returns-clause-made
returns-clause-made c =
    let p = c.args.view.now.place in
    let t = held c.args.tables.now in
    let x = c.in_ok-x.x in
    let y = c.in_ok-y.y in
    let form = c.in_ok-form.form in
    let g = c.in_ok-form.ensures.is in
    made_2 p c.args.view.now.slips.now t _ _ c.args.a c.args.b joined x y c.in_ok-x.ensures.is c.in_ok-y.ensures.is
    (changed_made p t _ (joined (value_from p.width t c.args.a x) (value_from p.width t c.args.b y)) form g refl x.kind c.start_of-to.result
    (λ k T. cells T c.start_of-left.result x.s ++ cells T c.start_of-right.result y.s) refl
    (join_elements p t c.args.a c.args.b x y form g c.in_ok-x.ensures.lawful c.in_ok-y.ensures.lawful c.start_of-left.result c.start_of-right.result c.start_of-left.ensures c.start_of-right.ensures) c.start_of-to.ensures c.join.ensures.value)
