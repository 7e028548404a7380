use Rattle.std.proofs.Common.{[], refl, arith}
use Rattle.meaning.specs.Expressions.{multiplied}
use Rattle.meaning.specs.States.{tables, value_from}
use Rattle.meaning.proofs.Shells.{refused_2, made_2}
use Rattle.meaning.proofs.Rows.{within_small}
use Rattle.expressions.proofs.Multiplying.{product_elements, left_below, right_below, same_area}
use Rattle.expressions.proofs.Writing.{wrote_value, wrote_fault}
use Rattle.expressions.proofs.products.multiply_row.Goals as goal

pub returns-in_err-form : goal.returns-in_err-form
returns-in_err-form c bs cs =
    refused_2 c.args.view.now.place c.args.view.now.slips.now (tables bs cs c.args.integers.now) c.from_residual-in_err-form.result c.in_err-form.field-0.0 c.from_residual-in_err-form.ensures.1
    c.args.a c.args.b multiplied c.in_ok-x.x c.in_ok-y.y c.in_ok-x.ensures.is c.in_ok-y.ensures.is c.in_err-form.ensures.is

pub write_product-worked-requires : goal.write_product-worked-requires
write_product-worked-requires c =
    let p = c.args.view.now.place in
    let t = tables [] [] c.args.integers.now in
    let x = c.in_ok-x.x in
    let y = c.in_ok-y.y in
    let form = c.in_ok-form.form in
    let lx = c.in_ok-x.ensures.lawful in
    let ly = c.in_ok-y.ensures.lawful in
    let g = c.in_ok-form.ensures.is in
    let s = within_small p.width form c.in_ok-form.ensures.within in
    record {
      left = left_below p t c.args.a c.args.b x y form g lx ly c.start_of-left.result c.start_of-right.result c.start_of-left.ensures c.start_of-right.ensures c.start_of-to.result c.start_of-to.ensures c.requires.left;
      right = right_below p t c.args.a c.args.b x y form g lx ly c.start_of-left.result c.start_of-right.result c.start_of-left.ensures c.start_of-right.ensures c.start_of-to.result c.start_of-to.ensures c.requires.right;
      within = omega (arith, s.elements, c.start_of-to.ensures, c.requires.ample, same_area p t c.args.a c.args.b x y form g lx ly);
    }

pub returns-in_err-at_row : goal.returns-in_err-at_row
returns-in_err-at_row c bs cs =
    let p = c.args.view.now.place in
    let t = tables bs cs c.args.integers.now in
    let x = c.in_ok-x.x in
    let y = c.in_ok-y.y in
    let form = c.in_ok-form.form in
    let lx = c.in_ok-x.ensures.lawful in
    let ly = c.in_ok-y.ensures.lawful in
    let g = c.in_ok-form.ensures.is in
    let s = within_small p.width form c.in_ok-form.ensures.within in
    let e = product_elements p t c.args.a c.args.b x y form g lx ly c.start_of-left.result c.start_of-right.result c.start_of-left.ensures c.start_of-right.ensures in
    made_2 p c.args.view.now.slips.now t _ c.from_residual-in_err-at_row.result c.args.a c.args.b multiplied x y c.in_ok-x.ensures.is c.in_ok-y.ensures.is
    (wrote_fault p t (multiplied (value_from p.width t c.args.a x) (value_from p.width t c.args.b y)) form g refl _ e c.start_of-to.result _ c.start_of-to.ensures _ c.write_product-worked.result c.write_product-worked.ensures
    (omega (arith, s.elements, same_area p t c.args.a c.args.b x y form g lx ly)) c.write_product-worked.auto.integers c.from_residual-in_err-at_row.result c.in_err-at_row.field-0.0 c.from_residual-in_err-at_row.ensures.1 c.in_err-at_row.ensures)

pub returns : goal.returns
returns c bs cs =
    let p = c.args.view.now.place in
    let t = tables bs cs c.args.integers.now in
    let x = c.in_ok-x.x in
    let y = c.in_ok-y.y in
    let form = c.in_ok-form.form in
    let lx = c.in_ok-x.ensures.lawful in
    let ly = c.in_ok-y.ensures.lawful in
    let g = c.in_ok-form.ensures.is in
    let e = product_elements p t c.args.a c.args.b x y form g lx ly c.start_of-left.result c.start_of-right.result c.start_of-left.ensures c.start_of-right.ensures in
    made_2 p c.args.view.now.slips.now t _ _ c.args.a c.args.b multiplied x y c.in_ok-x.ensures.is c.in_ok-y.ensures.is
    (wrote_value p t (multiplied (value_from p.width t c.args.a x) (value_from p.width t c.args.b y)) form g refl _ e c.start_of-to.result _ c.start_of-to.ensures _ c.write_product-worked.result c.write_product-worked.ensures
    c.in_ok-at_row.ensures)
