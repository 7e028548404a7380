use Rattle.std.proofs.Common.{◌∙◌, arith}
use Rattle.meaning.specs.Expressions.{pick}
use Rattle.meaning.proofs.Shells.{refused_2, made_2}
use Rattle.meaning.proofs.Rows.{under_all, lawful_small, within_small}
use Rattle.selections.proofs.Choosing.{chosen_made, read_below, pick_at, pick_guarded, pick_outside, pick_elements, pick_many}
use Rattle.tables.specs.Lent.{held}
use Rattle.tables.proofs.Reaching.{reach}
use Rattle.selections.proofs.indexing.pick_row.Goals as goal

pub list_in-list-requires : goal.list_in-list-requires
list_in-list-requires c =
    let p = c.args.view.now.place in
    let u = under_all p.width c.args.b p.row c.requires.right in
    omega (arith, u, c.requires.ample.integers, c.requires.wide)

pub returns-in_err-form-clause-made : goal.returns-in_err-form-clause-made
returns-in_err-form-clause-made c =
    let p = c.args.view.now.place in
    let t = held c.args.tables.now in
    refused_2 p c.args.view.now.slips.now t c.from_residual-in_err-form.result c.in_err-form.field-0.0 c.from_residual-in_err-form.ensures.1
    c.args.a c.args.b pick c.in_ok-x.x c.in_ok-y.y c.in_ok-x.ensures.is c.in_ok-y.ensures.is
    (c.in_err-form.ensures.is ∙ pick_guarded p t c.args.a c.args.b c.in_ok-x.x c.in_ok-y.y c.in_ok-x.ensures.lawful c.in_ok-y.ensures.lawful c.list_in-list.result c.list_in-list.ensures)

pub pick-picked-requires : goal.pick-picked-requires
pick-picked-requires c =
    let p = c.args.view.now.place in
    let t = held c.args.tables.now in
    let x = c.in_ok-x.x in
    let y = c.in_ok-y.y in
    let lx = c.in_ok-x.ensures.lawful in
    let ly = c.in_ok-y.ensures.lawful in
    let form = c.in_ok-form.form in
    let s = within_small p.width form c.in_ok-form.ensures.within in
    let n = pick_many p t c.args.a c.args.b x y lx ly c.list_in-list.result c.list_in-list.ensures form c.in_ok-form.ensures.is in
    let l = under_all p.width c.args.a p.row c.requires.left in
    let r = under_all p.width c.args.b p.row c.requires.right in
    let f = lawful_small p.width x lx in
    record {
      below = omega (arith, l, f.columns, c.start_of-from.ensures, c.start_of-to.ensures);
      indices = read_below p.width t c.args.b y ly c.list_in-list.result c.list_in-list.ensures _ (omega (arith, r, c.start_of-to.ensures));
      seen = read_below p.width t c.args.b y ly c.list_in-list.result c.list_in-list.ensures _ (omega (arith, r, c.requires.ample.integers));
      within = reach c.args.tables.now c.requires.ample (omega (arith, n, s.columns, c.start_of-to.ensures));
    }

pub returns-clause-made : goal.returns-clause-made
returns-clause-made c =
    let p = c.args.view.now.place in
    let t = held c.args.tables.now in
    let x = c.in_ok-x.x in
    let y = c.in_ok-y.y in
    let lx = c.in_ok-x.ensures.lawful in
    let ly = c.in_ok-y.ensures.lawful in
    let list = c.list_in-list.result in
    let el = c.list_in-list.ensures in
    let form = c.in_ok-form.form in
    let g = c.in_ok-form.ensures.is in
    made_2 p c.args.view.now.slips.now t _ c.answer.result c.args.a c.args.b pick x y c.in_ok-x.ensures.is c.in_ok-y.ensures.is
    (chosen_made p t _ (pick_at p t c.args.a c.args.b x y lx ly list el) form (g ∙ pick_guarded p t c.args.a c.args.b x y lx ly list el) _ c.start_of-to.result _ c.pick-picked.result c.answer.result
    (pick_outside p t c.args.a c.args.b x y lx ly list el form g) (pick_elements p t c.args.a c.args.b x y lx ly list el form g c.start_of-from.result c.start_of-from.ensures) c.start_of-to.ensures c.answer.ensures c.pick-picked.ensures.value)
