use Rattle.std.proofs.Common.{◌∙◌, arith, rules}
use Rattle.meaning.specs.Expressions.{pick_two}
use Rattle.meaning.proofs.Shells.{refused_3, made_3}
use Rattle.meaning.proofs.Rows.{under_all, lawful_small}
use Rattle.selections.proofs.Choosing.{chosen_made, read_below}
use Rattle.selections.proofs.Matrices.{cross_at, cross_guarded, cross_outside, cross_elements, cross_few}
use Rattle.tables.specs.Lent.{held}
use Rattle.tables.proofs.Reaching.{reach}
use Rattle.selections.proofs.crossing.pick_two_row.Goals as goal

pub list_in-rows-requires : goal.list_in-rows-requires
list_in-rows-requires c =
    let p = c.args.view.now.place in
    let u = under_all p.width c.args.b p.row c.requires.row in
    omega (arith, u, c.requires.ample.integers, c.requires.wide)

pub list_in-columns-requires : goal.list_in-columns-requires
list_in-columns-requires c =
    let p = c.args.view.now.place in
    let u = under_all p.width c.args.c p.row c.requires.column in
    omega (arith, u, c.requires.ample.integers, c.requires.wide)

pub returns-in_err-form-clause-made : goal.returns-in_err-form-clause-made
returns-in_err-form-clause-made c =
    let p = c.args.view.now.place in
    let t = held c.args.tables.now in
    refused_3 p c.args.view.now.slips.now t c.from_residual-in_err-form.result c.in_err-form.field-0.0 c.from_residual-in_err-form.ensures.1
    c.args.a c.args.b c.args.c pick_two c.in_ok-x.x c.in_ok-y.y c.in_ok-z.z c.in_ok-x.ensures.is c.in_ok-y.ensures.is c.in_ok-z.ensures.is
    (c.in_err-form.ensures.is ∙ cross_guarded p t c.args.a c.args.b c.args.c c.in_ok-x.x c.in_ok-y.y c.in_ok-z.z c.in_ok-y.ensures.lawful c.in_ok-z.ensures.lawful c.list_in-rows.result c.list_in-columns.result c.list_in-rows.ensures c.list_in-columns.ensures)

pub pick_matrix-picked-requires : goal.pick_matrix-picked-requires
pick_matrix-picked-requires c =
    let p = c.args.view.now.place in
    let t = held c.args.tables.now in
    let x = c.in_ok-x.x in
    let y = c.in_ok-y.y in
    let z = c.in_ok-z.z in
    let ly = c.in_ok-y.ensures.lawful in
    let lz = c.in_ok-z.ensures.lawful in
    let rows = c.list_in-rows.result in
    let columns = c.list_in-columns.result in
    let er = c.list_in-rows.ensures in
    let ec = c.list_in-columns.ensures in
    let n = cross_few p t c.args.a c.args.b c.args.c x y z ly lz rows columns er ec c.in_ok-form.form c.in_ok-form.ensures.is c.requires.wide c.in_ok-form.ensures.within in
    let w = under_all p.width c.args.a p.row c.requires.whole in
    let u = under_all p.width c.args.b p.row c.requires.row in
    let v = under_all p.width c.args.c p.row c.requires.column in
    let f = lawful_small p.width x c.in_ok-x.ensures.lawful in
    record {
      below = omega (arith, w, f.elements, c.start_of-from.ensures, c.start_of-to.ensures);
      rows_below = read_below p.width t c.args.b y ly rows er _ (omega (arith, u, c.start_of-to.ensures));
      columns_below = read_below p.width t c.args.c z lz columns ec _ (omega (arith, v, c.start_of-to.ensures));
      rows_seen = read_below p.width t c.args.b y ly rows er _ (omega (arith, u, c.requires.ample.integers));
      columns_seen = read_below p.width t c.args.c z lz columns ec _ (omega (arith, v, c.requires.ample.integers));
      few = (let r = n.rows in let s = n.columns in search rules);
      within = reach c.args.tables.now c.requires.ample (omega (arith, n.crossings, c.start_of-to.ensures));
    }

pub returns-clause-made : goal.returns-clause-made
returns-clause-made c =
    let p = c.args.view.now.place in
    let t = held c.args.tables.now in
    let x = c.in_ok-x.x in
    let y = c.in_ok-y.y in
    let z = c.in_ok-z.z in
    let ly = c.in_ok-y.ensures.lawful in
    let lz = c.in_ok-z.ensures.lawful in
    let rows = c.list_in-rows.result in
    let columns = c.list_in-columns.result in
    let er = c.list_in-rows.ensures in
    let ec = c.list_in-columns.ensures in
    let form = c.in_ok-form.form in
    let g = c.in_ok-form.ensures.is in
    made_3 p c.args.view.now.slips.now t _ c.answer.result c.args.a c.args.b c.args.c pick_two x y z c.in_ok-x.ensures.is c.in_ok-y.ensures.is c.in_ok-z.ensures.is
    (chosen_made p t _ (cross_at p t c.args.a c.args.b c.args.c x y z ly lz rows columns er ec) form (g ∙ cross_guarded p t c.args.a c.args.b c.args.c x y z ly lz rows columns er ec) _ c.start_of-to.result _ c.pick_matrix-picked.result c.answer.result
    (cross_outside p t c.args.a c.args.b c.args.c x y z ly lz rows columns er ec form g) (cross_elements p t c.args.a c.args.b c.args.c x y z ly lz rows columns er ec form g c.start_of-from.result c.start_of-from.ensures) c.start_of-to.ensures c.answer.ensures c.pick_matrix-picked.ensures.value)
