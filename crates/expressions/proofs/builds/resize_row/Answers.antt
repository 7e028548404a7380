use Rattle.std.proofs.Common.{◌*◌, refl, arith}
use Rattle.element.specs.Cells.{cells, rows_of}
use Rattle.element.specs.Matrices.{resized}
use Rattle.meaning.specs.Expressions.{resized_to}
use Rattle.meaning.specs.States.{value_from}
use Rattle.meaning.specs.Values.{null_of}
use Rattle.meaning.proofs.Shells.{made_1}
use Rattle.meaning.proofs.Rows.{within_small, lawful_small, under_all}
use Rattle.expressions.proofs.Building.{resize_elements}
use Rattle.expressions.proofs.Writing.{changed_made}
use Rattle.tables.specs.Lent.{held}
use Rattle.tables.proofs.Reaching.{reach}
use Rattle.expressions.proofs.builds.resize_row.Goals as goal

pub resize_matrix-requires : goal.resize_matrix-requires
resize_matrix-requires c =
    let p = c.args.view.now.place in
    let u = under_all p.width c.args.a p.row c.requires.before in
    let x = lawful_small p.width c.in_ok-x.x c.in_ok-x.ensures.lawful in
    let s = within_small p.width c.in_ok-form.form c.in_ok-form.ensures.within in
    record {
      below = omega (arith, u, x.elements, c.start_of-at.ensures, c.start_of-to.ensures);
      within = reach c.args.tables.now c.requires.ample (omega (arith, s.elements, c.start_of-to.ensures));
    }

pub returns-clause-made : goal.returns-clause-made
returns-clause-made c =
    let p = c.args.view.now.place in
    let t = held c.args.tables.now in
    let x = c.in_ok-x.x in
    let form = c.in_ok-form.form in
    let g = c.in_ok-form.ensures.is in
    made_1 p c.args.view.now.slips.now t _ _ c.args.a (resized_to c.args.r c.args.s) x c.in_ok-x.ensures.is
    (changed_made p t _ (resized_to c.args.r c.args.s (value_from p.width t c.args.a x)) form g refl x.kind c.start_of-to.result
    (λ k T. resized (null_of k) form.r form.s (rows_of x.r x.s (cells T c.start_of-at.result (x.r * x.s)))) refl
    (resize_elements p t c.args.a c.args.r c.args.s x form g c.start_of-at.result c.start_of-at.ensures) c.start_of-to.ensures c.resize_matrix.ensures.value)
