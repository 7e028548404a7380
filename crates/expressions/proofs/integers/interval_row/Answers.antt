use Rattle.std.proofs.Common.{refl, ◌∙◌, arith}
use Rattle.meaning.specs.Expressions.{interval}
use Rattle.meaning.specs.States.{tables, value_from}
use Rattle.meaning.proofs.Shells.{refused_2, made_2}
use Rattle.meaning.proofs.Rows.{under_all}
use Rattle.expressions.proofs.Bounding.{interval_guard, interval_elements}
use Rattle.expressions.proofs.Writing.{value_made}
use Rattle.expressions.proofs.integers.interval_row.Goals as goal

pub is_upward-requires : goal.is_upward-requires
is_upward-requires c =
    let p = c.args.view.now.place in
    let l = under_all p.width c.args.a p.row c.requires.left in
    let r = under_all p.width c.args.b p.row c.requires.right in
    record { left = omega (arith, l, c.start_of-low.ensures, c.requires.ample, c.requires.wide); right = omega (arith, r, c.start_of-high.ensures, c.requires.ample, c.requires.wide) }

pub returns-in_err-form : goal.returns-in_err-form
returns-in_err-form c bs cs =
    let p = c.args.view.now.place in
    let t = tables bs cs c.args.integers.now in
    refused_2 p c.args.view.now.slips.now t c.from_residual-in_err-form.result c.in_err-form.field-0.0 c.from_residual-in_err-form.ensures.1
    c.args.a c.args.b interval c.in_ok-x.x c.in_ok-y.y c.in_ok-x.ensures.is c.in_ok-y.ensures.is
    (c.in_err-form.ensures.is ∙ interval_guard p t c.args.a c.args.b c.in_ok-x.x c.in_ok-y.y c.in_ok-x.ensures.lawful c.in_ok-y.ensures.lawful c.start_of-low.result c.start_of-high.result c.start_of-low.ensures c.start_of-high.ensures c.are_bounds.result c.is_upward.result c.are_bounds.ensures c.is_upward.ensures)

pub join-requires : goal.join-requires
join-requires c =
    let p = c.args.view.now.place in
    let l = under_all p.width c.args.a p.row c.requires.left in
    let r = under_all p.width c.args.b p.row c.requires.right in
    record {
      left = omega (arith, l, c.start_of-low.ensures, c.start_of.ensures, c.requires.wide);
      right = omega (arith, r, c.start_of-high.ensures, c.start_of.ensures, c.requires.wide);
      within = omega (arith, c.start_of.ensures, c.requires.ample, c.requires.wide);
    }

pub returns : goal.returns
returns c bs cs =
    let p = c.args.view.now.place in
    let t = tables bs cs c.args.integers.now in
    let x = c.in_ok-x.x in
    let y = c.in_ok-y.y in
    let l = under_all p.width c.args.a p.row c.requires.left in
    let r = under_all p.width c.args.b p.row c.requires.right in
    let g = c.in_ok-form.ensures.is ∙ interval_guard p t c.args.a c.args.b x y c.in_ok-x.ensures.lawful c.in_ok-y.ensures.lawful c.start_of-low.result c.start_of-high.result c.start_of-low.ensures c.start_of-high.ensures c.are_bounds.result c.is_upward.result c.are_bounds.ensures c.is_upward.ensures in
    let e = interval_elements p t c.args.a c.args.b x y c.in_ok-x.ensures.lawful c.in_ok-y.ensures.lawful c.start_of-low.result c.start_of-high.result c.start_of-low.ensures c.start_of-high.ensures c.in_ok-form.form g
    (omega (arith, l, c.start_of-low.ensures, c.requires.ample, c.requires.wide)) (omega (arith, r, c.start_of-high.ensures, c.requires.ample, c.requires.wide)) in
    made_2 p c.args.view.now.slips.now t _ _ c.args.a c.args.b interval x y c.in_ok-x.ensures.is c.in_ok-y.ensures.is
    (value_made p t (interval (value_from p.width t c.args.a x) (value_from p.width t c.args.b y)) c.in_ok-form.form g refl _ c.start_of.result _ e c.start_of.ensures c.join.ensures)
