use Rattle.std.proofs.Common.{sym, refl, ◌∙◌, arith, rules}
use Rattle.meaning.specs.Expressions.{stepped_by}
use Rattle.meaning.specs.States.{FreeAt}
use Rattle.meaning.proofs.Shells.{refused_2, made_2, left_value}
use Rattle.meaning.proofs.Rows.{under_all, within_small}
use Rattle.selections.proofs.Choosing.{read_below}
use Rattle.selections.proofs.Striding.{step_at, step_guarded, step_some, step_many, step_written}
use Rattle.tables.specs.Lent.{held}
use Rattle.tables.proofs.Reaching.{reach}
use Rattle.selections.proofs.stepping.step_row.Goals as goal

pub list_in-list-requires : goal.list_in-list-requires
list_in-list-requires c =
    let p = c.args.view.now.place in
    let u = under_all p.width c.args.a p.row c.requires.left in
    omega (arith, u, c.requires.ample.integers, c.requires.wide)

pub step_at-step-requires : goal.step_at-step-requires
step_at-step-requires c =
    let p = c.args.view.now.place in
    let u = under_all p.width c.args.b p.row c.requires.right in
    omega (arith, u, c.start_of.ensures, c.requires.ample.integers, c.requires.wide)

pub returns-in_err-form-clause-made : goal.returns-in_err-form-clause-made
returns-in_err-form-clause-made c =
    let p = c.args.view.now.place in
    let t = held c.args.tables.now in
    refused_2 p c.args.view.now.slips.now t c.from_residual-in_err-form.result c.in_err-form.field-0.0 c.from_residual-in_err-form.ensures.1
    c.args.a c.args.b stepped_by c.in_ok-x.x c.in_ok-y.y c.in_ok-x.ensures.is c.in_ok-y.ensures.is
    (c.in_err-form.ensures.is ∙ step_guarded p t c.args.a c.args.b c.in_ok-x.x c.in_ok-y.y c.in_ok-x.ensures.lawful c.in_ok-y.ensures.lawful c.list_in-list.result c.list_in-list.ensures c.start_of.result c.step_at-step.result c.start_of.ensures c.step_at-step.ensures.is)

pub write_steps-requires : goal.write_steps-requires
write_steps-requires c =
    let p = c.args.view.now.place in
    let t = held c.args.tables.now in
    let x = c.in_ok-x.x in
    let y = c.in_ok-y.y in
    let lx = c.in_ok-x.ensures.lawful in
    let ly = c.in_ok-y.ensures.lawful in
    let list = c.list_in-list.result in
    let el = c.list_in-list.ensures in
    let n = c.start_of.result in
    let step = c.step_at-step.result in
    let en = c.start_of.ensures in
    let es = c.step_at-step.ensures.is in
    let form = c.in_ok-form.form in
    let g = c.in_ok-form.ensures.is in
    let s = within_small p.width form c.in_ok-form.ensures.within in
    let m = step_many p t c.args.a c.args.b x y lx ly list el n step en es form g in
    let u = under_all p.width c.args.a p.row c.requires.left in
    record {
      some = step_some p t c.args.a c.args.b x y lx ly list el n step en es form g;
      small = c.step_at-step.ensures.small;
      below = read_below p.width t c.args.a x lx list el _ (omega (arith, u, c.start_of-to.ensures));
      near = search rules;
      within = reach c.args.tables.now c.requires.ample (omega (arith, m, s.columns, c.start_of-to.ensures));
    }

pub returns-clause-made : goal.returns-clause-made
returns-clause-made c =
    let p = c.args.view.now.place in
    let t = held c.args.tables.now in
    let x = c.in_ok-x.x in
    let y = c.in_ok-y.y in
    let lx = c.in_ok-x.ensures.lawful in
    let ly = c.in_ok-y.ensures.lawful in
    let list = c.list_in-list.result in
    let el = c.list_in-list.ensures in
    let n = c.start_of.result in
    let step = c.step_at-step.result in
    let en = c.start_of.ensures in
    let es = c.step_at-step.ensures.is in
    let form = c.in_ok-form.form in
    let g = c.in_ok-form.ensures.is in
    made_2 p c.args.view.now.slips.now t _ _ c.args.a c.args.b stepped_by x y c.in_ok-x.ensures.is c.in_ok-y.ensures.is
    (left_value p p.row (FreeAt p.width p.row) t _ (step_at p t c.args.a c.args.b x y lx ly list el n step en es) form (sym (g ∙ step_guarded p t c.args.a c.args.b x y lx ly list el n step en es)) _ refl refl
    (c.write_steps.ensures.value ∙ step_written p t c.args.a c.args.b x y lx ly list el n step en es form g c.start_of-to.result c.start_of-to.ensures))
