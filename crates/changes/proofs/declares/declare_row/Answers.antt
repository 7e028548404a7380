use Rattle.std.proofs.Common.{rules}
use Rattle.std.proofs.lemmas.Result.{IfOk-from_err}
use Rattle.meaning.specs.Changes.{declared}
use Rattle.changes.proofs.Filling.{filled_1}
use Rattle.changes.proofs.Declaring.{declare_refused, declare_begun, declare_filled}
use Rattle.tables.specs.Lent.{held}
use Rattle.changes.proofs.declares.declare_row.Goals as goal

pub returns-in_err-form : goal.returns-in_err-form
returns-in_err-form c =
    let a = c.args in
    let p = a.view.now.place in
    let t = held a.tables.now in
    let y = c.in_ok-y.y in
    let r = c.from_residual-in_err-form.result in
    record {
      filled = filled_1 p p.row a.view.now.slips.now t t r a.a (declared a.w) y c.in_ok-y.ensures.is
          (declare_refused p t a.w a.a y c.in_ok-y.ensures.lawful r c.in_err-form.field-0.0 c.from_residual-in_err-form.ensures.1 c.in_err-form.ensures.is);
      within = IfOk-from_err r _ c.from_residual-in_err-form.ensures.0;
      lent = search rules;
    }

pub write_beginning-requires : goal.write_beginning-requires
write_beginning-requires c =
    let a = c.args in
    let t = held a.tables.now in
    record {
      before = c.requires.before;
      begun = declare_begun a.view.now.place t a.w a.a c.in_ok-y.y c.in_ok-y.ensures.lawful c.in_ok-form.form c.in_ok-form.ensures.is c.in_ok-form.ensures.within;
      ample = c.requires.ample;
    }

pub returns : goal.returns
returns c =
    let a = c.args in
    let p = a.view.now.place in
    let t = held a.tables.now in
    let u = held c.write_beginning.new.tables in
    let y = c.in_ok-y.y in
    let form = c.in_ok-form.form in
    record {
      filled = filled_1 p p.row a.view.now.slips.now t u _ a.a (declared a.w) y c.in_ok-y.ensures.is
          (declare_filled p t a.w a.a y c.in_ok-y.ensures.lawful form c.in_ok-form.ensures.is u c.write_beginning.ensures.value);
      within = c.in_ok-form.ensures.within;
      lent = search rules;
    }
