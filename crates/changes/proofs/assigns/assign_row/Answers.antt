use Rattle.std.proofs.Common.{rules}
use Rattle.std.proofs.lemmas.Result.{IfOk-from_err}
use Rattle.meaning.specs.Changes.{assigned}
use Rattle.changes.proofs.Filling.{filled_2}
use Rattle.changes.proofs.Assigning.{assign_refused, assign_given, assign_filled}
use Rattle.tables.specs.Lent.{held}
use Rattle.changes.proofs.assigns.assign_row.Goals as goal

pub returns-in_err-form : goal.returns-in_err-form
returns-in_err-form c =
    let a = c.args in
    let p = a.view.now.place in
    let t = held a.tables.now in
    let x = c.in_ok-x.x in
    let y = c.in_ok-y.y in
    let r = c.from_residual-in_err-form.result in
    record {
      filled = filled_2 p a.v a.view.now.slips.now t t r a.v a.a assigned x y c.in_ok-x.ensures.is c.in_ok-y.ensures.is
          (assign_refused p t a.v a.a x y c.in_ok-y.ensures.lawful r c.in_err-form.field-0.0 c.from_residual-in_err-form.ensures.1 c.in_err-form.ensures.is);
      within = IfOk-from_err r _ c.from_residual-in_err-form.ensures.0;
      lent = search rules;
    }

pub write_value-requires : goal.write_value-requires
write_value-requires c =
    let a = c.args in
    let t = held a.tables.now in
    record {
      before = c.requires.before;
      under = c.requires.under;
      given = assign_given a.view.now.place t a.v a.a c.in_ok-x.x c.in_ok-y.y c.in_ok-y.ensures.lawful c.in_ok-form.form c.in_ok-form.ensures.is c.in_ok-x.ensures.lawful;
      ample = c.requires.ample;
    }

pub returns : goal.returns
returns c =
    let a = c.args in
    let p = a.view.now.place in
    let t = held a.tables.now in
    let u = held c.write_value.new.tables in
    let x = c.in_ok-x.x in
    let y = c.in_ok-y.y in
    let form = c.in_ok-form.form in
    record {
      filled = filled_2 p a.v a.view.now.slips.now t u _ a.v a.a assigned x y c.in_ok-x.ensures.is c.in_ok-y.ensures.is
          (assign_filled p t a.v a.a x y c.in_ok-y.ensures.lawful form c.in_ok-form.ensures.is c.in_ok-x.ensures.lawful u c.write_value.ensures.value);
      within = c.in_ok-form.ensures.within;
      lent = search rules;
    }
