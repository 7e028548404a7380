use Rattle.std.proofs.Common.{arith, ◌+◌, ◌*◌, rules, length}
use Rattle.std.proofs.lemmas.Result.{IfOk-from_err}
use Rattle.meaning.specs.Changes.{stored_at}
use Rattle.changes.proofs.Filling.{filled_3, answered_within}
use Rattle.changes.proofs.Reading.{next_cell}
use Rattle.changes.proofs.Storing.{ruled, by_list, store_refused, store_filled, store_above, store_under, store_seen, store_fits}
use Rattle.tables.specs.Lent.{held}
use Rattle.tables.proofs.Reaching.{reach}
use Rattle.changes.proofs.stores.store_row.Goals as goal

pub returns-in_err-form : goal.returns-in_err-form
returns-in_err-form c =
    let a = c.args in
    let p = a.view.now.place in
    let t = held a.tables.now in
    let x = c.in_ok-x.x in
    let y = c.in_ok-y.y in
    let z = c.in_ok-z.z in
    let r = c.from_residual-in_err-form.result in
    record {
      filled = filled_3 p a.v a.view.now.slips.now t t r a.v a.b a.c stored_at x y z c.in_ok-x.ensures.is c.in_ok-y.ensures.is c.in_ok-z.ensures.is
          (store_refused p t a.v a.b a.c x y z c.in_ok-y.ensures.lawful r c.in_err-form.field-0.0 c.from_residual-in_err-form.ensures.1 c.in_err-form.ensures.is);
      within = IfOk-from_err r _ c.from_residual-in_err-form.ensures.0;
      lent = search rules;
    }

pub list_in-index-requires : goal.list_in-index-requires
list_in-index-requires c =
    let a = c.args in
    let p = a.view.now.place in
    let t = held a.tables.now in
    let x = c.in_ok-x.x in
    let y = c.in_ok-y.y in
    let z = c.in_ok-z.z in
    let ly = c.in_ok-y.ensures.lawful in
    next_cell p.width a.b p.row (length a.tables.now.integers.now) y c.requires.index ly
    (by_list x y z (ruled p t a.v a.b a.c x y z ly c.in_ok-form.form c.in_ok-form.ensures.is c.in_ok-x.ensures.lawful c.in_ok-z.ensures.lawful)) c.requires.ample.integers

pub store-stored-requires : goal.store-stored-requires
store-stored-requires c =
    let a = c.args in
    let p = a.view.now.place in
    let t = held a.tables.now in
    let x = c.in_ok-x.x in
    let y = c.in_ok-y.y in
    let z = c.in_ok-z.z in
    let lx = c.in_ok-x.ensures.lawful in
    let ly = c.in_ok-y.ensures.lawful in
    let lz = c.in_ok-z.ensures.lawful in
    let form = c.in_ok-form.form in
    let g = c.in_ok-form.ensures.is in
    let to = c.start_of-to in
    let ix = c.list_in-index in
    let vs = c.cells_of-values in
    record {
      above = store_above p t a.v a.b a.c x y z ly form g lx lz to.result to.ensures ix.result ix.ensures vs.result vs.ensures c.requires.index c.requires.value c.requires.under_index c.requires.under_value;
      indices = store_under p t a.v a.b a.c x y z ly form g lx lz to.result to.ensures ix.result ix.ensures vs.result vs.ensures c.requires.index c.requires.value c.requires.under_index c.requires.under_value;
      seen = store_seen p t a.v a.b a.c x y z ly form g lx lz to.result to.ensures ix.result ix.ensures vs.result vs.ensures c.requires.index c.requires.value c.requires.under_index c.requires.under_value (length a.tables.now.integers.now) c.requires.ample.integers;
      within = reach a.tables.now c.requires.ample (store_fits p t a.v a.b a.c x y z ly form g lx lz to.result to.ensures ix.result ix.ensures vs.result vs.ensures c.requires.index c.requires.value c.requires.under_index c.requires.under_value (p.row * p.width + p.width) (omega arith));
    }

pub returns : goal.returns
returns c =
    let a = c.args in
    let p = a.view.now.place in
    let t = held a.tables.now in
    let u = held c.store-stored.new.self in
    let x = c.in_ok-x.x in
    let y = c.in_ok-y.y in
    let z = c.in_ok-z.z in
    let lx = c.in_ok-x.ensures.lawful in
    let ly = c.in_ok-y.ensures.lawful in
    let lz = c.in_ok-z.ensures.lawful in
    let form = c.in_ok-form.form in
    let g = c.in_ok-form.ensures.is in
    let to = c.start_of-to in
    let ix = c.list_in-index in
    let vs = c.cells_of-values in
    let s = c.store-stored.result in
    record {
      filled = filled_3 p a.v a.view.now.slips.now t u c.answer.result a.v a.b a.c stored_at x y z c.in_ok-x.ensures.is c.in_ok-y.ensures.is c.in_ok-z.ensures.is
          (store_filled p t a.v a.b a.c x y z ly form g lx lz to.result to.ensures ix.result ix.ensures vs.result vs.ensures u s c.answer.result c.store-stored.ensures.value c.answer.ensures);
      within = answered_within p form s c.answer.result c.answer.ensures c.in_ok-form.ensures.within;
      lent = search rules;
    }
