use Rattle.std.proofs.Common.{arith, ◌+◌, ◌*◌, rules, length}
use Rattle.std.proofs.lemmas.Result.{IfOk-from_err}
use Rattle.meaning.specs.Changes.{stored_at_two}
use Rattle.meaning.specs.Expressions.{by3}
use Rattle.meaning.specs.States.{value_from, value_in}
use Rattle.changes.proofs.Filling.{filled_with, filled_3, refused, answered_within}
use Rattle.changes.proofs.StoringTwo.{two_filled, row_below, column_below, value_below, matrix_fits}
use Rattle.tables.specs.Lent.{held}
use Rattle.tables.proofs.Reaching.{reach}
use Rattle.changes.proofs.stores.store_two_row.Goals as goal

pub returns-in_err-form : goal.returns-in_err-form
returns-in_err-form c =
    let a = c.args in
    let p = a.view.now.place in
    let t = held a.tables.now in
    let x = c.in_ok-x.x in
    let y = c.in_ok-y.y in
    let z = c.in_ok-z.z in
    let w = c.in_ok-w.w in
    let r = c.from_residual-in_err-form.result in
    record {
      filled = filled_with p a.v a.view.now.slips.now t t r a.v (λ o. by3 p.width (value_in p.width a.view.now.slips.now t) a.b a.c a.d (stored_at_two o)) x c.in_ok-x.ensures.is
          (filled_3 p a.v a.view.now.slips.now t t r a.b a.c a.d (stored_at_two (value_from p.width t a.v x)) y z w c.in_ok-y.ensures.is c.in_ok-z.ensures.is c.in_ok-w.ensures.is
          (refused p a.v t r c.in_err-form.field-0.0 c.from_residual-in_err-form.ensures.1 (stored_at_two (value_from p.width t a.v x) (value_from p.width t a.b y) (value_from p.width t a.c z) (value_from p.width t a.d w)) c.in_err-form.ensures.is));
      within = IfOk-from_err r _ c.from_residual-in_err-form.ensures.0;
      lent = search rules;
    }

pub store_at_cells-stored-requires : goal.store_at_cells-stored-requires
store_at_cells-stored-requires c =
    let a = c.args in
    let p = a.view.now.place in
    let t = held a.tables.now in
    let x = c.in_ok-x.x in
    let y = c.in_ok-y.y in
    let z = c.in_ok-z.z in
    let w = c.in_ok-w.w in
    let lx = c.in_ok-x.ensures.lawful in
    let ly = c.in_ok-y.ensures.lawful in
    let lz = c.in_ok-z.ensures.lawful in
    let lw = c.in_ok-w.ensures.lawful in
    let form = c.in_ok-form.form in
    let g = c.in_ok-form.ensures.is in
    let to = c.start_of-to in
    let row = c.start_of-row in
    let column = c.start_of-column in
    let from = c.start_of-from in
    let end = p.row * p.width + p.width in
    let is = length a.tables.now.integers.now in
    record {
      row = row_below p t a.v a.b a.c a.d x y z w form g lx ly lz lw to.result row.result column.result from.result to.ensures row.ensures column.ensures from.ensures is c.requires.ample.integers c.requires.row;
      column = column_below p t a.v a.b a.c a.d x y z w form g lx ly lz lw to.result row.result column.result from.result to.ensures row.ensures column.ensures from.ensures is c.requires.ample.integers c.requires.column;
      from = reach a.tables.now c.requires.ample (omega (arith, value_below p t a.v a.b a.c a.d x y z w form g lx ly lz lw to.result row.result column.result from.result to.ensures row.ensures column.ensures from.ensures end (omega arith) c.requires.value));
      within = reach a.tables.now c.requires.ample (matrix_fits p t a.v a.b a.c a.d x y z w form g lx ly lz lw to.result row.result column.result from.result to.ensures row.ensures column.ensures from.ensures end (omega arith) c.requires.before);
    }

pub returns : goal.returns
returns c =
    let a = c.args in
    let p = a.view.now.place in
    let t = held a.tables.now in
    let u = held c.store_at_cells-stored.new.tables in
    let x = c.in_ok-x.x in
    let y = c.in_ok-y.y in
    let z = c.in_ok-z.z in
    let w = c.in_ok-w.w in
    let lx = c.in_ok-x.ensures.lawful in
    let ly = c.in_ok-y.ensures.lawful in
    let lz = c.in_ok-z.ensures.lawful in
    let lw = c.in_ok-w.ensures.lawful in
    let form = c.in_ok-form.form in
    let g = c.in_ok-form.ensures.is in
    let to = c.start_of-to in
    let row = c.start_of-row in
    let column = c.start_of-column in
    let from = c.start_of-from in
    let s = c.store_at_cells-stored.result in
    let r = c.answer.result in
    record {
      filled = filled_with p a.v a.view.now.slips.now t u r a.v (λ o. by3 p.width (value_in p.width a.view.now.slips.now t) a.b a.c a.d (stored_at_two o)) x c.in_ok-x.ensures.is
          (filled_3 p a.v a.view.now.slips.now t u r a.b a.c a.d (stored_at_two (value_from p.width t a.v x)) y z w c.in_ok-y.ensures.is c.in_ok-z.ensures.is c.in_ok-w.ensures.is
          (two_filled p t a.v a.b a.c a.d x y z w form g lx ly lz lw to.result row.result column.result from.result to.ensures row.ensures column.ensures from.ensures u s r c.store_at_cells-stored.ensures.value c.answer.ensures));
      within = answered_within p form s r c.answer.ensures c.in_ok-form.ensures.within;
      lent = search rules;
    }
