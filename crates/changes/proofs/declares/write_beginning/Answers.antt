use Rattle.std.proofs.Common.{◌+◌, ◌*◌, length, sym, arith}
use Rattle.meaning.proofs.Rows.{under_all, lawful_small, within_small}
use Rattle.changes.proofs.Reading.{next_cell, one_cell}
use Rattle.changes.proofs.Taking.{taken_list}
use Rattle.changes.proofs.Declaring.{begun_resize, begun_spread, begun_unfold, begun_few}
use Rattle.tables.specs.Lent.{held}
use Rattle.tables.proofs.Reaching.{reach}
use Rattle.changes.proofs.declares.write_beginning.Goals as goal

pub resize_matrix-requires : goal.resize_matrix-requires
resize_matrix-requires c =
    let a = c.args in
    let p = a.place in
    let u = under_all p.width a.a p.row c.requires.before in
    let n = (lawful_small p.width a.y c.requires.begun.value).elements in
    let s = (within_small p.width a.form c.requires.begun.small).elements in
    let m = c.requires.ample in
    let f = c.start_of-from.ensures in
    let t = c.start_of-to.ensures in
    record { below = omega (arith, u, n, f, t); within = reach a.tables.now m (omega (arith, s, t)) }

pub spread-requires : goal.spread-requires
spread-requires c =
    let a = c.args in
    let p = a.place in
    let n = (within_small p.width a.form c.requires.begun.small).elements in
    let m = c.requires.ample in
    let f = c.start_of-from.ensures in
    let t = c.start_of-to.ensures in
    let s = sym c.if-is-2.ensures in
    let o = one_cell p.width a.a p.row (p.row * p.width + p.width) a.y c.requires.before c.requires.begun.value s (omega arith) in
    record {
      from = reach a.tables.now m (omega (arith, o, f));
      within = reach a.tables.now m (omega (arith, n, t));
    }

pub unfold_padded-requires : goal.unfold_padded-requires
unfold_padded-requires c =
    let a = c.args in
    let p = a.place in
    let tab = held a.tables.now in
    let n = (within_small p.width a.form c.requires.begun.small).elements in
    let m = c.requires.ample in
    let f = c.start_of-from.ensures in
    let t = c.start_of-to.ensures in
    let e = sym c.if-is.ensures in
    let s = sym c.if-is-2.ensures in
    let o = next_cell p.width a.a p.row (length a.tables.now.integers.now) a.y c.requires.before c.requires.begun.value (taken_list a.w a.y c.requires.begun.taken e) m.integers in
    record {
      bounds = omega (arith, o, f);
      few = begun_few p.width tab a.w a.a p.row a.y a.form c.requires.begun c.start_of-from.result c.start_of-to.result f t e s;
      within = omega (arith, n, t, m.integers);
    }

pub returns-then-is-clause-value : goal.returns-then-is-clause-value
returns-then-is-clause-value c =
    let a = c.args in
    let p = a.place in
    let t = held a.tables.now in
    let u = held c.resize_matrix.new.self in
    begun_resize p.width t a.w a.a p.row a.y a.form c.requires.begun c.start_of-from.result c.start_of-to.result c.start_of-from.ensures c.start_of-to.ensures u (sym c.if-is.ensures) c.resize_matrix.ensures.value

pub returns-then-is-2-clause-value : goal.returns-then-is-2-clause-value
returns-then-is-2-clause-value c =
    let a = c.args in
    let p = a.place in
    let t = held a.tables.now in
    let u = held c.spread.new.self in
    begun_spread p.width t a.w a.a p.row a.y a.form c.requires.begun c.start_of-from.result c.start_of-to.result c.start_of-from.ensures c.start_of-to.ensures u (sym c.if-is.ensures) (sym c.if-is-2.ensures) c.spread.ensures.value

pub returns-else-is-2-clause-value : goal.returns-else-is-2-clause-value
returns-else-is-2-clause-value c =
    let a = c.args in
    let p = a.place in
    let t = held a.tables.now in
    begun_unfold p.width t a.w a.a p.row a.y a.form c.requires.begun c.start_of-from.result c.start_of-to.result c.start_of-from.ensures c.start_of-to.ensures (sym c.if-is.ensures) (sym c.if-is-2.ensures) c.unfold_padded.new.integers c.unfold_padded.ensures
