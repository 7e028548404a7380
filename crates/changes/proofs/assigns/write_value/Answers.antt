use Rattle.std.proofs.Common.{◌+◌, ◌*◌, length, sym, arith}
use Rattle.meaning.specs.Values.{known}
use Rattle.meaning.proofs.Rows.{under_all}
use Rattle.changes.proofs.Reading.{next_cell, one_cell}
use Rattle.changes.proofs.Taking.{taken_list}
use Rattle.changes.proofs.Assigning.{given_copy, given_spread, given_unfold, unfold_count}
use Rattle.tables.specs.Lent.{held}
use Rattle.tables.proofs.Reaching.{reach}
use Rattle.changes.proofs.assigns.write_value.Goals as goal

pub copy-requires : goal.copy-requires
copy-requires c =
    let a = c.args in
    let p = a.place in
    let l = under_all p.width a.v a.a c.requires.under in
    let u = under_all p.width a.a p.row c.requires.before in
    let n = c.area-n.ensures.small in
    let m = c.requires.ample in
    let f = c.start_of-from.ensures in
    let t = c.start_of-to.ensures in
    record { source = reach a.tables.now m (omega (arith, u, n, f)); within = reach a.tables.now m (omega (arith, l, u, n, t)) }

pub spread-requires : goal.spread-requires
spread-requires c =
    let a = c.args in
    let p = a.place in
    let l = under_all p.width a.v a.a c.requires.under in
    let u = under_all p.width a.a p.row c.requires.before in
    let n = c.area-n.ensures.small in
    let m = c.requires.ample in
    let f = c.start_of-from.ensures in
    let t = c.start_of-to.ensures in
    let s = sym c.if-is-2.ensures in
    let o = one_cell p.width a.a p.row (p.row * p.width + p.width) a.y c.requires.before c.requires.given.value s (omega arith) in
    record {
      from = reach a.tables.now m (omega (arith, o, f));
      within = reach a.tables.now m (omega (arith, l, u, n, t));
    }

pub unfold_interval-requires : goal.unfold_interval-requires
unfold_interval-requires c =
    let a = c.args in
    let p = a.place in
    let tab = held a.tables.now in
    let l = under_all p.width a.v a.a c.requires.under in
    let u = under_all p.width a.a p.row c.requires.before in
    let m = c.requires.ample in
    let f = c.start_of-from.ensures in
    let t = c.start_of-to.ensures in
    let e = sym c.if-is.ensures in
    let s = sym c.if-is-2.ensures in
    let o = next_cell p.width a.a p.row (length a.tables.now.integers.now) a.y c.requires.before c.requires.given.value (taken_list (known a.x) a.y c.requires.given.taken e) m.integers in
    let n = unfold_count p.width tab a.v a.a a.x a.y c.requires.given c.start_of-from.result c.start_of-to.result c.area-n.result f t c.area-n.ensures.value e s in
    record { bounds = omega (arith, o, f); within = omega (arith, n, l, u, t, m.integers) }

pub returns-then-is-clause-value : goal.returns-then-is-clause-value
returns-then-is-clause-value c =
    let a = c.args in
    let p = a.place in
    let t = held a.tables.now in
    let u = held c.copy.new.self in
    given_copy p.width t a.v a.a a.x a.y c.requires.given c.start_of-from.result c.start_of-to.result c.area-n.result c.start_of-from.ensures c.start_of-to.ensures c.area-n.ensures.value u (sym c.if-is.ensures) c.copy.ensures.value

pub returns-then-is-2-clause-value : goal.returns-then-is-2-clause-value
returns-then-is-2-clause-value c =
    let a = c.args in
    let p = a.place in
    let t = held a.tables.now in
    let u = held c.spread.new.self in
    given_spread p.width t a.v a.a a.x a.y c.requires.given c.start_of-from.result c.start_of-to.result c.area-n.result c.start_of-from.ensures c.start_of-to.ensures c.area-n.ensures.value u (sym c.if-is.ensures) (sym c.if-is-2.ensures) c.spread.ensures.value

pub returns-else-is-2-clause-value : goal.returns-else-is-2-clause-value
returns-else-is-2-clause-value c =
    let a = c.args in
    let p = a.place in
    let t = held a.tables.now in
    given_unfold p.width t a.v a.a a.x a.y c.requires.given c.start_of-from.result c.start_of-to.result c.area-n.result c.start_of-from.ensures c.start_of-to.ensures c.area-n.ensures.value (sym c.if-is.ensures) (sym c.if-is-2.ensures) c.unfold_interval.new.integers c.unfold_interval.ensures
