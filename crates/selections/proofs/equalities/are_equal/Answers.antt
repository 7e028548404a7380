use Rattle.std.proofs.Common.{arith}
use Rattle.meaning.proofs.Rows.{under_all}
use Rattle.tables.proofs.Reaching.{reach_shared}
use Rattle.selections.proofs.equalities.are_equal.Goals as goal

pub equal_throughout-requires : goal.equal_throughout-requires
equal_throughout-requires c =
    let p = c.args.place in
    let l = under_all p.width c.args.a p.row c.requires.left in
    let r = under_all p.width c.args.b p.row c.requires.right in
    let el = c.start_of-left.ensures in
    let er = c.start_of-right.ensures in
    let few = c.area-many.ensures.small in
    record {
      scalar = reach_shared c.args.tables.now c.requires.ample (omega (arith, r, er, c.requires.wide));
      within = reach_shared c.args.tables.now c.requires.ample (omega (arith, l, el, few));
    }

pub equal_throughout-requires-then-is-2 : goal.equal_throughout-requires-then-is-2
equal_throughout-requires-then-is-2 c =
    let p = c.args.place in
    let l = under_all p.width c.args.a p.row c.requires.left in
    let r = under_all p.width c.args.b p.row c.requires.right in
    let el = c.start_of-left.ensures in
    let er = c.start_of-right.ensures in
    let few = c.area.ensures.small in
    record {
      scalar = reach_shared c.args.tables.now c.requires.ample (omega (arith, l, el, c.requires.wide));
      within = reach_shared c.args.tables.now c.requires.ample (omega (arith, r, er, few));
    }

pub equal-requires : goal.equal-requires
equal-requires c =
    let p = c.args.place in
    let l = under_all p.width c.args.a p.row c.requires.left in
    let r = under_all p.width c.args.b p.row c.requires.right in
    let el = c.start_of-left.ensures in
    let er = c.start_of-right.ensures in
    let few = c.area-many.ensures.small in
    record {
      left = reach_shared c.args.tables.now c.requires.ample (omega (arith, l, el, few));
      right = reach_shared c.args.tables.now c.requires.ample (omega (arith, r, er, few));
    }
