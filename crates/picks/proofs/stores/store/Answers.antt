use Rattle.std.proofs.Common.{◌<◌, ◌^◌, List, ℤ, length, ap, ◌∙◌, arith, rules}
use Rattle.picks.specs.Indices.{indices_of, first_outside}
use Rattle.picks.specs.Picks.{told}
use Rattle.picks.proofs.Indexing.{all_inside, length_indices}
use Rattle.picks.proofs.Picking.{told_none}
use Rattle.picks.proofs.stores.store.Goals as goal

pub check-requires : goal.check-requires
check-requires g c =
    let all : length c.args.table.now < 2 ^ 64 = search rules in
    let n = ap length c.new.ensures ∙ length_indices c.args.index (g.I.Integers.seen c.args.integers.now c.args.table.now) c.requires.seen in
    omega arith

pub store_inside-requires-clause-inside : goal.store_inside-requires-clause-inside
store_inside-requires-clause-inside g c =
    all_inside 1 c.args.have (indices_of c.args.index (g.I.Integers.seen c.args.integers.now c.args.table.now)) (told_none _ (c.in_ok-check.ensures ∙ ap (λ (js : List ℤ). told (first_outside 1 c.args.have js)) c.new.ensures))
