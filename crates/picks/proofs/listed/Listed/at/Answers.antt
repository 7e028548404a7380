use Rattle.std.proofs.Common.{◌<◌, arith, rules}
use Rattle.std.proofs.lemmas.Int.{ints}
use Rattle.picks.specs.Indices.{index_count}
use Rattle.picks.proofs.Indexing.{count_listed, at_listed, at_interval}
use Rattle.picks.proofs.listed.Listed.at.Goals as goal

pub nth_between-requires : goal.nth_between-requires
nth_between-requires g c =
    let s = c.self.inside in
    let h : c.args.k < index_count s.index = omega (arith, count_listed s.index (g.I.Integers.seen s.integers.now s.table.now) c.args.self.now c.self.view_is c.self.invariant) in
    search rules

pub returns-in-Interval : goal.returns-in-Interval
returns-in-Interval g c =
    let s = c.self.inside in
    let T = g.I.Integers.seen s.integers.now s.table.now in
    let h : c.args.k < index_count s.index = omega (arith, count_listed s.index T c.args.self.now c.self.view_is c.self.invariant) in
    at_listed s.index T c.args.self.now c.self.view_is c.self.invariant c.args.k _ (at_interval _ _ _ c.in-Interval.low _ _ c.in-Interval.is h (omega (arith, ints)))
