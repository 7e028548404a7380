use Rattle.std.proofs.Common.{◌∙◌, ap, to_z-of_z, arith}
use Rattle.element.specs.Cells.{put}
use Rattle.picks.specs.Indices.{spanned}
use Rattle.picks.proofs.Indexing.{step_one, stepped_one}
use Rattle.picks.proofs.intervals.write_interval.Goals as goal

pub step_interval-requires-clause-within : goal.step_interval-requires-clause-within
step_interval-requires-clause-within c =
    let low = c.ranges.low in
    let high = c.ranges.high in
    simp to_z-of_z (omega (arith, step_one (spanned c.args.low c.args.high)))

pub returns : goal.returns
returns c =
    let low = c.ranges.low in
    let high = c.ranges.high in
    (simp to_z-of_z at c.step_interval.ensures) ∙ ap (put c.args.table.now c.args.to) (stepped_one c.args.low c.args.high)
