use Rattle.std.proofs.Common.{arith, rules}
use Rattle.std.proofs.lemmas.List.{length-take}
use Rattle.element.proofs.Writes.{length_cells}
use Rattle.element.proofs.Stepping.{step_within, step_more, step_all}
use Rattle.element.proofs.steps.step_by.Goals as goal

pub offset_bounds-below-from : goal.offset_bounds-below-from
offset_bounds-below-from g c =
    let l = simp length-take at c.loop-k-test.true in
    let i = step_within c.args.n c.args.step c.loop-k.k (omega arith) (omega arith) in search rules

pub loop-k-preserved : goal.loop-k-preserved
loop-k-preserved g c = search (rules, step_more, length_cells)

pub returns : goal.returns
returns g c = search (rules, step_all)
