use Rattle.std.proofs.Common.{◌≡◌, arith}
use Rattle.element.proofs.Lines.{resized_more, resized_all}
use Rattle.element.proofs.matrices.resize_matrix.Goals as goal

pub loop-k-preserved : goal.loop-k-preserved
loop-k-preserved g c =
    let a = c.args in
    resized_more _ a.table.now _ _ a.from a.r a.s a.to a.rows a.columns c.loop-k.k c.requires.below c.requires.within (omega arith) (omega arith) c.loop-k.invariant c.resize.ensures

pub returns : goal.returns
returns g c =
    let a = c.args in
    let ended : c.loop-k.k ≡ c.min-kept.result = omega arith in
    resized_all _ a.table.now c.loop-k.table _ a.from a.r a.s a.to a.rows a.columns c.loop-k.k (omega arith) (omega arith) (λ h. omega arith) c.loop-k.invariant (rw (ended, ← c.NULL.ensures) c.spread.ensures)
