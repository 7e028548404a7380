use Rattle.std.proofs.Common.{◌+◌, ◌-◌, ◌*◌, get_or, take, drop, pos, refl, ◌∙◌, to_z-of_z, w32, SFits, rules}
use Rattle.std.proofs.lemmas.Result.{err_from_is_err_and}
use Rattle.elementwise.proofs.Sums.{inner_all, inner_more, inner_faults}
use Rattle.elementwise.proofs.products.inner.Goals as goal

pub returns-in_err-sum : goal.returns-in_err-sum
returns-in_err-sum c =
    let a = c.args in
    let k = c.loop-k.k in
    let fx : SFits w32 (get_or (take (a.a + a.n - a.a) (drop a.a a.source.now)) k (pos 0)) = search rules in
    let fy : SFits w32 (get_or a.source.now (a.b + k * a.stride) (pos 0)) = search rules in
    let e = simp (to_z-of_z, c.loop-k.sum-is) at c.in_err-sum.ensures in
    let p = err_from_is_err_and c.from_residual.result c.from_residual.ensures.1 in
    rw (p.1, p.2) (inner_faults a.source.now a.a a.b a.stride a.n k c.loop-k.sum c.requires.row _ _ c.loop-k-test.true refl refl _ e ∙ (simp c.loop-k.sum-is at c.loop-k.invariant))

pub loop-k-preserved : goal.loop-k-preserved
loop-k-preserved c =
    let a = c.args in
    let k = c.loop-k.k in
    let fx : SFits w32 (get_or (take (a.a + a.n - a.a) (drop a.a a.source.now)) k (pos 0)) = search rules in
    let fy : SFits w32 (get_or a.source.now (a.b + k * a.stride) (pos 0)) = search rules in
    let fs : SFits w32 c.in_ok-sum.sum = search rules in
    let e = simp (to_z-of_z, c.loop-k.sum-is) at c.in_ok-sum.ensures in
    simp to_z-of_z (inner_more a.source.now a.a a.b a.stride a.n k c.loop-k.sum c.requires.row _ _ c.loop-k-test.true refl refl _ e ∙ (simp c.loop-k.sum-is at c.loop-k.invariant))

pub returns : goal.returns
returns c =
    let a = c.args in
    simp c.loop-k.sum-is (inner_all a.source.now a.a a.b a.stride a.n c.loop-k.k c.loop-k.sum c.requires.row c.loop-k-test.false ∙ (simp c.loop-k.sum-is at c.loop-k.invariant))
